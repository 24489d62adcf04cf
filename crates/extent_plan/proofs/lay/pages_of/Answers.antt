use Rattle.std.proofs.Common.{refl}
use Rattle.extent_plan.proofs.Counting.{all_counted}
use Rattle.extent_plan.specs.Laying.{pages_of_drafts}
use Rattle.extent_plan.proofs.lay.pages_of.Goals as goal

pub returns : goal.returns
returns c = all_counted pages_of_drafts refl c.loop-draft.count c.loop-draft.rest.now c.args.drafts.now c.in_default.ensures.cases
    c.loop-draft.invariant.0 c.loop-draft.invariant.1
