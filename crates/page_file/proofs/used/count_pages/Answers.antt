use Rattle.std.proofs.Common.{refl}
use Rattle.extent_plan.proofs.Counting.{all_counted}
use Rattle.extent_plan.specs.Totals.{pages_at}
use Rattle.page_file.proofs.used.count_pages.Goals as goal

pub returns : goal.returns
returns c = all_counted pages_at refl c.loop-place.count c.loop-place.rest.now c.args.places.now c.in_default.ensures.cases
    c.loop-place.invariant.0 c.loop-place.invariant.1
