use Rattle.std.proofs.Common.{◌∙◌, sym}
use Rattle.object_guard.specs.Spelled.{is_entry}
use Rattle.object_guard.proofs.Walks.{one_holds, one_fails}
use Rattle.object_guard.proofs.spelled.are_entries.Goals as goal

pub returns-then-not-is_entry : goal.returns-then-not-is_entry
returns-then-not-is_entry c = one_fails is_entry c.args.pairs.now c.loop-at.at (c.in-Some.pair.0.now, c.in-Some.pair.1.now) (sym c.in-Some.ensures)
    (sym c.is_entry.ensures ∙ c.if-not-is_entry.true)

pub loop-at-preserved : goal.loop-at-preserved
loop-at-preserved c = one_holds is_entry c.args.pairs.now c.loop-at.at (c.in-Some.pair.0.now, c.in-Some.pair.1.now) (sym c.in-Some.ensures)
    c.loop-at.invariant (sym c.is_entry.ensures ∙ c.if-not-is_entry.false)
