use Rattle.std.proofs.Common.{◌∙◌, sym}
use Rattle.object_programs.specs.Spelled.{is_storable}
use Rattle.object_guard.proofs.Walks.{one_holds, one_fails}
use Rattle.object_guard.proofs.spelled.are_waiting.Goals as goal

pub returns-then-not-is_storable : goal.returns-then-not-is_storable
returns-then-not-is_storable c = one_fails is_storable c.args.queue.now.items c.loop-at.at c.in-Some.item.now (sym c.in-Some.ensures)
    (sym c.is_storable.ensures ∙ c.if-not-is_storable.true)

pub loop-at-preserved : goal.loop-at-preserved
loop-at-preserved c = one_holds is_storable c.args.queue.now.items c.loop-at.at c.in-Some.item.now (sym c.in-Some.ensures)
    c.loop-at.invariant (sym c.is_storable.ensures ∙ c.if-not-is_storable.false)
