use Rattle.std.proofs.Common.{◌∙◌, sym}
use Rattle.running_objects.specs.Fitting.{is_known_value}
use Rattle.object_guard.proofs.Walks.{one_holds, one_fails}
use Rattle.object_guard.proofs.known.are_waiting_known.Goals as goal

pub returns-then-not-knows : goal.returns-then-not-knows
returns-then-not-knows g c = one_fails (is_known_value (g.S.Sees.parts c.args.state.now)) c.args.queue.now.items c.loop-at.at c.in-Some.item.now (sym c.in-Some.ensures)
    (sym c.knows.ensures ∙ c.if-not-knows.true)

pub loop-at-preserved : goal.loop-at-preserved
loop-at-preserved g c = one_holds (is_known_value (g.S.Sees.parts c.args.state.now)) c.args.queue.now.items c.loop-at.at c.in-Some.item.now (sym c.in-Some.ensures)
    c.loop-at.invariant (sym c.knows.ensures ∙ c.if-not-knows.false)
