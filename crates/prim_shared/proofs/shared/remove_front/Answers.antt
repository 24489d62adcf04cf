use Rattle.std.proofs.Common.{sym, ◌∙◌}
use Rattle.std.specs.List.{slice_get}
use Rattle.prim_rules.specs.Receivers.{queue_in}
use Rattle.prim_shared.proofs.Steps.{looked_up}
use Rattle.prim_shared.proofs.Fronts.{front_goes}
use Rattle.prim_shared.proofs.shared.remove_front.Goals as goal

pub returns : goal.returns
returns g c = λ object held there holds.
    front_goes (record { name = c.args.name; object = object; held = held }) held.items c.in-Some.front
    (looked_up queue_in (λ queue. slice_get queue.items 0) c.args.name (g.O.Objects.seen c.args.objects.now) there holds
    (sym c.in-Some.is ∙ c.in_ok-front.ensures))
    (rw c.in_ok-clone.ensures.cases at (c.answer_updated.ensures object there))
