use Rattle.std.proofs.Common.{is_some, ap}
use Rattle.gem_object.specs.rc_dict.Dict.{entry}
use Rattle.gem_object.specs.Order.{value_order}
use Rattle.prim_rules.specs.Receivers.{shared_pairs_in}
use Rattle.prim_shared.proofs.Steps.{looked_up}
use Rattle.prim_shared.proofs.shared.has_entry.Goals as goal

pub returns-in-Some : goal.returns-in-Some
returns-in-Some g c = λ object held there holds. ap is_some
    (looked_up shared_pairs_in (entry value_order c.args.key.now) c.args.name (g.O.Objects.seen c.args.objects.now) there holds c.in-Some.ensures)

pub returns-in-None : goal.returns-in-None
returns-in-None g c = λ object held there holds. ap is_some
    (looked_up shared_pairs_in (entry value_order c.args.key.now) c.args.name (g.O.Objects.seen c.args.objects.now) there holds c.in-None.ensures)
