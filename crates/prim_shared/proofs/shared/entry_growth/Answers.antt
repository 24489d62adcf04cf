use Rattle.std.proofs.Common.{cond, is_some, Option, ap}
use Rattle.gem_object.specs.rc_dict.Dict.{entry}
use Rattle.gem_object.specs.Order.{value_order}
use Rattle.prim_rules.specs.Receivers.{shared_pairs_in}
use Rattle.gem_object.specs.declared.value.Value.{Value}
use Rattle.prim_shared.proofs.Steps.{looked_up}
use Rattle.prim_shared.proofs.shared.entry_growth.Goals as goal

pub returns-in-Some : goal.returns-in-Some
returns-in-Some g c = λ object held there holds. ap (λ (found : Option Value). cond (is_some found) 0 2)
    (looked_up shared_pairs_in (entry value_order c.args.key.now) c.args.name (g.O.Objects.seen c.args.objects.now) there holds c.in-Some.ensures)

pub returns-in-None : goal.returns-in-None
returns-in-None g c = λ object held there holds. ap (λ (found : Option Value). cond (is_some found) 0 2)
    (looked_up shared_pairs_in (entry value_order c.args.key.now) c.args.name (g.O.Objects.seen c.args.objects.now) there holds c.in-None.ensures)
