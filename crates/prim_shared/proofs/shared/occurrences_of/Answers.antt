use Rattle.std.proofs.Common.{ap, ◌∙◌, Some, option_map}
use Rattle.std.specs.declared.cmp.Ordering.{Ordering}
use Rattle.gem_object.specs.Order.{value_order}
use Rattle.gem_object.specs.declared.value.Value.{Value}
use Rattle.prim_shared.proofs.Order.{order_of_values}
use Rattle.gem_object.specs.rc_counter_bag.Bag.{count}
use Rattle.prim_shared.proofs.shared.occurrences_of.Goals as goal

pub returns : goal.returns
returns g c = ap Some (c.count.ensures
    ∙ ap (λ (cmp : Value → Value → Ordering). count cmp c.args.item.now c.in_ok-bag_of.field-0.now) order_of_values)
    ∙ ap (option_map (count value_order c.args.item.now)) c.in_ok-bag_of.ensures
