use Rattle.std.proofs.Common.{ap, ◌∙◌, option_and_then}
use Rattle.std.specs.declared.cmp.Ordering.{Ordering}
use Rattle.gem_object.specs.Order.{value_order}
use Rattle.gem_object.specs.declared.value.Value.{Value}
use Rattle.prim_shared.proofs.Order.{order_of_values}
use Rattle.gem_object.specs.rc_dict.Dict.{entry}
use Rattle.prim_shared.proofs.shared.entry_of.Goals as goal

pub returns : goal.returns
returns g c = c.get.ensures
    ∙ ap (λ (cmp : Value → Value → Ordering). entry cmp c.args.key.now c.in_ok-dictionary_of.field-0.now) order_of_values
    ∙ ap (option_and_then (entry value_order c.args.key.now)) c.in_ok-dictionary_of.ensures
