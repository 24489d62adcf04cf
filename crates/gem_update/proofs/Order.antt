-- The order that the code has of values is that of the definitions.
use Rattle.std.proofs.Common.{◌≡◌, subst, rules}
use Rattle.std.proofs.Math.Path.{fun_ext}
use Rattle.std.specs.declared.cmp.Ordering.{Ordering}
use Rattle.gem_object.specs.Order.{value_order}
use Rattle.gem_object.specs.contracts.value.ValueOrd.TheImpl.{cmp-value}
use Rattle.gem_object.specs.declared.value.Value.{Value}

answers_alike : (x y : Value) → cmp-value.it x y ≡ value_order x y
answers_alike x y = search rules

same_order : cmp-value.it ≡ value_order
same_order = fun_ext (λ x. fun_ext (answers_alike x))

-- what holds of the one holds of the other
pub in_order : (P : (Value → Value → Ordering) → Type 0) → P cmp-value.it → P value_order
in_order P holds = subst P same_order holds
