-- The equality and the order that the code has of values are those of the definitions.
use Rattle.std.proofs.Common.{◌≡◌, rules, List, ap, subst, ◌∙◌}
use Rattle.std.proofs.Math.Path.{fun_ext}
use Rattle.std.specs.Cmp.{IsTotalOrder}
use Rattle.std.specs.Ordering.{is_eq, ordering_reverse}
use Rattle.std.specs.declared.cmp.Ordering.{Ordering}
use Rattle.std.specs.declared.cmp.Ordering.TheVariants.{Less, Equal, Greater}
use Rattle.std.proofs.Common.{refl}
use Rattle.gem_object.specs.insertion_map.Pairs.{entry_of, with_pair}
use Rattle.gem_object.specs.contracts.value.ValuePartialEq.TheImpl as equality
use Rattle.gem_object.specs.contracts.value.ValueOrd.TheImpl as order
use Rattle.gem_object.specs.contracts.value.ValueOrd.TheImpl.Laws.{matches_eq-law, total-law}
use Rattle.gem_object.specs.Order.{value_order, same_value}
use Rattle.gem_object.specs.declared.value.Value.{Value}

alike : (value other : Value) → order.ghosts.cmp value other ≡ value_order value other
alike = search rules

pub same_order : order.ghosts.cmp ≡ value_order
same_order = fun_ext (λ value. fun_ext (alike value))

pub total : IsTotalOrder value_order
total = subst IsTotalOrder same_order total-law

same : (value other : Value) → equality.ghosts.eq value other ≡ same_value value other
same value other = matches_eq-law value other ∙ ap is_eq (alike value other)

pub same_values : equality.ghosts.eq ≡ same_value
same_values = fun_ext (λ value. fun_ext (same value))

pub same_entry : (key : Value) (pairs : List (Value × Value))
    → entry_of equality.ghosts.eq key pairs ≡ entry_of same_value key pairs
same_entry key pairs = ap (λ eq. entry_of eq key pairs) same_values

pub same_put : (key value : Value) (pairs : List (Value × Value))
    → with_pair equality.ghosts.eq key value pairs ≡ with_pair same_value key value pairs
same_put key value pairs = ap (λ eq. with_pair eq key value pairs) same_values

turned : (o : Ordering) → is_eq (ordering_reverse o) ≡ is_eq o
turned Less = refl
turned Equal = refl
turned Greater = refl

pub symmetric : (value other : Value) → same_value value other ≡ same_value other value
symmetric value other = ap is_eq (total.antisymm value other) ∙ turned (value_order other value)
