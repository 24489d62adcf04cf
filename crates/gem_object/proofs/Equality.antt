-- Values are equal exactly where their order says so, and what a dictionary does by their equality.
use Rattle.std.proofs.Common.{◌≡◌, rules, ap, ◌∙◌, List}
use Rattle.std.proofs.Math.Path.{fun_ext}
use Rattle.std.specs.Ordering.{is_eq}
use Rattle.insertion_map.specs.Pairs.{entry_of, with_pair, without_key}
use Rattle.gem_object.specs.contracts.value.ValuePartialEq.TheImpl as equality
use Rattle.gem_object.specs.contracts.value.ValueOrd.TheImpl as order
use Rattle.gem_object.specs.contracts.value.ValueOrd.TheImpl.Laws.{matches_eq-law}
use Rattle.gem_object.specs.Order.{value_order, same_value}
use Rattle.gem_object.specs.declared.value.Value.{Value}

in_order : (value other : Value) → order.ghosts.cmp value other ≡ value_order value other
in_order = search rules

pub same : (value other : Value) → equality.ghosts.eq value other ≡ same_value value other
same value other = matches_eq-law value other ∙ ap is_eq (in_order value other)

same_values : equality.ghosts.eq ≡ same_value
same_values = fun_ext (λ value. fun_ext (same value))

pub same_entry : (key : Value) (pairs : List (Value × Value))
    → entry_of equality.ghosts.eq key pairs ≡ entry_of same_value key pairs
same_entry key pairs = ap (λ eq. entry_of eq key pairs) same_values

pub same_put : (key value : Value) (pairs : List (Value × Value))
    → with_pair equality.ghosts.eq key value pairs ≡ with_pair same_value key value pairs
same_put key value pairs = ap (λ eq. with_pair eq key value pairs) same_values

pub same_rest : (key : Value) (pairs : List (Value × Value))
    → without_key equality.ghosts.eq key pairs ≡ without_key same_value key pairs
same_rest key pairs = ap (λ eq. without_key eq key pairs) same_values
