-- Values are equal exactly where they are the same.
use Rattle.std.proofs.Common.{◌≡◌, rules, ap, ◌∙◌}
use Rattle.std.specs.Ordering.{is_eq}
use Rattle.gem_object.specs.contracts.value.ValuePartialEq.TheImpl as equality
use Rattle.gem_object.specs.contracts.value.ValueOrd.TheImpl as order
use Rattle.gem_object.specs.contracts.value.ValueOrd.TheImpl.Laws.{matches_eq-law}
use Rattle.gem_object.specs.Order.{value_order, same_value}
use Rattle.gem_object.specs.declared.value.Value.{Value}

in_order : (value other : Value) → order.ghosts.cmp value other ≡ value_order value other
in_order = search rules

pub same : (value other : Value) → equality.ghosts.eq value other ≡ same_value value other
same value other = matches_eq-law value other ∙ ap is_eq (in_order value other)
