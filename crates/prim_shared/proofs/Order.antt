-- The order of values is that of their definition.
use Rattle.std.proofs.Common.{◌≡◌, rules}
use Rattle.std.proofs.Math.Path.{fun_ext}
use Rattle.gem_object.specs.contracts.value.ValueOrd.TheImpl as order
use Rattle.gem_object.specs.Order.{value_order}
use Rattle.gem_object.specs.declared.value.Value.{Value}

in_order : (value other : Value) → order.ghosts.cmp value other ≡ value_order value other
in_order = search rules

pub order_of_values : order.ghosts.cmp ≡ value_order
order_of_values = fun_ext (λ value. fun_ext (in_order value))
