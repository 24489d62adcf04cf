use Rattle.prim_rules.proofs.Shifts.{left_in_range, left_is_product, right_is_quotient}
use Rattle.prim_rules.proofs.laws.shifts_are_products_and_quotients.Goals as goal

pub returns-clause-in_range : goal.returns-clause-in_range
returns-clause-in_range c = left_in_range

pub returns-clause-product : goal.returns-clause-product
returns-clause-product c = left_is_product

pub returns-clause-quotient : goal.returns-clause-quotient
returns-clause-quotient c = right_is_quotient
