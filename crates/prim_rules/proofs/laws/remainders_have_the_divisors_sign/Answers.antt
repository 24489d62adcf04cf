use Rattle.std.specs.Prelude.{◌*ℤ◌}
use Rattle.prim_rules.specs.Numbers.{floor_quotient}
use Rattle.prim_rules.proofs.Division.{makes_whole, by_positive}
use Rattle.prim_rules.proofs.laws.remainders_have_the_divisors_sign.Goals as goal

pub returns-clause-whole : goal.returns-clause-whole
returns-clause-whole c = λ number divisor.
    makes_whole (floor_quotient number divisor *ℤ divisor) number

pub returns-clause-positive : goal.returns-clause-positive
returns-clause-positive c = by_positive
