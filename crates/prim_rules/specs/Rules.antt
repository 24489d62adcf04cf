-- The rule of each primitive, by its number.
use Rattle.std.specs.Prelude.{ℕ, cond, nat_le}
use Rattle.prim_rules.specs.FirstRules.{Rule, first_rule}
use Rattle.prim_rules.specs.LaterRules.{later_rule}

module _ {B : Type 0} where
  -- the rule of the primitive with this number, from 1 to 96; E5 where there is none
  unfoldable pub rule_of : ℕ → Rule B
  rule_of number = cond (nat_le number 53) (first_rule number) (later_rule number)
