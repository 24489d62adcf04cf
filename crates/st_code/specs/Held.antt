-- What a way brings to a place.
use Rattle.std.specs.Prelude.{ℕ, List}

-- How many values stand on the stack, the numbers of variables of the scopes that are open, the
-- innermost one first, and how many of these were open at the start of the block.
pub record Held : Type 0 where
  pub height : ℕ
  pub scopes : List ℕ
  pub around : ℕ
