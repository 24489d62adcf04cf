-- The bits of an integer.
use Rattle.std.specs.Prelude.{ℕ, ℤ, pos, negsuc}

-- a number that isn't negative as it is, and a negative one, -(n + 1), as n: with its bits turned
-- round
abbrev pub turned : ℤ → ℕ
turned (pos number) = number
turned (negsuc before) = before
