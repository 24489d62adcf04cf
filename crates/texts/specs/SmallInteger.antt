-- The integers of the language: from -2^60 to 2^60 - 1.
use Rattle.std.specs.Prelude.{ℤ, Bool, ◌&&◌, int_le}
use Rattle.texts.specs.declared.integers.TheConstants.{SMALLEST_INTEGER, LARGEST_INTEGER}

-- whether a number is one of them
abbrev pub is_small_integer : ℤ → Bool
is_small_integer z = int_le SMALLEST_INTEGER z && int_le z LARGEST_INTEGER
