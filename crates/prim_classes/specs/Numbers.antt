-- The numbers of the primitives of this crate.
use Rattle.std.specs.Prelude.{ℕ, Bool, ◌&&◌, ◌||◌, nat_le}

abbrev pub is_between : (first last number : ℕ) → Bool
is_between first last number = nat_le first number && nat_le number last

-- whether a number is one of 1 to 9, 28 to 32 and 52 to 60
abbrev pub is_own : ℕ → Bool
is_own number = is_between 1 9 number || (is_between 28 32 number || is_between 52 60 number)
