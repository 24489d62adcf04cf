-- The bytes of names.
use Rattle.std.specs.Prelude.{ℕ, Bool, ◌||◌, ◌==◌}
use Rattle.std.specs.Char.{is_ascii_digit, is_ascii_alphabetic}

-- whether a name may begin with the byte: a letter or `_`
abbrev pub starts_name : ℕ → Bool
starts_name b = is_ascii_alphabetic b || (b == 95)

-- whether a name may have the byte: a letter, a digit or `_`
abbrev pub is_name_byte : ℕ → Bool
is_name_byte b = starts_name b || is_ascii_digit b
