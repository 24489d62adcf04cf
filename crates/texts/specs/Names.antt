-- Names of things and of users.
use Rattle.std.specs.Prelude.{Bool, false, ◌&&◌, nat_le, [], ◌∷◌, length}
use Rattle.std.specs.List.{list_all}
use Rattle.std.specs.Char.{is_ascii_alphabetic, is_ascii_alphanumeric}
use Rattle.texts.specs.Bytes.{Bytes}
use Rattle.texts.specs.NameBytes.{starts_name, is_name_byte}
use Rattle.texts.specs.declared.limits.TheConstants.{USER_LIMIT}

-- a letter or `_`, and then letters, digits and `_`
abbrev pub is_name : Bytes → Bool
is_name [] = false
is_name (b ∷ bs) = starts_name b && list_all is_name_byte bs

-- a letter, and then letters and digits
abbrev pub is_letters_and_digits : Bytes → Bool
is_letters_and_digits [] = false
is_letters_and_digits (b ∷ bs) = is_ascii_alphabetic b && list_all is_ascii_alphanumeric bs

-- a letter with letters and digits after it, at most 64 in all
abbrev pub is_user_name : Bytes → Bool
is_user_name name = is_letters_and_digits name && nat_le (length name) USER_LIMIT
