-- What the bytes of a number meet.
use Rattle.std.specs.Prelude.{◌≡◌, ℕ, ◌<◌, ◌≤◌, true, take, drop}
use Rattle.std.specs.List.{prefix_len}
use Rattle.std.specs.Char.{is_ascii_digit}
use Rattle.texts.specs.Bytes.{Bytes}
use Rattle.texts.specs.declared.integers.TheConstants.{INTEGER_LIMIT}
use Rattle.st_grammar.specs.Tokens.{begins_with, value_of, number_value}

-- how many digits stand at the front
abbrev pub front_len : Bytes → ℕ
front_len bytes = prefix_len is_ascii_digit bytes

-- the number that the digits at the front stand for
abbrev pub front_value : Bytes → ℕ
front_value bytes = value_of 10 (take (front_len bytes) bytes)

-- an `r` stands after the digits at the front
abbrev pub has_radix : Bytes → Type 0
has_radix bytes = begins_with 114 (drop (front_len bytes) bytes) ≡ true

-- the bytes stand for a number that isn't too large, and their radix is one
pub record IsNumber (bytes : Bytes) : Type 0 where
  pub radix : has_radix bytes → (1 ≤ front_value bytes) × (front_value bytes ≤ 36)
  pub small : number_value bytes < INTEGER_LIMIT
