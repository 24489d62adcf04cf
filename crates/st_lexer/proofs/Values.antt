-- The number that digits stand for, digit by digit.
use Rattle.std.proofs.Common.{◌≡◌, ℕ, ◌+◌, ◌*◌, ◌-◌, ◌/◌, ◌^◌, ◌<◌, ◌≤◌, [], ◌∷◌, length, get_or, drop, refl, ap, ◌∙◌}
use Rattle.std.proofs.Common.{arith}
use Rattle.std.specs.Prelude.{fold}
use Rattle.std.proofs.Math.ListN.{drop_of_length-le}
use Rattle.std.proofs.Math.Nat.{mul-le-mul_left, div-lt_iff_lt-mul, le-div_iff_mul-le}
use Rattle.texts.specs.Bytes.{Bytes}
use Rattle.texts.specs.declared.integers.TheConstants.{INTEGER_LIMIT}
use Rattle.st_grammar.specs.Tokens.{value_of, digit_value}
use Rattle.st_lexer.proofs.Places.{from_place}

-- what is read so far, and what the digits from a place on make of it
abbrev pub go_on : (radix value : ℕ) → Bytes → ℕ
go_on radix value digits = fold (λ v b. v * radix + digit_value b) value digits

pub record ValueFrom (radix : ℕ) (digits : Bytes) (at value : ℕ) : Type 0 where
  pub rest : value_of radix digits ≡ go_on radix value (drop at digits)
  pub small : value < INTEGER_LIMIT

pub value_starts : (radix : ℕ) (digits : Bytes) → ValueFrom radix digits 0 0
value_starts radix digits = record { rest = refl; small = omega arith }

times_at_least : (value radix : ℕ) → 1 ≤ radix → value ≤ value * radix
times_at_least value radix h = omega (arith, mul-le-mul_left value h)

-- more digits make no number smaller
pub grows : (radix value : ℕ) (digits : Bytes) → 1 ≤ radix → value ≤ go_on radix value digits
grows radix value [] h = omega arith
grows radix value (b ∷ bs) h = let more = grows radix (value * radix + digit_value b) bs h in omega
    (arith, more, times_at_least value radix h)

pub value_step : (radix : ℕ) (digits : Bytes) (at value : ℕ) → at < length digits → ValueFrom radix digits at value
    → value * radix + digit_value (get_or digits at 0) < INTEGER_LIMIT
    → ValueFrom radix digits (at + 1) (value * radix + digit_value (get_or digits at 0))
value_step radix digits at value h s small = record
    { rest = s.rest ∙ ap (go_on radix value) (from_place digits at h); small = small }

pub value_large : (radix : ℕ) (digits : Bytes) (at value : ℕ) → 1 ≤ radix → at < length digits
    → ValueFrom radix digits at value → INTEGER_LIMIT ≤ value * radix + digit_value (get_or digits at 0)
    → INTEGER_LIMIT ≤ value_of radix digits
value_large radix digits at value some h s large =
    let e : value_of radix digits
    ≡ go_on radix (value * radix + digit_value (get_or digits at 0)) (drop (at + 1) digits) = s.rest
    ∙ ap (go_on radix value) (from_place digits at h) in
    omega (arith, e, grows radix (value * radix + digit_value (get_or digits at 0)) (drop (at + 1) digits) some, large)

pub value_all : (radix : ℕ) (digits : Bytes) (at value : ℕ) → length digits ≤ at → ValueFrom radix digits at value
    → value_of radix digits ≡ value
value_all radix digits at value h s = s.rest ∙ ap (go_on radix value) (drop_of_length-le digits h)

-- the test of the code: whether another digit would be too much
pub test_above : (value radix digit : ℕ) → 1 ≤ radix → digit < 256 → ((INTEGER_LIMIT - 1) - digit) / radix < value
    → INTEGER_LIMIT ≤ value * radix + digit
test_above value radix digit some small h = let above : (INTEGER_LIMIT - 1) - digit < value * radix =
    (div-lt_iff_lt-mul (omega arith)).0 h in omega arith

pub test_within : (value radix digit : ℕ) → 1 ≤ radix → digit < 256 → value ≤ ((INTEGER_LIMIT - 1) - digit) / radix
    → value * radix + digit < INTEGER_LIMIT
test_within value radix digit some small h = let within : value * radix
    ≤ (INTEGER_LIMIT - 1) - digit = (le-div_iff_mul-le (omega arith)).0 h in omega arith
