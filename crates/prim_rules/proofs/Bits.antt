-- The bits of results in two's complement.
use Rattle.std.specs.Prelude.{◌≡◌, ℕ, zero, suc, ◌+◌, ◌-◌, ◌%◌, ◌<◌, min, max, ℤ, pos, negsuc, bit_and, bit_xor}
use Rattle.std.specs.Int.{bit_at}
use Rattle.std.specs.Int.Bits.{xor_add_and, and_comm}
use Rattle.std.proofs.Common.{refl, sym, ap, ◌∙◌, arith}
use Rattle.std.proofs.lemmas.Nat.Bits.{bit_at_and, bit_at_or, bit_at_xor, bit_at-lt, same_from_bits}
use Rattle.prim_rules.specs.Numbers.{bit_of, bits_and, bits_or, bits_xor}

-- a bit is 0 or 1, so what holds of these holds of any two bits
one_bit : (P : ℕ → Type 0) → P 0 → P 1 → (bit : ℕ) → bit < 2 → P bit
one_bit P at_zero at_one zero below = at_zero
one_bit P at_zero at_one (suc zero) below = at_one
one_bit P at_zero at_one (suc (suc bit)) below = absurd (omega arith)

two_bits : (P : ℕ → ℕ → Type 0) → P 0 0 → P 0 1 → P 1 0 → P 1 1
    → (number other place : ℕ) → P (bit_at number place) (bit_at other place)
two_bits P none second first both number other place =
    one_bit (λ bit. P bit (bit_at other place))
    (one_bit (P 0) none second (bit_at other place) (bit_at-lt other place))
    (one_bit (P 1) first both (bit_at other place) (bit_at-lt other place))
    (bit_at number place) (bit_at-lt number place)

-- the bits of a number that another lacks
kept : (number other : ℕ) → bit_and number (bit_and number other) ≡ bit_and number other
kept number other = same_from_bits _ _ (λ place.
    bit_at_and number (bit_and number other) place
    ∙ ap (λ (bit : ℕ). min (bit_at number place) bit) (bit_at_and number other place)
    ∙ two_bits (λ x y. min x (min x y) ≡ min x y) refl refl refl refl number other place
    ∙ sym (bit_at_and number other place))

difference : (number other : ℕ)
    → number - bit_and number other ≡ bit_xor number (bit_and number other)
difference number other =
    omega (arith, xor_add_and number (bit_and number other), kept number other)

bit_at_difference : (number other place : ℕ) → bit_at (number - bit_and number other) place
    ≡ min (bit_at number place) (1 - bit_at other place)
bit_at_difference number other place =
    ap (λ (left : ℕ). bit_at left place) (difference number other)
    ∙ bit_at_xor number (bit_and number other) place
    ∙ ap (λ (bit : ℕ). (bit_at number place + bit) % 2) (bit_at_and number other place)
    ∙ two_bits (λ x y. (x + min x y) % 2 ≡ min x (1 - y)) refl refl refl refl number other place

bit_at_other_difference : (number other place : ℕ)
    → bit_at (other - bit_and number other) place
    ≡ min (bit_at other place) (1 - bit_at number place)
bit_at_other_difference number other place =
    ap (λ (kept : ℕ). bit_at (other - kept) place) (and_comm number other)
    ∙ bit_at_difference other number place

-- the bit is turned round
turned : {bit other : ℕ} → bit ≡ other → 1 - bit ≡ 1 - other
turned same = ap (λ (bit : ℕ). 1 - bit) same

pub bit_of_and : (number other : ℤ) (place : ℕ) → bit_of (bits_and number other) place
    ≡ min (bit_of number place) (bit_of other place)
bit_of_and (pos number) (pos other) place = bit_at_and number other place
bit_of_and (pos number) (negsuc other) place = bit_at_difference number other place
bit_of_and (negsuc number) (pos other) place = bit_at_other_difference number other place
    ∙ two_bits (λ x y. min y (1 - x) ≡ min (1 - x) y) refl refl refl refl number other place
bit_of_and (negsuc number) (negsuc other) place = turned (bit_at_or number other place)
    ∙ two_bits (λ x y. 1 - max x y ≡ min (1 - x) (1 - y)) refl refl refl refl number other place

pub bit_of_or : (number other : ℤ) (place : ℕ) → bit_of (bits_or number other) place
    ≡ max (bit_of number place) (bit_of other place)
bit_of_or (pos number) (pos other) place = bit_at_or number other place
bit_of_or (pos number) (negsuc other) place = turned (bit_at_other_difference number other place)
    ∙ two_bits (λ x y. 1 - min y (1 - x) ≡ max x (1 - y)) refl refl refl refl number other place
bit_of_or (negsuc number) (pos other) place = turned (bit_at_difference number other place)
    ∙ two_bits (λ x y. 1 - min x (1 - y) ≡ max (1 - x) y) refl refl refl refl number other place
bit_of_or (negsuc number) (negsuc other) place = turned (bit_at_and number other place)
    ∙ two_bits (λ x y. 1 - min x y ≡ max (1 - x) (1 - y)) refl refl refl refl number other place

pub bit_of_xor : (number other : ℤ) (place : ℕ) → bit_of (bits_xor number other) place
    ≡ (bit_of number place + bit_of other place) % 2
bit_of_xor (pos number) (pos other) place = bit_at_xor number other place
bit_of_xor (pos number) (negsuc other) place = turned (bit_at_xor number other place)
    ∙ two_bits (λ x y. 1 - (x + y) % 2 ≡ (x + (1 - y)) % 2) refl refl refl refl number other place
bit_of_xor (negsuc number) (pos other) place = turned (bit_at_xor number other place)
    ∙ two_bits (λ x y. 1 - (x + y) % 2 ≡ ((1 - x) + y) % 2) refl refl refl refl number other place
bit_of_xor (negsuc number) (negsuc other) place = bit_at_xor number other place
    ∙ two_bits (λ x y. (x + y) % 2 ≡ ((1 - x) + (1 - y)) % 2) refl refl refl refl number other
    place
