-- Shifts by any count: none above 61 gives another answer than 61.
use Rattle.std.specs.Prelude.{◌≡◌, ℕ, zero, suc, ◌-◌, ◌*◌, ◌/◌, ◌^◌, ◌<◌, ◌≤◌, min, ℤ, pos, negsuc, neg_ℤ, ◌*ℤ◌, Bool, true, false, ◌&&◌, nat_le}
use Rattle.std.specs.Int.{int_shr}
use Rattle.std.proofs.Common.{refl, sym, ap, ◌∙◌, arith}
use Rattle.std.proofs.Math.Bool.{false≢true}
use Rattle.std.proofs.Math.Nat.{min-eq_left, min-eq_right, pow-le-pow_right, zero-lt-suc, zero-mul, div-eq_of_lt, le_of_lt, lt_of_lt_of_le}
use Rattle.std.proofs.lemmas.Bool.{leb-true, leb-false, lt-leb}
use Rattle.gem_object.specs.texts.SmallInteger.{is_small_integer}
use Rattle.prim_rules.specs.Numbers.{most_shift, shifted}

abbrev is_zero : ℤ → Bool
is_zero (pos zero) = true
is_zero (pos (suc number)) = false
is_zero (negsuc number) = false

-- a number times a large power is in range only where it is 0
too_large : (number power : ℕ) → 2 ^ 61 ≤ power → nat_le (suc number * power) (2 ^ 60 - 1) ≡ false
too_large number power large = lt-leb (suc number * power) (2 ^ 60 - 1) (omega (arith, large))

too_small : (product : ℕ) → 2 ^ 61 ≤ product → is_small_integer (neg_ℤ (pos product)) ≡ false
too_small product large =
    let next : product ≡ suc (product - 1) = omega (arith, large) in
    ap (λ (some : ℕ). is_small_integer (neg_ℤ (pos some))) next
    ∙ ap (λ (test : Bool). test && true)
    (lt-leb (product - 1) (2 ^ 60 - 1) (omega (arith, large)))

far : (number : ℤ) (power : ℕ) → 2 ^ 61 ≤ power
    → is_small_integer (number *ℤ pos power) ≡ is_zero number
far (pos zero) power large = ap (λ (product : ℕ). is_small_integer (pos product)) (zero-mul power)
far (pos (suc number)) power large = too_large number power large
far (negsuc number) power large = too_small (suc number * power) (omega (arith, large))

-- of a count that is at most 61, and of one above it
near : (count : ℕ) → nat_le count most_shift ≡ true → min count most_shift ≡ count
near count is_near = min-eq_left (leb-true count most_shift is_near)

past : (count : ℕ) → nat_le count most_shift ≡ false → most_shift < count
past count is_past = leb-false count most_shift is_past

most : (count : ℕ) → nat_le count most_shift ≡ false → min count most_shift ≡ most_shift
most count is_past = min-eq_right (le_of_lt (past count is_past))

large_power : (count : ℕ) → nat_le count most_shift ≡ false → 2 ^ 61 ≤ 2 ^ count
large_power count is_past = pow-le-pow_right (zero-lt-suc 1) (le_of_lt (past count is_past))

pub left_in_range : (number : ℤ) (count : ℕ)
    → is_small_integer (shifted number (pos count))
    ≡ is_small_integer (number *ℤ pos (2 ^ count))
left_in_range number count = by (nat_le count most_shift) refl where
  by : (is_near : Bool) → nat_le count most_shift ≡ is_near
      → is_small_integer (shifted number (pos count))
      ≡ is_small_integer (number *ℤ pos (2 ^ count))
  by true is_near =
      ap (λ (some : ℕ). is_small_integer (number *ℤ pos (2 ^ some))) (near count is_near)
  by false is_past =
      ap (λ (some : ℕ). is_small_integer (number *ℤ pos (2 ^ some))) (most count is_past)
      ∙ far number (2 ^ 61) (omega arith)
      ∙ sym (far number (2 ^ count) (large_power count is_past))

nothing : (number : ℤ) (power other : ℕ) → is_zero number ≡ true
    → number *ℤ pos power ≡ number *ℤ pos other
nothing (pos zero) power other same =
    ap (λ (product : ℕ). pos product) (zero-mul power ∙ sym (zero-mul other))
nothing (pos (suc number)) power other same = absurd (false≢true same)
nothing (negsuc number) power other same = absurd (false≢true same)

pub left_is_product : (number : ℤ) (count : ℕ)
    → is_small_integer (number *ℤ pos (2 ^ count)) ≡ true
    → shifted number (pos count) ≡ number *ℤ pos (2 ^ count)
left_is_product number count small = by (nat_le count most_shift) refl where
  by : (is_near : Bool) → nat_le count most_shift ≡ is_near
      → shifted number (pos count) ≡ number *ℤ pos (2 ^ count)
  by true is_near = ap (λ (some : ℕ). number *ℤ pos (2 ^ some)) (near count is_near)
  by false is_past = nothing number (2 ^ min count most_shift) (2 ^ count)
      (sym (far number (2 ^ count) (large_power count is_past)) ∙ small)

-- a quotient by a large power is 0
nothing_left : (number count : ℕ) → number ≤ 2 ^ 60 - 1 → nat_le count most_shift ≡ false
    → number / 2 ^ min count most_shift ≡ number / 2 ^ count
nothing_left number count small is_past =
    ap (λ (some : ℕ). number / 2 ^ some) (most count is_past)
    ∙ div-eq_of_lt (omega (arith, small))
    ∙ sym (div-eq_of_lt (lt_of_lt_of_le (omega (arith, small)) (large_power count is_past)))

quotients : (number count : ℕ) → number ≤ 2 ^ 60 - 1
    → number / 2 ^ min count most_shift ≡ number / 2 ^ count
quotients number count small = by (nat_le count most_shift) refl where
  by : (is_near : Bool) → nat_le count most_shift ≡ is_near
      → number / 2 ^ min count most_shift ≡ number / 2 ^ count
  by true is_near = ap (λ (some : ℕ). number / 2 ^ some) (near count is_near)
  by false is_past = nothing_left number count small is_past

left_of_both : (test : Bool) → test && true ≡ true → test ≡ true
left_of_both true same = refl
left_of_both false same = same

pub right_is_quotient : (number : ℤ) (before : ℕ) → is_small_integer number ≡ true
    → shifted number (negsuc before) ≡ int_shr number (suc before)
right_is_quotient (pos number) before small = ap (λ (left : ℕ). pos left)
    (quotients number (suc before) (leb-true number (2 ^ 60 - 1) small))
right_is_quotient (negsuc number) before small = ap (λ (left : ℕ). negsuc left)
    (quotients number (suc before)
    (leb-true number (2 ^ 60 - 1) (left_of_both (nat_le number (2 ^ 60 - 1)) small)))
