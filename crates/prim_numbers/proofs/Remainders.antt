-- The remainder by a negative number.
use Rattle.std.specs.Prelude.{◌≡◌, ℕ, suc, ◌+◌, ◌*◌, ◌/◌, ◌%◌, ◌-◌, ◌<◌, ℤ, pos, negsuc, neg_ℤ, ◌-ℤ◌, ◌*ℤ◌, int_lt, true}
use Rattle.std.proofs.Common.{sym, ap, ◌∙◌, arith}
use Rattle.std.specs.Int.{int_div_euclid, int_rem_euclid}
use Rattle.std.proofs.Math.Nat.{div-add-mod', mod-lt, zero-lt-suc}
use Rattle.std.proofs.lemmas.Int.{ints}
use Rattle.prim_rules.specs.Numbers.{floor_remainder}

of_whole : (number multiple left : ℕ) → multiple + left ≡ number
    → pos 0 -ℤ pos left ≡ neg_ℤ (pos number) -ℤ neg_ℤ (pos multiple)
of_whole number multiple left whole = omega (arith, ints, whole)

of_negative : (number multiple left before : ℕ) → multiple + left ≡ number → left < suc before
    → pos 0 -ℤ pos (suc before - 1 - left) ≡ pos (suc number) -ℤ pos (multiple + suc before)
of_negative number multiple left before whole below = omega (arith, ints, whole, below)

multiple_of : (times before : ℕ) → suc times * suc before ≡ times * suc before + suc before
multiple_of times before = omega arith

-- minus the remainder of a number by a positive one
turned_remainder : (number : ℤ) (before : ℕ) → pos 0 -ℤ int_rem_euclid number (pos (suc before))
    ≡ neg_ℤ number -ℤ int_div_euclid number (pos (suc before)) *ℤ negsuc before
turned_remainder (pos number) before = of_whole number (number / suc before * suc before) (number % suc before)
    (div-add-mod' number (suc before))
turned_remainder (negsuc number) before =
    of_negative number (number / suc before * suc before) (number % suc before) before
    (div-add-mod' number (suc before)) (mod-lt number (zero-lt-suc before))
    ∙ ap (λ (multiple : ℕ). pos (suc number) -ℤ pos multiple) (sym (multiple_of (number / suc before) before))

twice : (number : ℤ) → neg_ℤ (neg_ℤ number) ≡ number
twice number = omega (arith, ints)

by_negsuc : (number : ℤ) (before : ℕ)
    → pos 0 -ℤ int_rem_euclid (neg_ℤ number) (pos (suc before)) ≡ floor_remainder number (negsuc before)
by_negsuc number before = turned_remainder (neg_ℤ number) before
    ∙ ap (λ (one : ℤ). one -ℤ int_div_euclid (neg_ℤ number) (pos (suc before)) *ℤ negsuc before) (twice number)

turned : (number : ℤ) → pos 0 -ℤ number ≡ neg_ℤ number
turned number = omega (arith, ints)

not_below : (number : ℕ) → int_lt (pos number) (pos 0) ≡ true → ⊥
not_below number below = grind (arith, ints, below)

pub by_negative : (number divisor : ℤ) → int_lt divisor (pos 0) ≡ true
    → pos 0 -ℤ int_rem_euclid (pos 0 -ℤ number) (pos 0 -ℤ divisor) ≡ floor_remainder number divisor
by_negative number (pos divisor) below = absurd (not_below divisor below)
by_negative number (negsuc before) below =
    let over : pos 0 -ℤ negsuc before ≡ pos (suc before) = omega (arith, ints) in
    rw (over, turned number) (by_negsuc number before)
