-- Quotients that are rounded down, and their remainders.
use Rattle.std.specs.Prelude.{◌≡◌, ℕ, suc, ◌+◌, ◌*◌, ◌/◌, ◌%◌, ◌<◌, ℤ, pos, negsuc, neg_ℤ, ◌+ℤ◌, ◌-ℤ◌, ◌≤ℤ◌, ◌<ℤ◌}
use Rattle.std.proofs.Common.{sym, subst, arith}
use Rattle.std.proofs.Math.Nat.{div-add-mod', mod-lt, zero-lt-suc}
use Rattle.std.proofs.lemmas.Int.{ints}
use Rattle.prim_rules.specs.Numbers.{floor_remainder}

pub makes_whole : (part number : ℤ) → part +ℤ (number -ℤ part) ≡ number
makes_whole part number = omega (arith, ints)

-- what is left of a number above a multiple, and of the one after -(n + 1)
above : (number multiple left divisor : ℕ) → multiple + left ≡ number → left < divisor
    → (pos 0 ≤ℤ (pos number -ℤ pos multiple)) × ((pos number -ℤ pos multiple) <ℤ pos divisor)
above number multiple left divisor whole below =
    (omega (arith, ints, whole), omega (arith, ints, whole, below))

below_zero : (number multiple left before : ℕ) → multiple + left ≡ number → left < suc before
    → (pos 0 ≤ℤ (negsuc number -ℤ neg_ℤ (pos (multiple + suc before))))
    × ((negsuc number -ℤ neg_ℤ (pos (multiple + suc before))) <ℤ pos (suc before))
below_zero number multiple left before whole below =
    (omega (arith, ints, whole, below), omega (arith, ints, whole, below))

-- the parts of a multiple
multiple_of : (times before : ℕ) → suc times * suc before ≡ times * suc before + suc before
multiple_of times before = omega arith

-- the remainder by a positive number
pub by_positive : (number : ℤ) (before : ℕ)
    → (pos 0 ≤ℤ floor_remainder number (pos (suc before)))
    × (floor_remainder number (pos (suc before)) <ℤ pos (suc before))
by_positive (pos number) before =
    above number (number / suc before * suc before) (number % suc before) (suc before)
    (div-add-mod' number (suc before)) (mod-lt number (zero-lt-suc before))
by_positive (negsuc number) before =
    subst (λ (multiple : ℕ). (pos 0 ≤ℤ (negsuc number -ℤ neg_ℤ (pos multiple)))
    × ((negsuc number -ℤ neg_ℤ (pos multiple)) <ℤ pos (suc before)))
    (sym (multiple_of (number / suc before) before))
    (below_zero number (number / suc before * suc before) (number % suc before) before
    (div-add-mod' number (suc before)) (mod-lt number (zero-lt-suc before)))
