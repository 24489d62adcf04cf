-- The largest serial among names.
use Rattle.std.proofs.Common.{◌≡◌, ℕ, ◌+◌, ◌*◌, ◌^◌, ◌<◌, ◌≤◌, max, Bool, true, false, cond, List, [], ◌∷◌, fold, Some, None, lt_of_not-le, refl, sym, ap, ◌∙◌, arith}
use Rattle.std.specs.Ordering.{nat_cmp, is_eq, eq_by_cmp}
use Rattle.std.specs.Cmp.{tied_itself}
use Rattle.std.specs.FinMap.{find, entries, get-entries}
use Rattle.std.proofs.lemmas.Cmp.{nat_cmp_total}
use Rattle.std.proofs.lemmas.Option.{none-some}
use Rattle.gem_object.specs.gem_value.Oid.{serial_of}
use Rattle.gem_object.specs.declared.object.Object.{Object}
use Rattle.gem_image.specs.Image.{Image}
use Rattle.radix_pages.specs.Next.{IsNext}
use Rattle.gem_meaning.specs.Opened.{largest_serial}

-- the largest serial so far, and those of more names
abbrev pub larger : ℕ → ℕ × Object → ℕ
larger largest entry = max largest (serial_of entry.0)

-- a bound of all that are found bounds the largest
pub at_most : (bound most : ℕ) (list : List (ℕ × Object)) → most ≤ bound
    → ((name : ℕ) (object : Object) → find nat_cmp name list ≡ Some object → serial_of name ≤ bound)
    → fold larger most list ≤ bound
at_most bound most [] first all = first
at_most bound most (entry ∷ rest) first all =
    let here = all entry.0 entry.1 (ap (λ o. cond (is_eq o) (Some entry.1) (find nat_cmp entry.0 rest)) (tied_itself nat_cmp_total entry.0)) in
    at_most bound (larger most entry) rest (omega (arith, here, first)) later
  where
    on_test : (b : Bool) (name : ℕ) (object : Object) → eq_by_cmp nat_cmp name entry.0 ≡ b
        → find nat_cmp name rest ≡ Some object → serial_of name ≤ bound
    on_test true name object is found = all name entry.1
        (ap (λ b. cond b (Some entry.1) (find nat_cmp name rest)) is)
    on_test false name object is found = all name object
        (ap (λ b. cond b (Some entry.1) (find nat_cmp name rest)) is ∙ found)

    later : (name : ℕ) (object : Object) → find nat_cmp name rest ≡ Some object → serial_of name ≤ bound
    later name object found = on_test (eq_by_cmp nat_cmp name entry.0) name object refl found

below_next : (serial name : ℕ) → name < (serial + 1) * 2 ^ 24 → serial_of name ≤ serial
below_next serial name below = omega (arith, below)

-- no name has a serial above this one, so it bounds the largest
pub no_more_serials : (image : Image) (serial : ℕ) → IsNext image ((serial + 1) * 2 ^ 24) None
    → largest_serial image ≤ serial
no_more_serials image serial none = at_most serial 0 (entries image) (omega arith) each
  where
    each : (name : ℕ) (object : Object) → find nat_cmp name (entries image) ≡ Some object → serial_of name ≤ serial
    each name object found = below_next serial name (lt_of_not-le (λ reaches.
        absurd (none-some object (sym (none name reaches) ∙ (get-entries image name ∙ found)))))
