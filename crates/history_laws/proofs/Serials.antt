-- The numbers of names by serial and counter, and the largest serial of an image.
use Rattle.std.proofs.Common.{◌≡◌, ◌≢◌, ℕ, ◌+◌, ◌-◌, ◌^◌, ◌≤◌, ◌<◌, Bool, true, false, cond, max, List, [], ◌∷◌, Option, Some, None, is_some, refl, sym, ap, ◌∙◌, arith}
use Rattle.std.specs.Ordering.{nat_cmp, eq_by_cmp}
use Rattle.std.specs.List.{fold}
use Rattle.std.specs.FinMap.{get, entries, get-entries}
use Rattle.std.specs.FinMap.Entries.{find}
use Rattle.std.proofs.lemmas.Bool.{false≢true}
use Rattle.gem_meaning.specs.gem_object.declared.object.Object.{Object}
use Rattle.gem_meaning.specs.gem_image.Image.{Image}
use Rattle.gem_meaning.specs.gem_value.Oid.{oid_number, serial_of}
use Rattle.gem_meaning.specs.Opened.{Opened, largest_serial, base_serial, session_serial}
use Rattle.history_laws.proofs.Effects.{tied}

pub serial_is : (serial counter : ℕ) → counter < 2 ^ 24 → serial_of (oid_number serial counter) ≡ serial
serial_is serial counter below = omega (arith, below)

-- sessions have serials of their own
pub serials_differ : (base session other counter drawn : ℕ) → 1 ≤ session → 1 ≤ other → session ≢ other
    → counter < 2 ^ 24 → drawn < 2 ^ 24
    → oid_number (base + (session - 1)) counter ≢ oid_number (base + (other - 1)) drawn
serials_differ base session other counter drawn one two apart below under same =
    apart (omega (arith, one, two, below, under, same))

abbrev larger : ℕ → ℕ × Object → ℕ
larger largest entry = max largest (serial_of entry.0)

grows : (es : List (ℕ × Object)) (start : ℕ) → start ≤ fold larger start es
grows [] start = omega arith
grows (e ∷ es) start = let rest = grows es (max start (serial_of e.0)) in omega (arith, rest)

at_most_first : (name : ℕ) (e : ℕ × Object) (es : List (ℕ × Object)) (start : ℕ) (here : Bool)
    → eq_by_cmp nat_cmp name e.0 ≡ here
    → ((from : ℕ) → is_some (find nat_cmp name es) ≡ true → serial_of name ≤ fold larger from es)
    → is_some (cond here (Some e.1) (find nat_cmp name es)) ≡ true
    → serial_of name ≤ fold larger (max start (serial_of e.0)) es
at_most_first name e es start true is rest there =
    let same : serial_of name ≡ serial_of e.0 = ap serial_of (tied name e.0 is) in
    let more = grows es (max start (serial_of e.0)) in
    omega (arith, same, more)
at_most_first name e es start false is rest there = rest (max start (serial_of e.0)) there

at_most : (name : ℕ) (es : List (ℕ × Object)) (start : ℕ) → is_some (find nat_cmp name es) ≡ true
    → serial_of name ≤ fold larger start es
at_most name [] start there = absurd (false≢true there)
at_most name (e ∷ es) start there = at_most_first name e es start (eq_by_cmp nat_cmp name e.0) refl
    (λ from. at_most name es from) there

pub serial_at_most : (image : Image) (name : ℕ) → is_some (get image name) ≡ true
    → serial_of name ≤ largest_serial image
serial_at_most image name there =
    at_most name (entries image) 0 (sym (ap is_some (get-entries image name)) ∙ there)

-- no object of the opened image has a name of a session
pub none_at_opening : (o : Opened) (session counter : ℕ) → counter < 2 ^ 24
    → get o.image (oid_number (session_serial o session) counter) ≡ None
unfolding base_serial
none_at_opening o session counter below =
    none_of (get o.image (oid_number (session_serial o session) counter)) (λ some.
    let most = serial_at_most o.image (oid_number (session_serial o session) counter) some in
    let serial = serial_is (session_serial o session) counter below in
    omega (arith, most, serial))
  where
    none_of : (found : Option Object) → (is_some found ≡ true → ⊥) → found ≡ None
    none_of None never = refl
    none_of (Some object) never = absurd (never refl)
