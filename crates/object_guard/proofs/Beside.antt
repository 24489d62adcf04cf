-- What is seen of new objects beside a state.
use Rattle.std.proofs.Common.{◌≡◌, ◌∙◌, refl, sym, ap, ℕ, suc, ◌+◌, ◌-◌, ◌<◌, ◌≤◌, Bool, true, false, cond, nat_eq, nat_le, Option, Some, None, List, [], ◌∷◌, length, option_map, is_some, ◌^◌, inl, inr, arith}
use Rattle.std.specs.List.{slice_get}
use Rattle.std.specs.Option.{option_or}
use Rattle.std.proofs.lemmas.Bool.{eqb-true, eqb-false, le-leb, lt-leb, cases_order}
use Rattle.gem_object.specs.declared.object.Object.{Object}
use Rattle.object_programs.specs.Fixed.{Fixed}
use Rattle.object_programs.specs.Guard.{Parts}
use Rattle.object_guard.specs.Parts.{fixed_part, with_objects, new_object}
use Rattle.object_guard.specs.Missing.{HaveNames}

at_first : (first : ℕ) (object : Object) (objects : List Object) → new_object first (object ∷ objects) first ≡ Some object
at_first first object objects =
    ap (λ b. cond b (slice_get (object ∷ objects) (first - first)) None) (le-leb first first (omega arith))
    ∙ ap (λ (n : ℕ). slice_get (object ∷ objects) n) (let zero : first - first ≡ 0 = omega arith in zero)

above : (first : ℕ) (object : Object) (objects : List Object) (name : ℕ) → first < name
    → new_object (first + 1) objects name ≡ new_object first (object ∷ objects) name
above first object objects name later =
    ap (λ b. cond b (slice_get objects (name - (first + 1))) None) (le-leb (first + 1) name (omega arith))
    ∙ sym (ap (λ b. cond b (slice_get (object ∷ objects) (name - first)) None) (le-leb first name (omega arith))
    ∙ ap (λ (n : ℕ). slice_get (object ∷ objects) n) (let next : name - first ≡ suc (name - (first + 1)) = omega arith in next))

under : (first : ℕ) (objects : List Object) (name : ℕ) → name < first → new_object first objects name ≡ None
under first objects name before = ap (λ b. cond b (slice_get objects (name - first)) None) (lt-leb first name before)

abbrev seen_by : Option Object → Option Fixed → Option Fixed
seen_by found other = option_or (option_map fixed_part found) other

no_objects : (first name : ℕ) (b : Bool) → cond b (slice_get {X = Object} [] (name - first)) None ≡ None
no_objects first name true = refl
no_objects first name false = refl

module _ (parts : Parts) (name : ℕ) where
  first_seen : (object : Object) (objects : List Object) (first : ℕ) (b : Bool) → nat_eq name first ≡ b
      → with_objects (first + 1) objects parts name ≡ seen_by (new_object (first + 1) objects name) (parts name)
      → cond b (Some (fixed_part object)) (with_objects (first + 1) objects parts name)
      ≡ seen_by (new_object first (object ∷ objects) name) (parts name)
  first_seen object objects first true is more = sym (ap (λ found. seen_by found (parts name))
      (ap (new_object first (object ∷ objects)) (eqb-true name first is) ∙ at_first first object objects))
  first_seen object objects first false not more = elim (cases_order name first) [
    | inl same ↦ absurd (eqb-false name first not same)
    | inr other ↦ elim other [
      | inl earlier ↦ more
          ∙ ap (λ found. seen_by found (parts name)) (under (first + 1) objects name (omega (arith, earlier)))
          ∙ sym (ap (λ found. seen_by found (parts name)) (under first (object ∷ objects) name earlier))
      | inr later ↦ more ∙ ap (λ found. seen_by found (parts name)) (above first object objects name later)
    ]
  ]

  seen : (objects : List Object) (first : ℕ)
      → with_objects first objects parts name ≡ seen_by (new_object first objects name) (parts name)
  seen [] first = sym (ap (λ found. seen_by found (parts name)) (no_objects first name (nat_le first name)))
  seen (object ∷ objects) first = first_seen object objects first (nat_eq name first) refl (seen objects (first + 1))

  pub seen_new : (first : ℕ) (objects : List Object) (object : Object) → Some object ≡ new_object first objects name
      → Some (fixed_part object) ≡ with_objects first objects parts name
  seen_new first objects object is = sym (seen objects first ∙ ap (λ found. seen_by found (parts name)) (sym is))

  pub seen_old : (first : ℕ) (objects : List Object) → None ≡ new_object first objects name
      → parts name ≡ with_objects first objects parts name
  seen_old first objects is = sym (seen objects first ∙ ap (λ found. seen_by found (parts name)) (sym is))

-- the names of new objects are names
first_named : (parts : Parts) (object : Object) (objects : List Object) (first name : ℕ) (b : Bool) → nat_eq name first ≡ b
    → first < 2 ^ 48 → (is_some (with_objects (first + 1) objects parts name) ≡ true → name < 2 ^ 48)
    → is_some (cond b (Some (fixed_part object)) (with_objects (first + 1) objects parts name)) ≡ true → name < 2 ^ 48
first_named parts object objects first name true is below more there = let same = eqb-true name first is in omega (arith, same, below)
first_named parts object objects first name false is below more there = more there

pub names_beside : (parts : Parts) (objects : List Object) (first : ℕ) → HaveNames parts → first + length objects ≤ 2 ^ 48
    → HaveNames (with_objects first objects parts)
names_beside parts [] first named within name = named name
names_beside parts (object ∷ objects) first named within name =
    first_named parts object objects first name (nat_eq name first) refl (omega (arith, within))
    (names_beside parts objects (first + 1) named (omega (arith, within)) name)
