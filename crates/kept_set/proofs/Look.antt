-- What is found among objects, and among those of other names.
use Rattle.std.proofs.Common.{◌≡◌, ◌≢◌, ℕ, ◌+◌, ◌≤◌, Bool, true, false, cond, not, [], ◌∷◌, length, Option, Some, None, refl, sym, ap, ◌∙◌, arith}
use Rattle.std.specs.Ordering.{nat_cmp, is_eq, eq_by_cmp}
use Rattle.std.specs.declared.cmp.Ordering.{Ordering}
use Rattle.std.specs.declared.cmp.Ordering.TheVariants.{Less, Equal, Greater}
use Rattle.std.specs.FinMap.Entries.{find-where_key}
use Rattle.std.proofs.lemmas.Bool.{false≢true}
use Rattle.std.proofs.lemmas.Option.{none-some, same_Some}
use Rattle.std.proofs.lemmas.Cmp.{nat_cmp_total}
use Rattle.std.specs.Cmp.{tied_itself}
use Rattle.std.proofs.lemmas.Map.Lookups.{exact_unsigned}
use Rattle.gem_object.specs.References.{references_of}
use Rattle.gem_object.specs.declared.object.Object.{Object}
use Rattle.kept_set.specs.Kept.{Objects, object_of, without, reference_count}

-- a test answers alike at names that compare alike
pub alike : (p : ℕ → Bool) (name other : ℕ) → nat_cmp name other ≡ Equal → p other ≡ p name
alike p name other tie = ap p (sym (exact_unsigned name other tie))

pub cond_some : {X : Type 0} (b : Bool) (o : Option X) (x : X) → cond b o None ≡ Some x → o ≡ Some x
cond_some true o x is = is
cond_some false o x is = absurd (none-some x is)

-- nothing is found, unless something is
pub none_unless : {X : Type 0} (o : Option X) → ((x : X) → o ≡ Some x → ⊥) → o ≡ None
none_unless None not = refl
none_unless (Some x) not = absurd (not x refl)

equal : (r : Ordering) → is_eq r ≡ true → r ≡ Equal
equal Less e = absurd (false≢true e)
equal Equal e = refl
equal Greater e = absurd (false≢true e)

module _ (name : ℕ) where
  -- what is found without an object
  pub find_without : (other : ℕ) (objects : Objects)
      → object_of other (without name objects) ≡ cond (not (eq_by_cmp nat_cmp name other)) (object_of other objects) None
  find_without other objects = find-where_key nat_cmp (λ key. not (eq_by_cmp nat_cmp name key)) other
      (alike (λ key. not (eq_by_cmp nat_cmp name key)) other) objects

  -- what is found without it is found with it
  pub part_without : (other : ℕ) (object : Object) (objects : Objects)
      → object_of other (without name objects) ≡ Some object → object_of other objects ≡ Some object
  part_without other object objects found =
      cond_some (not (eq_by_cmp nat_cmp name other)) (object_of other objects) object (sym (find_without other objects) ∙ found)

  -- it itself isn't found
  pub itself_gone : (objects : Objects) → object_of name (without name objects) ≡ None
  itself_gone objects = find_without name objects
      ∙ ap (λ r. cond (not (is_eq r)) (object_of name objects) None) (tied_itself nat_cmp_total name)

  test_other : (other : ℕ) → name ≢ other → (b : Bool) → eq_by_cmp nat_cmp name other ≡ b → b ≡ false
  test_other other apart false is = refl
  test_other other apart true is = absurd (apart (exact_unsigned name other (equal _ is)))

  -- every other object is
  pub others_stay : (other : ℕ) (objects : Objects) → name ≢ other
      → object_of other (without name objects) ≡ object_of other objects
  others_stay other objects apart = find_without other objects
      ∙ ap (λ b. cond (not b) (object_of other objects) None) (test_other other apart _ refl)

  -- without an object there are no more references
  fewer : (objects : Objects) → reference_count (without name objects) ≤ reference_count objects
  fewer [] = omega arith
  fewer (entry ∷ objects) =
      let later = fewer objects in
      elim (eq_by_cmp nat_cmp name entry.0) as (λ b. reference_count (cond (not b) (entry ∷ without name objects) (without name objects)) ≤ length (references_of entry.1) + reference_count objects) [
        | true ↦ omega (arith, later)
        | false ↦ omega (arith, later)
      ]

  -- and without one that is found, its own are gone
  pub count_without : (object : Object) (objects : Objects) → object_of name objects ≡ Some object
      → length (references_of object) + reference_count (without name objects) ≤ reference_count objects
  count_without object [] found = absurd (none-some object found)
  count_without object (entry ∷ objects) found =
      elim (eq_by_cmp nat_cmp name entry.0) as (λ b. cond b (Some entry.1) (object_of name objects) ≡ Some object
      → length (references_of object) + reference_count (cond (not b) (entry ∷ without name objects) (without name objects)) ≤ length (references_of entry.1) + reference_count objects) [
        | true ↦ λ is.
            let later = fewer objects in
            let same : length (references_of entry.1) ≡ length (references_of object) = ap (λ o. length (references_of o)) (same_Some entry.1 object is) in
            omega (arith, later, same)
        | false ↦ λ is. let later = count_without object objects is in omega (arith, later)
      ] found
