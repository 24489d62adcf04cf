-- Where the objects stand that a transaction changed: at names that were there, or that it drew.
use Rattle.std.proofs.Common.{◌≡◌, ℕ, ◌-◌, ◌≤◌, ◌<◌, Bool, true, false, not, cond, ◌⊎◌, inl, inr, ⊎_elim, List, [], ◌∷◌, filter, Option, Some, None, is_some, option_map, refl, sym, ap, ◌∙◌, arith}
use Rattle.std.specs.Ordering.{nat_cmp, eq_by_cmp, is_eq}
use Rattle.std.specs.Cmp.{nat_cmp_total, tied_itself}
use Rattle.std.specs.FinMap.{get, entries, get-entries}
use Rattle.std.specs.FinMap.Entries.{find}
use Rattle.std.proofs.lemmas.Bool.{false≢true, and_parts, and_from, leb-true, ltb-true}
use Rattle.gem_meaning.specs.gem_value.Oid.{oid_number}
use Rattle.gem_meaning.specs.gem_object.declared.object.Object.{Object}
use Rattle.gem_meaning.specs.gem_image.Image.{Contents, contents_of, objects_in}
use Rattle.gem_meaning.specs.gem_record.declared.record.Entry.{Entry}
use Rattle.gem_meaning.specs.gem_world.World.{Setting, World, as_of, is_drawn, is_made}
use Rattle.gem_meaning.specs.gem_world.Changes.{was_made, was_written, made_objects, written_objects}
use Rattle.gem_meaning.specs.object_programs.Laws.{IsInReach}
use Rattle.gem_meaning.specs.gem_record.Record.{all_uncommitted, record_of}
use Rattle.gem_meaning.proofs.commit_check_lemmas.Members.{IsOneOf}
use Rattle.history_laws.proofs.Effects.{IsChangedBy, by_write, by_make, by_update, filtered_one}

-- the counter of a name that was drawn
pub drawn_counter : (name : ℕ) (setting : Setting) (world : World) → is_drawn name setting world ≡ true
    → (counter : ℕ) × (name ≡ oid_number setting.serial counter) × (setting.first ≤ counter)
    × (counter < world.next)
drawn_counter name setting world drawn =
    let parts = and_parts _ _ drawn in
    let from = leb-true (oid_number setting.serial setting.first) name parts.0 in
    let below = ltb-true name (oid_number setting.serial world.next) parts.1 in
    (name - oid_number setting.serial 0, omega (arith, from), omega (arith, from), omega (arith, from, below))

passes_first : {A : Type 0} (test : A → Bool) (taken : Bool) (y : A) (rest : List A) (x : A)
    → test y ≡ taken → (IsOneOf x rest → test x ≡ true) → IsOneOf x (cond taken (y ∷ rest) rest)
    → test x ≡ true
passes_first test true y rest x is later (inl here) = ap test (sym here) ∙ is
passes_first test true y rest x is later (inr more) = later more
passes_first test false y rest x is later more = later more

passes : {A : Type 0} (test : A → Bool) (xs : List A) (x : A) → IsOneOf x (filter test xs)
    → test x ≡ true
passes test [] x none = absurd none
passes test (y ∷ ys) x there =
    passes_first test (test y) y (filter test ys) x refl (passes test ys x) there

module _ {X : Type 0} where
  found_first : (name : ℕ) (value : X) (e : ℕ × X) (rest : Option X) → (e ≡ (name, value)) ⊎ (is_some rest ≡ true)
      → (here : Bool) → eq_by_cmp nat_cmp name e.0 ≡ here
      → is_some (cond here (Some e.1) rest) ≡ true
  found_first name value e rest there true is = refl
  found_first name value e rest (inr more) false is = more
  found_first name value e rest (inl here) false is = absurd (false≢true (sym is
      ∙ (ap (λ (pair : ℕ × X). eq_by_cmp nat_cmp name pair.0) here
      ∙ ap is_eq (tied_itself nat_cmp_total name))))

  found_one : (name : ℕ) (value : X) (es : List (ℕ × X)) → IsOneOf (name, value) es
      → is_some (find nat_cmp name es) ≡ true
  found_one name value [] none = absurd none
  found_one name value (e ∷ es) there = found_first name value e (find nat_cmp name es)
      (⊎_elim inl (λ more. inr (found_one name value es more)) there) (eq_by_cmp nat_cmp name e.0) refl

pub uncommitted_one : (objects : List (ℕ × Contents)) (name : ℕ) (object : Object)
    → IsOneOf (name, object) (all_uncommitted objects)
    → (contents : Contents) × IsOneOf (name, contents) objects
uncommitted_one [] name object none = absurd none
uncommitted_one (e ∷ es) name object (inl here) =
    (e.1, inl (ap (λ at. (at, e.1)) (ap (λ (pair : ℕ × Object). pair.0) here)))
uncommitted_one (e ∷ es) name object (inr more) =
    let found = uncommitted_one es name object more in (found.0, inr found.1)

-- a written object is among the changes, and wasn't made in the transaction
pub was_changed : (setting : Setting) (world : World) (name : ℕ) (object : Contents)
    → IsOneOf (name, object) (written_objects setting world)
    → (is_some (get world.changes name) ≡ true) × (is_made name setting world ≡ false)
was_changed setting world name object there = (
  ap is_some (get-entries world.changes name)
      ∙ found_one name object (entries world.changes)
      (filtered_one (was_written setting world) (entries world.changes) (name, object) there),
  not_true (is_made name setting world)
      (and_parts (not (is_made name setting world)) _
      (passes (was_written setting world) (entries world.changes) (name, object) there)).0,
)
  where
    not_true : (b : Bool) → not b ≡ true → b ≡ false
    not_true false is = refl
    not_true true is = absurd (false≢true is)

placed_by : (here there : Option Contents) → is_some (as_of here there) ≡ true → is_some here ≡ true
placed_by None there some = some
placed_by (Some object) there some = refl

image_has : (found : Option Object) → is_some (option_map contents_of found) ≡ true → is_some found ≡ true
image_has None some = some
image_has (Some object) some = refl

module _ (setting : Setting) (world : World) (reach : IsInReach setting world) where
  -- what is among the changes
  in_changes : (name : ℕ) (object : Contents) → IsOneOf (name, object) (entries world.changes)
      → is_some (get world.changes name) ≡ true
  in_changes name object there = ap is_some (get-entries world.changes name)
      ∙ found_one name object (entries world.changes) there

  made_drawn : (name : ℕ) (object : Contents) → IsOneOf (name, object) (made_objects setting world)
      → is_drawn name setting world ≡ true
  unfolding is_made
  made_drawn name object there =
      (and_parts _ _ (passes (was_made setting world) (entries world.changes) (name, object) there)).0

  not_made : (name : ℕ) (object : Contents) → was_written setting world (name, object) ≡ true
      → is_made name setting world ≡ true → ⊥
  not_made name object written made =
      false≢true (sym (ap not made) ∙ (and_parts (not (is_made name setting world)) _ written).0)

  written_there : (name : ℕ) (object : Contents) → IsOneOf (name, object) (written_objects setting world)
      → is_some (get setting.place name) ≡ true
  unfolding is_made
  written_there name object there =
      let changed = in_changes name object
      (filtered_one (was_written setting world) (entries world.changes) (name, object) there) in
      let written = passes (was_written setting world) (entries world.changes) (name, object) there in
      ⊎_elim
      (λ drawn. absurd (not_made name object written (and_from _ _ drawn changed)))
      (λ before. image_has (get setting.place name)
      (placed_by (objects_in setting.place name) (objects_in setting.view name) before))
      (reach.own name changed)

  pub made_in_record : (e : Entry) (name : ℕ) (object : Object)
      → IsOneOf (name, object) (record_of e setting world).made → is_drawn name setting world ≡ true
  unfolding record_of
  made_in_record e name object there =
      let found = uncommitted_one (made_objects setting world) name object there in
      made_drawn name found.0 found.1

  pub changed_there : (e : Entry) (name : ℕ) → IsChangedBy setting.place (record_of e setting world) name
      → (is_some (get setting.place name) ≡ true) ⊎ (is_drawn name setting world ≡ true)
  unfolding record_of
  changed_there e name (by_write object there) =
      let found = uncommitted_one (written_objects setting world) name object there in
      inl (written_there name found.0 found.1)
  changed_there e name (by_make object there) = inr (made_in_record e name object there)
  changed_there e name (by_update updated there) = inl there
