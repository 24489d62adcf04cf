-- Which objects a commit changes, and what the image has then.
use Rattle.std.proofs.Common.{◌≡◌, ℕ, Bool, true, false, cond, if◌then◌else◌, ◌⊎◌, inl, inr, ⊎_elim, List, [], ◌∷◌, ◌++◌, map, filter, length, arith, Some, is_some, IsSome, Ordering, Less, Equal, Greater, nat_cmp, refl, sym, ap, subst, ◌∙◌}
use Rattle.std.specs.Ordering.{eq_by_cmp, is_eq}
use Rattle.std.specs.Cmp.{nat_cmp_total, tied_itself}
use Rattle.std.specs.FinMap.{get, insert, entries, from_entries, entries-insert, get-insert, len-entries, len-empty, empty}
use Rattle.std.specs.FinMap.Entries.{put, by_order}
use Rattle.std.proofs.lemmas.Bool.{false≢true}
use Rattle.std.proofs.lemmas.Map.Lookups.{exact_unsigned}
use Rattle.gem_meaning.specs.gem_object.declared.object.Object.{Object}
use Rattle.gem_meaning.specs.gem_image.Image.{Image, with_objects}
use Rattle.gem_meaning.specs.gem_record.Names.{under}
use Rattle.gem_meaning.specs.gem_record.declared.record.TxnRecord.{TxnRecord}
use Rattle.gem_meaning.specs.kept_set.Kept.{kept_of}
use Rattle.gem_meaning.specs.commit_check.Conflicts.{merged_objects}
use Rattle.gem_meaning.specs.commit_check.Table.{IsUpdated}
use Rattle.gem_meaning.proofs.commit_check_lemmas.Members.{IsOneOf, contained, in_either}
use Rattle.gem_meaning.proofs.commit_check_lemmas.MergedObjects.{listed_merged}
use Rattle.gem_meaning.specs.Effect.{kept_objects, changed_objects, stamped, effect_at}

-- ---- lists of pairs

pub tied : (a b : ℕ) → eq_by_cmp nat_cmp a b ≡ true → a ≡ b
tied a b is = exact_unsigned a b (equal (nat_cmp a b) is)
  where
    equal : (r : Ordering) → is_eq r ≡ true → r ≡ Equal
    equal Less e = absurd (false≢true e)
    equal Equal e = refl
    equal Greater e = absurd (false≢true e)

no_one : {A : Type 0} (x : A) (xs : List A) → xs ≡ [] → IsOneOf x xs → ⊥
no_one x xs none there = subst (λ ys. IsOneOf x ys) none there

empty_list : {A : Type 0} (xs : List A) → length xs ≡ 0 → xs ≡ []
empty_list [] is = refl
empty_list (y ∷ ys) is = absurd (omega (arith, is))

module _ {X : Type 0} where
  by_put : (k : ℕ) (v : X) (e : ℕ × X) (es : List (ℕ × X)) (x : ℕ × X) (r : Ordering) → nat_cmp k e.0 ≡ r
      → (IsOneOf x (put nat_cmp k v es) → ((k, v) ≡ x) ⊎ IsOneOf x es)
      → IsOneOf x (by_order r ((k, v) ∷ e ∷ es) ((e.0, v) ∷ es) (e ∷ put nat_cmp k v es))
      → ((k, v) ≡ x) ⊎ IsOneOf x (e ∷ es)
  by_put k v e es x Less is rest there = there
  by_put k v e es x Equal is rest (inl here) =
      inl (ap (λ at. (at, v)) (exact_unsigned k e.0 is) ∙ here)
  by_put k v e es x Equal is rest (inr more) = inr (inr more)
  by_put k v e es x Greater is rest (inl here) = inr (inl here)
  by_put k v e es x Greater is rest (inr more) = ⊎_elim inl (λ h. inr (inr h)) (rest more)

  one_put : (k : ℕ) (v : X) (es : List (ℕ × X)) (x : ℕ × X) → IsOneOf x (put nat_cmp k v es)
      → ((k, v) ≡ x) ⊎ IsOneOf x es
  one_put k v [] x there = there
  one_put k v (e ∷ es) x there =
      by_put k v e es x (nat_cmp k e.0) refl (one_put k v es x) there

  -- what stands in a list by name stands in the list
  pub one_by_name : (es : List (ℕ × X)) (x : ℕ × X)
      → IsOneOf x (entries (from_entries {R = nat_cmp} es)) → IsOneOf x es
  one_by_name [] x there = absurd (no_one x (entries {R = nat_cmp} empty)
      (empty_list (entries {R = nat_cmp} empty) (sym (len-entries {R = nat_cmp} empty) ∙ len-empty nat_cmp X))
      there)
  one_by_name (e ∷ es) x there = ⊎_elim
      inl
      (λ h. inr (one_by_name es x h))
      (one_put e.0 e.1 (entries (from_entries {R = nat_cmp} es)) x
      (subst (λ xs. IsOneOf x xs) (entries-insert nat_cmp_total (from_entries es) e.0 e.1) there))

-- ---- objects that are set

-- the name is that of one of the objects
abbrev pub IsNamed : ℕ → List (ℕ × Object) → Type 0
IsNamed name objects = (object : Object) × IsOneOf (name, object) objects

-- What the image has at a name when these objects were set: one of them, or what it had, where none
-- of them has the name.
abbrev pub IsSetBy : Image → List (ℕ × Object) → ℕ → Type 0
IsSetBy image objects name =
    ((get (with_objects image objects) name ≡ get image name) × ¬ IsNamed name objects)
    ⊎ ((object : Object) × IsOneOf (name, object) objects
    × (get (with_objects image objects) name ≡ Some object))

set_first : (image : Image) (e : ℕ × Object) (es : List (ℕ × Object)) (name : ℕ) (here : Bool)
    → eq_by_cmp nat_cmp name e.0 ≡ here
    → get (with_objects (insert image e.0 e.1) es) name ≡ get (insert image e.0 e.1) name
    → ¬ IsNamed name es
    → IsSetBy image (e ∷ es) name
set_first image e es name true is same none = inr (
  e.1,
  inl (ap (λ at. (at, e.1)) (sym (tied name e.0 is))),
  same ∙ (get-insert nat_cmp_total image e.0 e.1 name
      ∙ ap (λ b. cond b (Some e.1) (get image name)) is),
)
set_first image e es name false is same none = inl (
  same ∙ (get-insert nat_cmp_total image e.0 e.1 name
      ∙ ap (λ b. cond b (Some e.1) (get image name)) is),
  λ named. ⊎_elim
      (λ here. false≢true (sym is ∙ itself (ap (λ (pair : ℕ × Object). pair.0) here)))
      (λ more. none (named.0, more)) named.1,
)
  where
    itself : e.0 ≡ name → eq_by_cmp nat_cmp name e.0 ≡ true
    itself at = subst (λ k. eq_by_cmp nat_cmp name k ≡ true) (sym at) (ap is_eq (tied_itself nat_cmp_total name))

pub set_by : (objects : List (ℕ × Object)) (image : Image) (name : ℕ) → IsSetBy image objects name
set_by [] image name = inl (refl, λ named. named.1)
set_by (e ∷ es) image name = ⊎_elim
    (λ same. set_first image e es name (eq_by_cmp nat_cmp name e.0) refl same.0 same.1)
    (λ found. inr (found.0, inr found.1, found.2))
    (set_by es (insert image e.0 e.1) name)

-- ---- the objects of an effect

stamped_one : (number : ℕ) (objects : List (ℕ × Object)) (x : ℕ × Object)
    → IsOneOf x (map (stamped number) objects)
    → (y : ℕ × Object) × IsOneOf y objects × (stamped number y ≡ x)
stamped_one number [] x none = absurd none
stamped_one number (y ∷ ys) x (inl here) = (y, inl refl, here)
stamped_one number (y ∷ ys) x (inr more) =
    let found = stamped_one number ys x more in (found.0, inr found.1, found.2)

module _ {A : Type 0} (test : A → Bool) where
  filtered_first : (taken : Bool) (y : A) (ys rest : List A) (x : A)
      → (IsOneOf x rest → IsOneOf x ys) → IsOneOf x (cond taken (y ∷ rest) rest)
      → IsOneOf x (y ∷ ys)
  filtered_first true y ys rest x later (inl here) = inl here
  filtered_first true y ys rest x later (inr more) = inr (later more)
  filtered_first false y ys rest x later more = inr (later more)

  pub filtered_one : (xs : List A) (x : A) → IsOneOf x (filter test xs) → IsOneOf x xs
  filtered_one [] x none = none
  filtered_one (y ∷ ys) x there =
      filtered_first (test y) y ys (filter test ys) x (filtered_one ys x) there

ties : (a b : ℕ) (r : Ordering) → a ≡ b → nat_cmp a b ≡ r → is_eq r ≡ true
ties a b r same is = sym (ap is_eq is)
    ∙ ap is_eq (ap (nat_cmp a) (sym same) ∙ tied_itself nat_cmp_total a)

module _ {T : Type 0} where
  under_first : (name : ℕ) (pair : ℕ × T) (rest : List (ℕ × T)) (r : Ordering) → nat_cmp pair.0 name ≡ r
      → (pair.0 ≡ name) ⊎ IsSome (under name rest)
      → IsSome (if is_eq r then Some pair.1 else under name rest)
  under_first name pair rest Equal is there = refl
  under_first name pair rest Less is (inr there) = there
  under_first name pair rest Greater is (inr there) = there
  under_first name pair rest Less is (inl same) =
      absurd (false≢true (ties pair.0 name Less same is))
  under_first name pair rest Greater is (inl same) =
      absurd (false≢true (ties pair.0 name Greater same is))

  -- a name in a list of pairs has something under it
  pub under_one : (name : ℕ) (value : T) (pairs : List (ℕ × T)) → IsOneOf (name, value) pairs
      → IsSome (under name pairs)
  under_one name value [] none = absurd none
  under_one name value (pair ∷ rest) there = under_first name pair rest (nat_cmp pair.0 name) refl
      (⊎_elim (λ here. inl (ap (λ (p : ℕ × T). p.0) here)) (λ more. inr (under_one name value rest more)) there)

-- the commit sets an object at this name: one that it wrote, one that it made, or one that it
-- updated, which the image has
pub data IsChangedBy (image : Image) (done : TxnRecord) (name : ℕ) : Type 0 where
  by_write : (object : Object) → IsOneOf (name, object) done.written → IsChangedBy image done name
  by_make : (object : Object) → IsOneOf (name, object) done.made → IsChangedBy image done name
  by_update : IsUpdated done name → IsSome (get image name) → IsChangedBy image done name

module _ (image : Image) (number : ℕ) (done : TxnRecord) where
  changed_by : (name : ℕ) (object : Object) → IsOneOf (name, object) (changed_objects image done)
      → IsChangedBy image done name
  unfolding kept_of
  changed_by name object there = ⊎_elim
      (λ written. by_write object written)
      (λ more. ⊎_elim
      (λ kept. by_make object (filtered_one _ done.made (name, object) kept))
      (λ merged. let m = listed_merged image done name object
      (contained (name, object) (merged_objects image done) merged) in
      by_update (ap is_some m.updated) (ap is_some m.at_place))
      (in_either (name, object) (kept_objects done) (merged_objects image done) more))
      (in_either (name, object) done.written (kept_objects done ++ merged_objects image done) there)

  pub of_effect : (name : ℕ) (object : Object) → IsOneOf (name, object) (effect_at image number done)
      → IsChangedBy image done name × (object.changed ≡ number)
  unfolding effect_at
  of_effect name object there =
      let found = stamped_one number (changed_objects image done) (name, object)
      (one_by_name (map (stamped number) (changed_objects image done)) (name, object) there) in
      let same : found.0.0 ≡ name = ap (λ (pair : ℕ × Object). pair.0) found.2 in (
        subst (λ at. IsChangedBy image done at) same (changed_by found.0.0 found.0.1 found.1),
        sym (ap (λ (pair : ℕ × Object). pair.1.changed) found.2),
      )

  -- what the image has at a name after the commit
  pub after_commit : (name : ℕ)
      → (get (with_objects image (effect_at image number done)) name ≡ get image name)
      ⊎ ((object : Object)
      × (get (with_objects image (effect_at image number done)) name ≡ Some object)
      × (object.changed ≡ number) × IsChangedBy image done name)
  after_commit name = ⊎_elim
      (λ same. inl same.0)
      (λ found. let of = of_effect name found.0 found.1 in inr (found.0, found.2, of.1, of.0))
      (set_by (effect_at image number done) image name)
