-- Objects that are those of an image, leaf by leaf.
use Rattle.std.proofs.Common.{◌≡◌, ◌≢◌, ◌⊎◌, inl, inr, ℕ, zero, suc, ◌+◌, ◌-◌, ◌*◌, ◌/◌, ◌<◌, ◌≤◌, Bool, true, false, cond, List, [], ◌∷◌, ◌++◌, Option, None, Some, option_map, refl, sym, ap, subst, ◌∙◌, append-nil, arith}
use Rattle.std.specs.List.{flat_map}
use Rattle.std.specs.Ordering.{nat_cmp, is_eq, eq_by_cmp}
use Rattle.std.specs.declared.cmp.Ordering.{Ordering}
use Rattle.std.specs.declared.cmp.Ordering.TheVariants.{Less, Equal, Greater}
use Rattle.std.specs.FinMap.{nat_cmp-IsAntisymmetric}
use Rattle.std.proofs.lemmas.Cmp.{nat_cmp_total, tied_itself}
use Rattle.std.specs.FinMap.{get, find}
use Rattle.std.proofs.lemmas.Grind.{flat_map-append}
use Rattle.gem_object.specs.declared.object.Object.{Object}
use Rattle.gem_image.specs.Image.{Image, contents_of, objects_in}
use Rattle.extent_pages.specs.Contents.{leaf_size}
use Rattle.extent_pages.specs.Extent.{Leaf}
use Rattle.extent_plan.specs.Leaves.{plain, stored_at, name_in, objects_before, leaf_objects, contents_at, Holds}
use Rattle.extent_plan.specs.Drafts.{unplaced, AgreesBelow}

-- ---- what is found among objects

abbrev Entries : Type 0
Entries = List (ℕ × Object)

pub same_key : (a b : ℕ) → a ≡ b → eq_by_cmp nat_cmp a b ≡ true
same_key a b e = subst (λ (n : ℕ). eq_by_cmp nat_cmp a n ≡ true) e (ap is_eq (tied_itself nat_cmp_total a))

pub other_key : (a b : ℕ) → a ≢ b → eq_by_cmp nat_cmp a b ≡ false
other_key a b differ = by (nat_cmp a b) refl where
  by : (o : Ordering) → nat_cmp a b ≡ o → is_eq o ≡ false
  by Less e = refl
  by Equal e = absurd (differ (nat_cmp-IsAntisymmetric a b e))
  by Greater e = refl

some_none : (object : Object) → Some object ≡ None → ⊥
some_none object e = cc

-- what isn't found in front is found behind
pub find_behind : (name : ℕ) (front back : Entries) → find nat_cmp name front ≡ None
    → find nat_cmp name (front ++ back) ≡ find nat_cmp name back
find_behind name [] back none = refl
find_behind name (entry ∷ front) back none = by (eq_by_cmp nat_cmp name entry.0) none (find_behind name front back) where
  by : (b : Bool) → cond b (Some entry.1) (find nat_cmp name front) ≡ None
      → (find nat_cmp name front ≡ None → find nat_cmp name (front ++ back) ≡ find nat_cmp name back)
      → cond b (Some entry.1) (find nat_cmp name (front ++ back)) ≡ find nat_cmp name back
  by true is further = absurd (some_none entry.1 is)
  by false is further = further is

-- what isn't found behind is found in front
pub find_front : (name : ℕ) (front back : Entries) → find nat_cmp name back ≡ None
    → find nat_cmp name (front ++ back) ≡ find nat_cmp name front
find_front name [] back none = none
find_front name (entry ∷ front) back none =
    ap (cond (eq_by_cmp nat_cmp name entry.0) (Some entry.1)) (find_front name front back none)

-- ---- a leaf as an image has it

stored_other : (name other : ℕ) (o : Option Object) → name ≢ other → find nat_cmp name (stored_at other o) ≡ None
stored_other name other None differ = refl
stored_other name other (Some object) differ =
    ap (λ b. cond b (Some (plain object)) None) (other_key name other differ)

stored_same : (name : ℕ) (o : Option Object) → contents_at (stored_at name o) name ≡ option_map contents_of o
stored_same name None = refl
stored_same name (Some object) =
    ap (λ b. option_map contents_of (cond b (Some (plain object)) None)) (same_key name name refl)

module _ (image : Image) (leaf : ℕ) where
  before_other : (place name : ℕ) → ((k : ℕ) → k < place → name ≢ name_in leaf k)
      → find nat_cmp name (objects_before image leaf place) ≡ None
  unfolding objects_before
  before_other zero name differ = refl
  before_other (suc place) name differ =
      find_behind name (objects_before image leaf place) (stored_at (name_in leaf place) (get image (name_in leaf place)))
      (before_other place name (λ k below. differ k (omega (arith, below))))
      ∙ stored_other name (name_in leaf place) (get image (name_in leaf place)) (differ place (omega arith))

  before_same : (place k : ℕ) → k < place
      → contents_at (objects_before image leaf place) (name_in leaf k) ≡ objects_in image (name_in leaf k)
  unfolding objects_before
  before_same zero k below = absurd (omega (arith, below))
  before_same (suc place) k below = by (split k place (omega (arith, below))) (before_same place k) where
    name : ℕ
    name = name_in leaf k

    front : Entries
    front = objects_before image leaf place

    at_place : Entries
    at_place = stored_at (name_in leaf place) (get image (name_in leaf place))

    split : (a b : ℕ) → a ≤ b → (a < b) ⊎ (a ≡ b)
    split a b most = search arith

    by : (k < place) ⊎ (k ≡ place)
        → (k < place → contents_at front name ≡ objects_in image name)
        → contents_at (front ++ at_place) name ≡ objects_in image name
    by (inl earlier) further =
        ap (option_map contents_of) (find_front name front at_place
        (stored_other name (name_in leaf place) (get image (name_in leaf place)) (λ e. omega (arith, e, earlier))))
        ∙ further earlier
    by (inr here) further =
        ap (option_map contents_of) (find_behind name front at_place (before_other place name (λ j before e. omega (arith, e, before, here))))
        ∙ subst (λ (p : ℕ). contents_at (stored_at (name_in leaf p) (get image (name_in leaf p))) name ≡ objects_in image name) here
        (stored_same name (get image name))

  pub holds_own : Holds image (unplaced image leaf)
  holds_own = record {
    same = λ name is. same name is;
    others = λ name differ. before_other leaf_size name (λ k below e. differ (omega (arith, e, below)));
  } where
    same : (name : ℕ) → name / leaf_size ≡ leaf → contents_at (leaf_objects image leaf) name ≡ objects_in image name
    same name is =
        let place : ℕ = name - leaf_size * leaf in
        let there : name_in leaf place ≡ name = omega (arith, is) in
        subst (λ (n : ℕ). contents_at (leaf_objects image leaf) n ≡ objects_in image n) there
        (before_same leaf_size place (omega (arith, is)))

-- ---- leaf by leaf

module _ (image : Image) where
  pub agrees_none : AgreesBelow image 0 []
  agrees_none = record { same = λ name below. absurd (omega (arith, below)); above = λ name above. refl }

  -- one leaf more; the image has none between
  pub agrees_more : (next : ℕ) (objects : Entries) (leaf : Leaf) → AgreesBelow image next objects → next ≤ leaf.number
      → ((name : ℕ) → next ≤ name / leaf_size → name / leaf_size < leaf.number → get image name ≡ None)
      → Holds image leaf → AgreesBelow image (leaf.number + 1) (objects ++ leaf.objects)
  agrees_more next objects leaf agrees least none holds = record {
    same = λ name below. by name (order (name / leaf_size) next leaf.number (omega (arith, below)));
    above = λ name above.
        find_behind name objects leaf.objects (agrees.above name (omega (arith, least, above)))
        ∙ holds.others name (λ e. omega (arith, e, above));
  } where
    order : (at low high : ℕ) → at ≤ high → (at ≡ high) ⊎ ((at < high) × ((at < low) ⊎ (low ≤ at)))
    order at low high most = search arith

    by : (name : ℕ) → (name / leaf_size ≡ leaf.number)
        ⊎ ((name / leaf_size < leaf.number) × ((name / leaf_size < next) ⊎ (next ≤ name / leaf_size)))
        → contents_at (objects ++ leaf.objects) name ≡ objects_in image name
    by name (inl own) =
        ap (option_map contents_of) (find_behind name objects leaf.objects (agrees.above name (omega (arith, own, least))))
        ∙ holds.same name own
    by name (inr (other, inl passed)) =
        ap (option_map contents_of) (find_front name objects leaf.objects (holds.others name (λ e. omega (arith, e, other))))
        ∙ agrees.same name passed
    by name (inr (other, inr ahead)) =
        ap (option_map contents_of) (find_behind name objects leaf.objects (agrees.above name ahead)
        ∙ holds.others name (λ e. omega (arith, e, other)))
        ∙ ap (option_map contents_of) (sym (none name ahead other))

  -- where the image has no more objects it agrees on all names
  pub agrees_all : (next : ℕ) (objects : Entries) → AgreesBelow image next objects
      → ((name : ℕ) → next ≤ name / leaf_size → get image name ≡ None)
      → (name : ℕ) → contents_at objects name ≡ objects_in image name
  agrees_all next objects agrees none name = by (order (name / leaf_size) next) where
    order : (a b : ℕ) → (a < b) ⊎ (b ≤ a)
    order a b = search arith

    by : (name / leaf_size < next) ⊎ (next ≤ name / leaf_size) → contents_at objects name ≡ objects_in image name
    by (inl below) = agrees.same name below
    by (inr above) = ap (option_map contents_of) (agrees.above name above) ∙ ap (option_map contents_of) (sym (none name above))

  pub objects_more : (leaves : List Leaf) (leaf : Leaf)
      → flat_map (λ (l : Leaf). l.objects) (leaves ++ leaf ∷ []) ≡ flat_map (λ (l : Leaf). l.objects) leaves ++ leaf.objects
  objects_more leaves leaf = flat_map-append (λ (l : Leaf). l.objects) leaves (leaf ∷ [])
      ∙ ap (λ (l : Entries). flat_map (λ (m : Leaf). m.objects) leaves ++ l) (append-nil leaf.objects)
