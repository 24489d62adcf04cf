-- How far leaves are taken, the last one first.
use Rattle.std.proofs.Common.{◌≡◌, ℕ, List, [], ◌∷◌, ◌++◌, reverse, All, refl, sym, ◌∙◌, ap, subst, append_assoc, append-nil}
use Rattle.std.proofs.lemmas.List.{reverse-append}
use Rattle.std.specs.Ordering.{nat_cmp}
use Rattle.std.specs.List.{AllByRecursion, flat_map}
use Rattle.std.proofs.lemmas.List.Elements.{All-from_recursion, recursion_from_All}
use Rattle.gem_object.specs.Spelling.{IsSpelled}
use Rattle.std.specs.FinMap.{insert, from_entries, empty}
use Rattle.gem_object.specs.declared.object.Object.{Object}
use Rattle.gem_image.specs.Image.{Image}
use Rattle.extent_pages.specs.Extent.{Leaf}
use Rattle.extent_pages.specs.Stored.{AreOfLeaf, IsStoredLeaf}
use Rattle.extent_plan.specs.declared.place.LeafPlace.{LeafPlace}
use Rattle.extent_plan.specs.Plan.{IsPlace, ArePlaces}
use Rattle.page_file.specs.Opening.{objects_put, AreTaken}

-- leaves that can be stored, one by one
abbrev pub Stored : List Leaf → Type 0
Stored leaves = AllByRecursion IsStoredLeaf leaves

-- the last object put first
pub put_last : (objects : List (ℕ × Object)) (entry : ℕ × Object) (image : Image)
    → objects_put (objects ++ entry ∷ []) image ≡ objects_put objects (insert image entry.0 entry.1)
put_last [] entry image = refl
put_last (first ∷ objects) entry image = ap (λ (made : Image). insert made first.0 first.1) (put_last objects entry image)

put_before : (objects more : List (ℕ × Object)) → objects_put objects (from_entries {R = nat_cmp} more) ≡ from_entries {R = nat_cmp} (objects ++ more)
put_before [] more = refl
put_before (entry ∷ objects) more = ap (λ (made : Image). insert made entry.0 entry.1) (put_before objects more)

-- all but the last one
pub front_spelled : (objects front : List (ℕ × Object)) (entry : ℕ × Object) → objects ≡ front ++ entry ∷ []
    → All (λ (e : ℕ × Object). IsSpelled e.1) objects → All (λ (e : ℕ × Object). IsSpelled e.1) front
front_spelled objects front entry is all = All-from_recursion (λ (e : ℕ × Object). IsSpelled e.1) front
    (fewer front (recursion_from_All (λ (e : ℕ × Object). IsSpelled e.1) (front ++ entry ∷ []) (subst (All (λ (e : ℕ × Object). IsSpelled e.1)) is all)))
  where
    fewer : (list : List (ℕ × Object)) → AllByRecursion (λ (e : ℕ × Object). IsSpelled e.1) (list ++ entry ∷ [])
        → AllByRecursion (λ (e : ℕ × Object). IsSpelled e.1) list
    fewer [] each = tt
    fewer (first ∷ list) (one, each) = (one, fewer list each)

pub front_leaves : (leaves front : List Leaf) (leaf : Leaf) → leaves ≡ front ++ leaf ∷ [] → Stored leaves → Stored front
front_leaves leaves front leaf is are = fewer front (subst Stored is are)
  where
    fewer : (list : List Leaf) → Stored (list ++ leaf ∷ []) → Stored list
    fewer [] each = tt
    fewer (first ∷ list) (one, each) = (one, fewer list each)

pub last_leaf : (leaves front : List Leaf) (leaf : Leaf) → leaves ≡ front ++ leaf ∷ [] → Stored leaves
    → AreOfLeaf leaf.number leaf.objects
last_leaf leaves front leaf is are = (last front (subst Stored is are)).are
  where
    last : (list : List Leaf) → Stored (list ++ leaf ∷ []) → IsStoredLeaf leaf
    last [] (one, each) = one
    last (first ∷ list) (one, each) = last list each

-- the objects of a leaf have spellings
pub leaf_spelled : (number : ℕ) (objects : List (ℕ × Object)) → AreOfLeaf number objects
    → All (λ (e : ℕ × Object). IsSpelled e.1) objects
leaf_spelled number objects are k d below = (are.each k d below).0.object.spelled

abbrev objects_with : List Leaf → List (ℕ × Object)
objects_with leaves = flat_map (λ (leaf : Leaf). leaf.objects) leaves

-- the last leaves are taken; the places of them stand in the other order
pub record Taking (leaves left : List Leaf) (image : Image) (places : List LeafPlace) : Type 0 where
  pub done : List Leaf
  pub whole : leaves ≡ left ++ done
  pub image_is : image ≡ from_entries {R = nat_cmp} (objects_with done)
  pub places_are : ArePlaces (reverse places) done

pub none_taken : (leaves : List Leaf) (image : Image) → image ≡ empty → Taking leaves leaves image []
none_taken leaves image is = record { done = []; whole = sym (append-nil leaves); image_is = is; places_are = tt }

pub one_taken : (leaves left rest : List Leaf) (leaf : Leaf) (image next : Image) (places : List LeafPlace)
    (place : LeafPlace) → Taking leaves left image places
    → left ≡ rest ++ leaf ∷ [] → next ≡ objects_put leaf.objects image → IsPlace place leaf
    → Taking leaves rest next (places ++ place ∷ [])
one_taken leaves left rest leaf image next places place taking split put lies = record {
  done = leaf ∷ taking.done;
  whole = taking.whole ∙ ap (λ (l : List Leaf). l ++ taking.done) split ∙ append_assoc rest (leaf ∷ []) taking.done;
  image_is = put ∙ ap (objects_put leaf.objects) taking.image_is ∙ put_before leaf.objects (objects_with taking.done);
  places_are = subst (λ (l : List LeafPlace). ArePlaces l (leaf ∷ taking.done)) (sym (reverse-append places (place ∷ []))) (lies, taking.places_are);
}

pub all_taken : (leaves : List Leaf) (image : Image) (places turned : List LeafPlace) → Taking leaves [] image places
    → turned ≡ reverse places → AreTaken leaves image turned
all_taken leaves image places turned taking is = subst (λ (l : List LeafPlace). AreTaken leaves image l) (sym is)
    (subst (λ (l : List Leaf). AreTaken l image (reverse places)) (sym taking.whole) (record { image_is = taking.image_is; places_are = taking.places_are }))
