-- No object of leaves that can be stored counts as changed by a commit.
use Rattle.std.proofs.Common.{◌≡◌, ℕ, Bool, true, false, cond, List, [], ◌∷◌, ◌++◌, Some, sym, subst, ◌∙◌}
use Rattle.std.specs.List.{AllByRecursion, flat_map}
use Rattle.std.specs.Ordering.{nat_cmp, eq_by_cmp}
use Rattle.std.specs.FinMap.{find, from_entries, get-from_entries}
use Rattle.std.proofs.lemmas.Cmp.{nat_cmp_total}
use Rattle.std.proofs.lemmas.Option.{same_Some}
use Rattle.std.proofs.lemmas.List.Elements.{recursion_from_All}
use Rattle.gem_object.specs.declared.object.Object.{Object}
use Rattle.gem_image.specs.Image.{Image}
use Rattle.extent_pages.specs.Extent.{Leaf}
use Rattle.extent_pages.specs.Stored.{IsStoredLeaf}
use Rattle.extent_plan.specs.declared.place.LeafPlace.{LeafPlace}
use Rattle.page_file.specs.Opening.{AreTaken, IsUnchanged}

abbrev pub IsOfNone : ℕ × Object → Type 0
IsOfNone entry = entry.1.changed ≡ 0

pub all_joined : (xs ys : List (ℕ × Object)) → AllByRecursion IsOfNone xs → AllByRecursion IsOfNone ys
    → AllByRecursion IsOfNone (xs ++ ys)
all_joined [] ys all more = more
all_joined (x ∷ xs) ys all more = (all.0, all_joined xs ys all.1 more)

found_unchanged : (entries : List (ℕ × Object)) (name : ℕ) (object : Object) → AllByRecursion IsOfNone entries
    → find nat_cmp name entries ≡ Some object → object.changed ≡ 0
found_unchanged [] name object all e = absurd cc
found_unchanged (entry ∷ entries) name object all e = by (eq_by_cmp nat_cmp name entry.0) e (found_unchanged entries name object all.1)
  where
    by : (b : Bool) → cond b (Some entry.1) (find nat_cmp name entries) ≡ Some object
        → (find nat_cmp name entries ≡ Some object → object.changed ≡ 0) → object.changed ≡ 0
    by true e rest = subst (λ (o : Object). o.changed ≡ 0) (same_Some entry.1 object e) all.0
    by false e rest = rest e

-- objects of which none counts as changed make an image of which none does
pub made_unchanged : (entries : List (ℕ × Object)) → AllByRecursion IsOfNone entries
    → IsUnchanged (from_entries {R = nat_cmp} entries)
made_unchanged entries all name object there =
    found_unchanged entries name object all (sym (get-from_entries nat_cmp_total entries name) ∙ there)

leaves_unchanged : (leaves : List Leaf) → AllByRecursion IsStoredLeaf leaves
    → AllByRecursion IsOfNone (flat_map (λ (leaf : Leaf). leaf.objects) leaves)
leaves_unchanged [] all = tt
leaves_unchanged (leaf ∷ leaves) all = all_joined leaf.objects (flat_map (λ (leaf : Leaf). leaf.objects) leaves)
    (recursion_from_All IsOfNone leaf.objects (λ k d below. (all.0.are.each k d below).0.object.changed))
    (leaves_unchanged leaves all.1)

pub taken_unchanged : (leaves : List Leaf) (image : Image) (places : List LeafPlace) → AllByRecursion IsStoredLeaf leaves
    → AreTaken leaves image places → IsUnchanged image
taken_unchanged leaves image places stored taken = subst IsUnchanged (sym taken.image_is)
    (made_unchanged (flat_map (λ (leaf : Leaf). leaf.objects) leaves) (leaves_unchanged leaves stored))
