-- The leaves of an extent, put into an image.
use Rattle.std.specs.Prelude.{◌≡◌, ℕ, List, [], ◌∷◌, Some}
use Rattle.std.specs.Ordering.{nat_cmp}
use Rattle.std.specs.List.{flat_map}
use Rattle.std.specs.FinMap.{get, insert, from_entries}
use Rattle.gem_object.specs.declared.object.Object.{Object}
use Rattle.gem_image.specs.Image.{Image}
use Rattle.extent_pages.specs.Extent.{Leaf}
use Rattle.extent_plan.specs.declared.place.LeafPlace.{LeafPlace}
use Rattle.extent_plan.specs.Plan.{ArePlaces}

-- the image with these objects at their names; of two at one name the first one counts
abbrev pub objects_put : List (ℕ × Object) → Image → Image
objects_put [] image = image
objects_put (entry ∷ objects) image = insert (objects_put objects image) entry.0 entry.1

-- no object of the image counts as changed by a commit
abbrev pub IsUnchanged : Image → Type 0
IsUnchanged image = (name : ℕ) (object : Object) → get image name ≡ Some object → object.changed ≡ 0

-- the objects of these leaves make this image, and the leaves lie in these places
pub record AreTaken (leaves : List Leaf) (image : Image) (places : List LeafPlace) : Type 0 where
  pub image_is : image ≡ from_entries {R = nat_cmp} (flat_map (λ (leaf : Leaf). leaf.objects) leaves)
  pub places_are : ArePlaces places leaves
