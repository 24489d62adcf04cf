-- The leaves of an image.
use Rattle.std.specs.Prelude.{◌≡◌, ◌≢◌, ℕ, zero, suc, ◌+◌, ◌*◌, ◌/◌, nat_lt, Bool, false, ◌||◌, List, [], ◌∷◌, ◌++◌, Option, None, Some, option_map}
use Rattle.std.specs.Ordering.{nat_cmp}
use Rattle.std.specs.FinMap.{get, find}
use Rattle.gem_object.specs.declared.object.Object.{Object}
use Rattle.gem_image.specs.Image.{Image, Contents, contents_of, objects_in}
use Rattle.extent_pages.specs.Contents.{leaf_size}
use Rattle.extent_pages.specs.Extent.{Leaf}

-- an object without the number of the commit that changed it, as it is stored
abbrev pub plain : Object → Object
plain object = record {
  class = object.class;
  segment = object.segment;
  changed = 0;
  body = object.body;
}

-- what stands at a name, as a list of one object or none
abbrev pub stored_at : ℕ → Option Object → List (ℕ × Object)
stored_at name None = []
stored_at name (Some object) = (name, plain object) ∷ []

-- the name of a leaf at this place
abbrev pub name_in : ℕ → ℕ → ℕ
name_in leaf place = leaf_size * leaf + place

-- the objects that an image has at the first so many names of a leaf, as they are stored
unfoldable pub objects_before : Image → ℕ → ℕ → List (ℕ × Object)
objects_before image leaf zero = []
objects_before image leaf (suc place) = objects_before image leaf place
    ++ stored_at (name_in leaf place) (get image (name_in leaf place))

-- all that it has at the names of a leaf
abbrev pub leaf_objects : Image → ℕ → List (ℕ × Object)
leaf_objects image leaf = objects_before image leaf leaf_size

-- whether an object was changed after the commit of this number
abbrev pub is_later : ℕ → Option Object → Bool
is_later since None = false
is_later since (Some object) = nat_lt since object.changed

-- whether one of the objects at the first so many names of a leaf was
unfoldable pub later_before : Image → ℕ → ℕ → ℕ → Bool
later_before image since leaf zero = false
later_before image since leaf (suc place) = later_before image since leaf place
    || is_later since (get image (name_in leaf place))

-- whether one of a leaf's objects was
abbrev pub is_changed : Image → ℕ → ℕ → Bool
is_changed image since leaf = later_before image since leaf leaf_size

-- what stands at a name among objects
abbrev pub contents_at : List (ℕ × Object) → ℕ → Option Contents
contents_at objects name = option_map contents_of (find nat_cmp name objects)

-- A leaf has at each of its names what the image has there, and nothing elsewhere.
pub record Holds (image : Image) (leaf : Leaf) : Type 0 where
  pub same : (name : ℕ) → name / leaf_size ≡ leaf.number
      → contents_at leaf.objects name ≡ objects_in image name
  pub others : (name : ℕ) → name / leaf_size ≢ leaf.number
      → find nat_cmp name leaf.objects ≡ None
