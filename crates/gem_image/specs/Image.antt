-- Images: what objects there are at one number of commits.
use Rattle.std.specs.Prelude.{◌≡◌, ◌≤◌, ◌^◌, ℕ, List, Option, None, Some, option_map}
use Rattle.std.specs.Ordering.{nat_cmp}
use Rattle.std.specs.List.{fold}
use Rattle.std.specs.FinMap.{FinMap, get, insert}
use Rattle.gem_object.specs.Spelling.{IsSpelled}
use Rattle.gem_object.specs.declared.body.Body.{Body}
use Rattle.gem_object.specs.declared.object.Object.{Object}

-- an image: a finite map from the numbers of names to objects
abbrev pub Image : Type 0
Image = FinMap nat_cmp Object

-- each object of the image has a spelling
abbrev pub AreSpelled : Image → Type 0
AreSpelled image = (number : ℕ) (object : Object) → get image number ≡ Some object
    → IsSpelled object

-- nothing stands at a number that isn't the number of an object's name
abbrev pub AreNamed : Image → Type 0
AreNamed image = (number : ℕ) → 2 ^ 48 ≤ number → get image number ≡ None

-- what the type of images keeps
pub record IsImage (image : Image) : Type 0 where
  pub named : AreNamed image
  pub spelled : AreSpelled image

-- an object but for the number of the commit that changed it last
pub record Contents : Type 0 where
  pub class : ℕ
  pub segment : ℕ
  pub body : Body

abbrev pub contents_of : Object → Contents
contents_of object = record {
  class = object.class;
  segment = object.segment;
  body = object.body;
}

-- what stands at each name: in an image, or in what a transaction sees
abbrev pub Objects : Type 0
Objects = ℕ → Option Contents

-- what stands at the names of an image
abbrev pub objects_in : Image → Objects
objects_in image number = option_map contents_of (get image number)

-- two images agree on a name: both have an object there, of one class, in one segment and with one
-- body, or neither has one
abbrev pub Agree : Image → Image → ℕ → Type 0
Agree image other number = objects_in image number ≡ objects_in other number

-- the image with these objects at these names, one after the other
abbrev pub with_objects : Image → List (ℕ × Object) → Image
with_objects image objects = fold (λ made entry. insert made entry.0 entry.1) image objects
