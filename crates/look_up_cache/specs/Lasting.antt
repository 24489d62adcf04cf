-- What of an object look-ups depend on.
use Rattle.std.specs.Prelude.{◌≡◌, ◌≤◌, ℕ, Bool, true, ◌||◌, Option, Some, None, is_some, option_map, option_and_then}
use Rattle.std.specs.FinMap.{get}
use Rattle.gem_object.specs.declared.body.ClassBody.{ClassBody}
use Rattle.gem_object.specs.declared.body.Body.{Body}
use Rattle.gem_object.specs.declared.body.Body.TheVariants.{Class, Segment, User}
use Rattle.running_objects.specs.gem_image.Image.{Contents}
use Rattle.running_objects.specs.gem_world.World.{Setting, World, shown, is_private, is_among}
use Rattle.running_objects.specs.gem_sound.Parts.{class_of}

-- Its class and its segment, and its body where that is a class, a segment or a user.
pub record Lasting : Type 0 where
  pub class : ℕ
  pub segment : ℕ
  pub body : Option Body

abbrev pub lasting_body : Body → Option Body
lasting_body (Class class) = Some (Class class)
lasting_body (Segment rights) = Some (Segment rights)
lasting_body (User user) = Some (User user)
lasting_body _ = None

abbrev pub lasting_of : Contents → Lasting
lasting_of object = record {
  class = object.class;
  segment = object.segment;
  body = lasting_body object.body;
}

-- the class that the object is
abbrev pub class_in : Lasting → Option ClassBody
class_in part = option_and_then class_of part.body

-- whether a touch of the name changes nothing
unfoldable pub is_settled : ℕ → Setting → World → Bool
is_settled name setting world = is_private name setting world || is_among name world.touched

-- Nothing happened that look-ups depend on: each object is there as before in what lasts, and what
-- was touched, made or drawn still is.
pub record Still (setting : Setting) (world later : World) : Type 0 where
  pub objects : (name : ℕ) (object : Contents) → shown name setting world ≡ Some object
      → option_map lasting_of (shown name setting later) ≡ Some (lasting_of object)
  pub next : world.next ≤ later.next
  pub changed : (name : ℕ) → is_some (get world.changes name) ≡ true
      → is_some (get later.changes name) ≡ true
  pub touched : (name : ℕ) → is_among name world.touched ≡ true
      → is_among name later.touched ≡ true
