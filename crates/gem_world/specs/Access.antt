-- Accesses: which names each touches, when it is allowed, and what it leaves.
use Rattle.std.specs.Prelude.{◌≡◌, ℕ, Bool, true, cond, Option, None, Some}
use Rattle.std.specs.FinMap.{get}
use Rattle.gem_image.specs.seg_rights.Right.{allows_read, allows_write}
use Rattle.gem_image.specs.seg_rights.declared.right.Right.{Right}
use Rattle.gem_image.specs.gem_object.Kinds.{is_shared}
use Rattle.gem_image.specs.Image.{Contents}
use Rattle.gem_image.specs.Rights.{right_on}
use Rattle.gem_world.specs.World.{Setting, World, shown, shown_objects, touch, is_among}
use Rattle.gem_world.specs.Changes.{put, was_written}

-- An access reads or writes one object.
pub data Access : Type 0 where
  a_read : Access
  a_write : Access

-- whether a right is enough
abbrev pub allows : Access → Right → Bool
allows a_read right = allows_read right
allows a_write right = allows_write right

-- the user's right on the object of this name, by the segment and the profile that are seen now
abbrev pub right_at : ℕ → Setting → World → Right
right_at name setting world = right_on (shown_objects setting world) setting.user name

-- whether the access is allowed: it is judged by what is seen before it
unfoldable pub is_allowed : Access → ℕ → Setting → World → Bool
is_allowed access name setting world = allows access (right_at name setting world)

-- After the touches of an access: the object's, and then those of its segment and of the user's
-- profile, which decide whether it is allowed. A name without an object is touched alone.
abbrev pub touches_of : ℕ → Option Contents → Setting → World → World
touches_of name None setting world = touch name setting world
touches_of name (Some object) setting world =
    touch setting.user setting (touch object.segment setting (touch name setting world))

unfoldable pub with_touches : ℕ → Setting → World → World
with_touches name setting world = touches_of name (shown name setting world) setting world

-- what an allowed access leaves besides its touches: a write puts an ordinary object among those
-- that were written, as it is; a reduced-conflict one only by its updates
abbrev pub after_allowed : Access → ℕ → Option Contents → World → World
after_allowed a_read name there world = world
after_allowed a_write name None world = world
after_allowed a_write name (Some object) world =
    cond (is_shared object.body) world (put name object world)

-- after an access: a refused one leaves its touches alone
unfoldable pub accessed : Access → ℕ → Setting → World → World
accessed access name setting world = cond (is_allowed access name setting world)
    (after_allowed access name (shown name setting world) (with_touches name setting world))
    (with_touches name setting world)

-- the name was touched
abbrev pub IsTouched : ℕ → World → Type 0
IsTouched name world = is_among name world.touched ≡ true

-- an ordinary object of this name, which was there before, was written
pub record IsWritten (name : ℕ) (setting : Setting) (world : World) : Type 0 where
  pub object : Contents
  pub there : get world.changes name ≡ Some object
  pub old : was_written setting world (name, object) ≡ true
