-- What laws of all programs speak of.
use Rattle.std.specs.Prelude.{◌≡◌, ◌⊎◌, ℕ, ◌+◌, ◌^◌, ◌≤◌, ◌<◌, true, false, List, [], ◌∷◌, ◌++◌, Option, None, Some, IsSome, is_some, option_map, option_and_then}
use Rattle.std.specs.FinMap.{get}
use Rattle.gem_object.specs.Spelling.{IsOid, IsSpelledBody}
use Rattle.gem_object.specs.Kinds.{is_shared}
use Rattle.gem_object.specs.declared.body.Body.{Body}
use Rattle.gem_world.specs.gem_update.Update.{updated}
use Rattle.gem_world.specs.gem_update.declared.update.Update.{Update}
use Rattle.gem_world.specs.gem_image.Image.{Image, Contents, Objects, objects_in}
use Rattle.gem_world.specs.World.{Setting, World, name_of, before_changes, shown, is_drawn, is_made}
use Rattle.gem_world.specs.Changes.{with_body, updates_on}
use Rattle.gem_world.specs.Access.{IsTouched, a_write, is_allowed}
use Rattle.gem_sound.specs.Kernel.{kernel_body}
use Rattle.object_programs.specs.Budget.{Budget}
use Rattle.object_programs.specs.Fixed.{Fixed, fixed_of, fixed_by}
use Rattle.object_programs.specs.Guard.{Parts, is_user_at, asked_names, fits, parts_with}
use Rattle.object_programs.specs.Atom.{says, Done, touch_missing}
use Rattle.object_programs.specs.Steps.{Step, after_steps}
use Rattle.object_programs.specs.declared.limits.TheConstants.{COUNTER_LIMIT}

-- the setting of a transaction at this place with this view
abbrev pub begun_at : (place view : Image) → (user serial first : ℕ) → Setting
begun_at place view user serial first = record {
  place = place;
  view = view;
  user = user;
  serial = serial;
  first = first;
}

-- the setting with another image at its place
abbrev pub rebased : Image → Setting → Setting
rebased other setting = record setting { place = other }

-- every object of the image is in the other one, with the same fixed part
abbrev pub Stays : Image → Image → Type 0
Stays base other = (name : ℕ) (object : Contents) → objects_in base name ≡ Some object
    → option_map fixed_of (objects_in other name) ≡ Some (fixed_of object)

-- both images have the same at each name that was touched
abbrev pub AgreeOnTouched : Image → Image → World → Type 0
AgreeOnTouched base other world = (name : ℕ) → IsTouched name world
    → objects_in other name ≡ objects_in base name

-- What is left never grows, and names are drawn one after the other. Each name takes space: so no
-- more names are drawn than there was space.
pub record Falls (world : World) (budget : Budget) (later : World) (left : Budget) : Type 0 where
  pub units : left.units ≤ budget.units
  pub slots : left.slots ≤ budget.slots
  pub next : world.next ≤ later.next
  pub drawn : later.next + left.slots ≤ world.next + budget.slots

-- every fixed part stays
abbrev pub KeepsParts : Parts → Parts → Type 0
KeepsParts parts later = (name : ℕ) (fixed : Fixed) → parts name ≡ Some fixed
    → later name ≡ Some fixed

-- no object has a name that is still to be drawn
abbrev pub AreFree : Setting → World → Type 0
AreFree setting world = (counter : ℕ) → world.next ≤ counter → counter < COUNTER_LIMIT
    → shown (name_of setting counter) setting world ≡ None

-- what was written, made or updated has a name that was drawn here, or one at which there was an
-- object before
pub record IsInReach (setting : Setting) (world : World) : Type 0 where
  pub begun : setting.first ≤ world.next
  pub own : (name : ℕ) → is_some (get world.changes name) ≡ true
      → (is_drawn name setting world ≡ true) ⊎ (is_some (before_changes name setting) ≡ true)

-- Among the commands there is one at whose beginning, when those before it have been performed, the
-- user might write the object of this name.
pub record MightWrite (name : ℕ) (steps : List Step) (setting : Setting) (world : World)
    (budget : Budget) : Type 0 where
  pub before : List Step
  pub step : Step
  pub rest : List Step
  pub are : steps ≡ before ++ step ∷ rest
  pub allowed : is_allowed a_write name setting
      (after_steps before setting world budget).state.world ≡ true

-- a body after updates, one after the other; None where one of them is refused
abbrev pub updated_by_all : List Update → Body → Option Body
updated_by_all [] body = Some body
updated_by_all (update ∷ rest) body =
    option_and_then (updated_by_all rest) (updated update body)

-- Names have been drawn from the transaction's first one on. And updates tell what has become of
-- reduced-conflict objects: one that was there before, and wasn't made here, is seen as it was, but
-- for its body, which is the one before after its noted updates.
pub record UpdatesTell (setting : Setting) (world : World) : Type 0 where
  pub begun : setting.first ≤ world.next
  pub told : (name : ℕ) (old : Contents) → before_changes name setting ≡ Some old
      → is_shared old.body ≡ true → is_made name setting world ≡ false
      → option_map (λ body. with_body body old)
      (updated_by_all (updates_on name world.updates) old.body)
      ≡ shown name setting world

-- The objects that are seen are sound: each of them fits and has a name of an object, the kernel
-- and the user are there, and the names that are still to be drawn are names of objects, and free.
pub record AreSound (setting : Setting) (world : World) : Type 0 where
  pub serial_bound : setting.serial < 2 ^ 24
  pub some_name : 0 < world.next
  pub next_bound : world.next ≤ COUNTER_LIMIT
  pub free : AreFree setting world
  pub named : (name : ℕ) → is_some (shown name setting world) ≡ true → name < 2 ^ 48
  pub each : (name : ℕ) (object : Contents) → shown name setting world ≡ Some object
      → fits (fixed_by setting world) name object ≡ true
  pub kernel : (name : ℕ) → is_some (kernel_body name) ≡ true
      → is_some (fixed_by setting world name) ≡ true
  pub user : is_user_at (fixed_by setting world) setting.user ≡ true

-- an atom that says this, and leaves this world and this budget
abbrev pub answered : {A : Type 0} → A → World → Budget → Done A
answered answer world budget =
    record { answer = says answer; world = world; budget = budget }

-- nothing changes but that the names are touched which this object lacks at its name
abbrev pub lacking : ℕ → Contents → Setting → World → World
lacking name new setting world =
    let parts = parts_with name new setting world in
    touch_missing parts (asked_names parts new) world

-- an object's class and segment are names of objects, and its body has a spelling
pub record HasSpelling (object : Contents) : Type 0 where
  pub class_name : IsOid object.class
  pub segment_name : IsOid object.segment
  pub body : IsSpelledBody object.body

-- objects that can be stored, as those of an image: their names are names of objects, and their
-- bodies have spellings
pub record AreStored (objects : Objects) : Type 0 where
  pub named : (name : ℕ) → IsSome (objects name) → IsOid name
  pub spelled : (name : ℕ) (object : Contents) → objects name ≡ Some object
      → IsSpelledBody object.body

-- these are the objects that are seen
abbrev pub Shows : Objects → Setting → World → Type 0
Shows objects setting world = (name : ℕ) → objects name ≡ shown name setting world
