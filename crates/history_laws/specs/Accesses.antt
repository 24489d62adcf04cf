-- The moments of a run: what is there before and after each of its atoms, and which access the atom
-- makes. And what the law of accesses says of them.
use Rattle.std.specs.Prelude.{◌≡◌, ℕ, true, false, List, [], ◌∷◌, ◌++◌, map, Contains, Option, Some, None, is_some, option_map}
use Rattle.std.specs.FinMap.{get}
use Rattle.gem_meaning.specs.texts.Bytes.{Bytes as Text}
use Rattle.gem_meaning.specs.seg_rights.declared.rights.Rights.{Rights}
use Rattle.gem_meaning.specs.gem_image.Image.{Image, Contents, objects_in}
use Rattle.gem_meaning.specs.gem_image.Rights.{rights_of}
use Rattle.gem_meaning.specs.gem_record.declared.record.Entry.{Entry}
use Rattle.gem_meaning.specs.gem_world.World.{Setting, World, untouched, is_made, is_among}
use Rattle.gem_meaning.specs.gem_world.Access.{Access, a_write, is_allowed}
use Rattle.gem_meaning.specs.object_programs.Fixed.{Fixed, fixed_of}
use Rattle.gem_meaning.specs.object_programs.Atom.{Atom, Ask, Own, Kind, Made, Who, Put, Move, Note, Names, Make, Tick, Room, Show, done}
use Rattle.gem_meaning.specs.object_programs.Run.{Run, give, fail, return_to, atom, seeing, become, and_then, ending, Ending, gives, returns, fails, State, perform}
use Rattle.gem_meaning.specs.gem_language.Commands.{Command, command_reply}
use Rattle.gem_meaning.specs.gem_language.Transaction.{begin_command, command_outcome}
use Rattle.gem_meaning.specs.Commands.{object_commands}
use Rattle.gem_meaning.specs.Opened.{Opened, entry_commands, entry_setting}
use Rattle.gem_meaning.specs.Events.{Standing, image_at, ordinary_at}

-- A moment of a run: what is there before one of its atoms and after it, and the access that the
-- atom makes, where it makes one.
pub record Moment : Type 0 where
  pub world : World
  pub asked : Option (Access × ℕ)
  pub after : World

-- The access of an atom. To note an update of a reduced-conflict object is a write of it.
abbrev pub asked_by : {A : Type 0} → Atom A → Option (Access × ℕ)
asked_by (Ask access name) = Some (access, name)
asked_by (Note name update) = Some (a_write, name)
asked_by Own = None
asked_by (Kind name) = None
asked_by (Made name) = None
asked_by Who = None
asked_by (Put name body) = None
asked_by (Move name segment) = None
asked_by (Names count) = None
asked_by (Make objects_at) = None
asked_by Tick = None
asked_by (Room slots) = None
asked_by (Show text) = None

module _ {B : Type 0} where
  -- those of a second program, where the first one gave an answer
  abbrev pub moments_onward : {C : Type 0} → Ending C → State B → (C → State B → List Moment)
      → List Moment
  moments_onward (gives answer) state second = second answer state
  moments_onward (returns value home) state second = []
  moments_onward (fails fault) state second = []

  -- the moments of a program that is performed, in their order
  abbrev pub moments : {A : Type 0} → Run B A → Setting → State B → List Moment
  moments (give answer) setting state = []
  moments (fail fault) setting state = []
  moments (return_to value home) setting state = []
  moments (atom one) setting state = record {
    world = state.world;
    asked = asked_by one;
    after = (done one setting state.world state.budget).world;
  } ∷ []
  moments (seeing see) setting state = moments (see state.budget state.local) setting state
  moments (become local) setting state = []
  moments (and_then first second) setting state =
      let before = perform first setting state in
      moments first setting state ++ moments_onward before.end before.state
      (λ answer after. moments (second answer) setting after)
  moments (ending first second) setting state =
      let before = perform first setting state in
      moments first setting state ++ moments (second before.end) setting before.state

-- the moments of a command
abbrev pub moments_of : Command → Setting → World → List Moment
moments_of command setting world = moments (command_reply command) setting (begin_command world)

-- those of commands, one after the other
abbrev pub command_moments : List Command → Setting → World → List Moment
command_moments [] setting world = []
command_moments (command ∷ rest) setting world = moments_of command setting world
    ++ command_moments rest setting (command_outcome command setting world).state.world

-- The moments of an entry's transaction where ordinary objects are those of `place` and
-- reduced-conflict objects those of `view`.
abbrev pub moments_at : Opened → Entry → (place view : Image) → List Moment
moments_at o e place view = command_moments (object_commands (entry_commands o.script e))
    (entry_setting o e place view) (untouched e.first_name)

-- those of a transaction at its place, where its mode has ordinary objects read
abbrev pub moments_at_place : Opened → Standing → Entry → List Moment
moments_at_place o s e = moments_at o e (ordinary_at s e) (image_at s e.view)

-- ---- accesses that aren't allowed

-- The moment asks for this access to the object of this name, and the user hasn't the right to it,
-- by what is seen then.
pub record IsRefused (access : Access) (name : ℕ) (setting : Setting) (moment : Moment) : Type 0
  where
    pub asked : moment.asked ≡ Some (access, name)
    pub refused : is_allowed access name setting moment.world ≡ false

-- ---- accesses that are allowed

-- In one of the moments the access to the object of this name was asked for, and the user had the
-- right to it, by what was seen then.
pub record IsMade (access : Access) (name : ℕ) (setting : Setting) (passed : List Moment) : Type 0
  where
    pub moment : Moment
    pub passes : Contains passed moment
    pub asked : moment.asked ≡ Some (access, name)
    pub allowed : is_allowed access name setting moment.world ≡ true

-- an object of this name is among what changed, and wasn't made in the transaction
pub record IsChanged (name : ℕ) (setting : Setting) (world : World) : Type 0 where
  pub there : is_some (get world.changes name) ≡ true
  pub old : is_made name setting world ≡ false

-- an update of the object of this name was noted
abbrev pub IsNoted : ℕ → World → Type 0
IsNoted name world = is_among name (map (λ entry. entry.0) world.updates) ≡ true

-- One of the moments is a write of the object of this name, to which the user has the right by what
-- is seen then; and this doesn't hold before it, and holds after it.
pub record BeginsByWrite (name : ℕ) (Holds : World → Type 0) (setting : Setting)
    (passed : List Moment) : Type 0 where
  pub moment : Moment
  pub passes : Contains passed moment
  pub asked : moment.asked ≡ Some (a_write, name)
  pub allowed : is_allowed a_write name setting moment.world ≡ true
  pub before : Holds moment.world → ⊥
  pub after : Holds moment.after

-- ---- what no access was made to

-- What of an object is open to everybody, without an access: its fixed part, its segment, and the
-- rights that it gives, where it is a segment.
pub record OpenPart : Type 0 where
  pub fixed : Fixed
  pub segment : ℕ
  pub rights : Option (Rights Text)

abbrev pub open_part : Contents → OpenPart
open_part object = record {
  fixed = fixed_of object;
  segment = object.segment;
  rights = rights_of object.body;
}

-- two images have the same open part at each name
abbrev pub HaveSameParts : Image → Image → Type 0
HaveSameParts image other = (name : ℕ)
    → option_map open_part (objects_in other name) ≡ option_map open_part (objects_in image name)

-- The images of a place and a view differ from those of the setting only in what these moments
-- haven't seen: open parts are the same, and so are the user's own profile and each object to which
-- an access was made that was allowed.
pub record DifferUnseen (place view : Image) (setting : Setting) (passed : List Moment) : Type 0
  where
    pub parts : HaveSameParts setting.place place
    pub view_parts : HaveSameParts setting.view view
    pub own : objects_in place setting.user ≡ objects_in setting.place setting.user
    pub view_own : objects_in view setting.user ≡ objects_in setting.view setting.user
    pub made : (access : Access) (name : ℕ) → IsMade access name setting passed
        → objects_in place name ≡ objects_in setting.place name
    pub view_made : (access : Access) (name : ℕ) → IsMade access name setting passed
        → objects_in view name ≡ objects_in setting.view name
