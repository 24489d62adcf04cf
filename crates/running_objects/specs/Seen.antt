-- What a running transaction shows of its state, and what is kept whatever becomes of it.
use Rattle.std.specs.Prelude.{◌≡◌, ℕ, Option}
use Rattle.object_programs.specs.gem_image.Image.{Contents}
use Rattle.object_programs.specs.gem_world.World.{Setting, World, shown}
use Rattle.object_programs.specs.Budget.{Budget, whole_budget}
use Rattle.object_programs.specs.Local.{Local}
use Rattle.object_programs.specs.Run.{State}
use Rattle.object_programs.specs.Laws.{Falls, AreSound}

-- What a state shows: what doesn't change, what has become of the objects, and what is left.
pub record Seen : Type 0 where
  pub setting : Setting
  pub world : World
  pub budget : Budget

-- the object of this name that is seen
abbrev pub object_at : ℕ → Seen → Option Contents
object_at name seen = shown name seen.setting seen.world

-- the objects that are seen are sound
abbrev pub IsSoundState : Seen → Type 0
IsSoundState seen = AreSound seen.setting seen.world

-- the state of a program: what is seen, and what is local
abbrev pub with_local : {B : Type 0} → Seen → Local B → State B
with_local seen local = record { world = seen.world; budget = seen.budget; local = local }

-- a new chunk begins: its budget is whole, and setting and objects stay
abbrev pub with_whole_budget : Seen → Seen
with_whole_budget seen = record seen { budget = whole_budget }

-- What holds of two states of a run, the earlier one first, also where memory ran out between them:
-- the setting is the same, what is left hasn't grown and names were drawn one after the other, and
-- sound objects are still sound.
pub record Keeps (before after : Seen) : Type 0 where
  pub setting : after.setting ≡ before.setting
  pub falls : Falls before.world before.budget after.world after.budget
  pub sound : IsSoundState before → IsSoundState after
