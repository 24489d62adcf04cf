-- What a plain state begins with.
use Rattle.std.specs.Prelude.{ℕ}
use Rattle.gem_image.specs.Image.{Image}
use Rattle.gem_world.specs.World.{untouched}
use Rattle.object_programs.specs.Budget.{whole_budget}
use Rattle.object_programs.specs.Laws.{begun_at, AreSound}
use Rattle.running_objects.specs.Seen.{Seen}

-- a transaction at this place with this view, before anything is done, with a whole budget
abbrev pub begun : (place view : Image) → (user serial first : ℕ) → Seen
begun place view user serial first = record {
  setting = begun_at place view user serial first;
  world = untouched first;
  budget = whole_budget;
}

-- The objects are sound that such a transaction begins with. They are where place and view are
-- sound for its user and its names, and the place has each object of the view with the same fixed
-- part.
abbrev pub BeginsSound : (place view : Image) → (user serial first : ℕ) → Type 0
BeginsSound place view user serial first =
    AreSound (begun_at place view user serial first) (untouched first)
