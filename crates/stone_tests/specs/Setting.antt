-- What tests keep of a Stone.
use Rattle.std.specs.Prelude.{◌≡◌, ◌≤◌, ℕ, true, List, [], ◌∷◌, codes, IsSome}
use Rattle.std.specs.FinMap.{get}
use Rattle.gem_object.specs.gem_value.Oid.{oid_number}
use Rattle.gem_image.specs.Image.{Image}
use Rattle.shell_words.specs.Script.{SessionCommands}
use Rattle.shell_words.specs.declared.script.Command.TheVariants.{Commit}
use Rattle.gem_meaning.specs.Events.{Told, standing}
use Rattle.stone_core.specs.Stone.{is_session}

-- a session that commits at once
abbrev pub one_commit : SessionCommands
one_commit = record { user = codes "DataCurator"; commands = Commit ∷ [] }

-- two such sessions
abbrev pub two_sessions : List SessionCommands
two_sessions = one_commit ∷ one_commit ∷ []

-- the two boxes are there
abbrev pub HasBoxes : Image → Type 0
HasBoxes image = (counter : ℕ) → 1 ≤ counter → counter ≤ 2
    → IsSome (get image (oid_number 1 counter))

-- the Stone serves two sessions, and the two boxes are there
pub record IsReady (t : Told) : Type 0 where
  pub serves : (session : ℕ) → 1 ≤ session → session ≤ 2
      → is_session t.opened.script session ≡ true
  pub boxes : HasBoxes (standing t).image
