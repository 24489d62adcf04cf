-- What a session says to chunks and methods, and the objects that its transaction sees.
use Rattle.std.specs.Prelude.{◌≡◌, ◌⊎◌, ℕ, ◌+◌, ◌≤◌, true, false, List, [], ◌∷◌, Option, Some, None}
use Rattle.gem_record.specs.gem_world.World.{Setting, World}
use Rattle.gem_language.specs.object_programs.declared.limits.TheConstants.{SPACE_LIMIT, COUNTER_LIMIT}
use Rattle.gem_language.specs.Commands.{Command as ObjectCommand}
use Rattle.gem_language.specs.Transaction.{command_outcome, said_of}
use Rattle.gem_replies.specs.declared.reply.Line.{Line}
use Rattle.gem_replies.specs.declared.reply.Line.TheVariants.{NoMemory}
use Rattle.gem_meaning.specs.Lines.{said_lines}
use Rattle.gem_meaning.specs.Opened.{Opened, entry_setting}
use Rattle.gem_meaning.specs.Events.{Event, image_at, after_events}
use Rattle.gem_meaning.specs.State.{SessionState, CommandPlace, entry_to, run_so_far}

-- what the session's transaction runs on, where all stands as at its view
abbrev pub setting_of : Opened → List Event → SessionState → Setting
setting_of o events s = let view = image_at (after_events o events) s.view in
    entry_setting o (entry_to 0 s) view view

-- the world that the transaction has made when it comes to the command at this place
abbrev pub world_so_far : CommandPlace → SessionState → World
world_so_far at s = (run_so_far at.opened at.before at.number s).world

-- the lines of a command on objects, where the transaction sees these
abbrev pub lines_in : ObjectCommand → Setting → World → List Line
lines_in command setting world = said_lines (said_of (command_outcome command setting world))

-- the counter of the name that is drawn next, after the command
abbrev pub next_in : ObjectCommand → Setting → World → ℕ
next_in command setting world = (command_outcome command setting world).state.world.next

-- A command draws at most as many names as a chunk has space, and none from the end of the counters
-- on.
pub record DrawsNames (before after : ℕ) : Type 0 where
  pub grows : before ≤ after
  pub most : after ≤ before + SPACE_LIMIT
  pub end : after ≤ COUNTER_LIMIT

-- The replies of a chunk or a method are what it means on what the transaction has done so far.
pub record MeantSoFar (command : ObjectCommand) (at : CommandPlace) (s : SessionState)
    (lines : List Line) (s' : SessionState) : Type 0 where
  pub unspoiled : s.spoiled ≡ false
  pub lines_are : lines ≡ lines_in command (setting_of at.opened at.before s) (world_so_far at s)
  pub state : s' ≡ record s {
    next_name = next_in command (setting_of at.opened at.before s) (world_so_far at s);
  }

-- Where the transaction is spoiled nobody knows what it has done: the replies are what the command
-- means on some objects.
pub record MeantSpoiled (command : ObjectCommand) (at : CommandPlace) (s : SessionState)
    (lines : List Line) (s' : SessionState) : Type 0 where
  pub spoiled : s.spoiled ≡ true
  pub world : World
  pub lines_are : lines ≡ lines_in command (setting_of at.opened at.before s) world
  pub draws : DrawsNames s.next_name s'.next_name
  pub state : s' ≡ record s { next_name = s'.next_name }

-- The command found no memory: the transaction is spoiled.
pub record RanShort (s : SessionState) (lines : List Line) (s' : SessionState) : Type 0 where
  pub lines_are : lines ≡ NoMemory ∷ []
  pub draws : DrawsNames s.next_name s'.next_name
  pub state : s' ≡ record s { spoiled = true; next_name = s'.next_name }

-- what a command on objects says
abbrev pub ObjectSays : ObjectCommand → CommandPlace → SessionState → List Line → SessionState
    → Type 0
ObjectSays command at s lines s' = RanShort s lines s'
    ⊎ (MeantSoFar command at s lines s' ⊎ MeantSpoiled command at s lines s')

-- A chunk or a method, which doesn't look at the Stone.
abbrev pub RunSays : Option ObjectCommand → CommandPlace → SessionState → List Line → SessionState
    → Type 0
RunSays None at s lines s' = ⊥
RunSays (Some command) at s lines s' =
    (at.after ≡ at.before) × ObjectSays command at s lines s'
