-- That code did what a program does.
use Rattle.std.specs.Prelude.{◌≡◌, Result, Ok, Err}
use Rattle.object_programs.specs.Local.{Local}
use Rattle.object_programs.specs.Run.{Run, gives, returns, fails, State, Outcome, perform}
use Rattle.running_objects.specs.Seen.{Seen, with_local, Keeps}
use Rattle.running_objects.specs.declared.stop.Stop.{Stop}
use Rattle.running_objects.specs.declared.stop.Stop.TheVariants as stop

module _ {B A : Type 0} where
  -- A program ended with this result and this state. Where memory ran out nothing is said.
  abbrev pub EndsSo : Outcome B A → Result A Stop → State B → Type 0
  EndsSo outcome (Ok answer) state = outcome ≡ record { end = gives answer; state = state }
  EndsSo outcome (Err (stop.Fails fault)) state =
      outcome ≡ record { end = fails fault; state = state }
  EndsSo outcome (Err (stop.Returns value home)) state =
      outcome ≡ record { end = returns value home; state = state }
  EndsSo outcome (Err stop.NoMemory) state = Unit {0}

  -- Code ran as the program does: from what was seen and local before, to this result and what is
  -- seen and local after. Where memory ran out only `keeps` is known.
  pub record Ran (program : Run B A) (before : Seen) (local : Local B) (result : Result A Stop)
      (after : Seen) (later : Local B) : Type 0 where
    pub keeps : Keeps before after
    pub ends : EndsSo (perform program before.setting (with_local before local)) result
        (with_local after later)

  -- So far code ran as the beginning of a program does: what the program does is what this rest of
  -- it does from here on.
  pub record Leads (program : Run B A) (before : Seen) (local : Local B) (rest : Run B A)
      (after : Seen) (later : Local B) : Type 0 where
    pub keeps : Keeps before after
    pub same : perform program before.setting (with_local before local)
        ≡ perform rest after.setting (with_local after later)
