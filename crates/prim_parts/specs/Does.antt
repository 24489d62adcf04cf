-- That code did what a program does that neither sees nor changes what is local.
use Rattle.std.specs.Prelude.{◌≡◌, ℕ, true, is_some, Result, Ok, Err}
use Rattle.std.specs.Borrow.{Bor}
use Rattle.tree_meaning.specs.Place.{MadeBlock}
use Rattle.object_programs.specs.gem_world.World.{Setting}
use Rattle.object_programs.specs.Local.{Local}
use Rattle.object_programs.specs.Run.{Run, State, perform}
use Rattle.running_objects.specs.Seen.{Seen, object_at, with_local, Keeps}
use Rattle.running_objects.specs.Ran.{EndsSo}
use Rattle.running_objects.specs.declared.stop.Stop.{Stop}

module _ {A : Type 0} where
  -- Code did what the program does: from what was seen before, to this result and what is seen
  -- after, whatever is local. Where memory ran out only `keeps` is known.
  pub record Does (program : Run MadeBlock A) (before : Seen) (result : Result A Stop)
      (after : Seen) : Type 0 where
    pub keeps : Keeps before after
    pub ends : (local : Local MadeBlock)
        → EndsSo (perform program before.setting (with_local before local)) result
        (with_local after local)

  -- The program comes to this result whatever is seen, and changes nothing.
  pub record Computes (program : Run MadeBlock A) (result : Result A Stop) : Type 0 where
    pub ends : (setting : Setting) (state : State MadeBlock)
        → EndsSo (perform program setting state) result state

-- what the reference points to, where there is one
abbrev pub pointed : {A : Type 0} → Result (Bor A) Stop → Result A Stop
pointed (Ok found) = Ok found.now
pointed (Err ended) = Err ended

-- what two and three references point to, where they are there
abbrev pub pointed_two : {A : Type 0} → Result (Bor A × Bor A) Stop → Result (A × A) Stop
pointed_two (Ok found) = Ok (found.0.now, found.1.now)
pointed_two (Err ended) = Err ended

abbrev pub pointed_three : {A : Type 0} → Result (Bor A × Bor A × Bor A) Stop
    → Result (A × (A × A)) Stop
pointed_three (Ok found) = Ok (found.0.now, (found.1.now, found.2.now))
pointed_three (Err ended) = Err ended

-- there is an object of this name
abbrev pub IsThere : ℕ → Seen → Type 0
IsThere name seen = is_some (object_at name seen) ≡ true
