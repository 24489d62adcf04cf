-- How programs end, as relations of states.
use Rattle.std.specs.Prelude.{◌≡◌, ℕ, List}
use Rattle.object_programs.specs.gem_world.World.{Setting}
use Rattle.object_programs.specs.Run.{Run, Ending, gives, fails, State, perform}
use Rattle.object_programs.specs.declared.fault.Fault.TheVariants as fault
use Rattle.tree_meaning.specs.Place.{MadeBlock}

-- from this state the program ends so, and leaves that state
abbrev pub Comes : {A : Type 0} → Run MadeBlock A → Setting → (state : State MadeBlock) → Ending A
    → (after : State MadeBlock) → Type 0
Comes program setting state end after =
    perform program setting state ≡ record { end = end; state = after }

-- Nothing came about but touches.
pub record OnlyTouched (before after : State MadeBlock) : Type 0 where
  pub touched : List ℕ
  pub same : after ≡ record before { world = record before.world { touched = touched } }

-- The program gives an answer, or is refused a read: there is no other end.
pub data IsAnswered {A : Type 0} : Ending A → Type 0 where
  with_answer : (answer : A) → IsAnswered (gives answer)
  not_readable : (name : ℕ) → IsAnswered (fails (fault.NoReadRight name))
