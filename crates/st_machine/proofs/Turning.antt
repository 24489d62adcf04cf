-- What an instruction comes to of which this came.
use Rattle.std.proofs.Common.{◌≡◌, sym, subst, ℕ, suc, List, Option, Result, Ok, Err}
use Rattle.std.specs.declared.alloc.AllocError.{AllocError}
use Rattle.gem_object.specs.declared.value.Value.{Value}
use Rattle.tree_meaning.specs.object_programs.Run.{State}
use Rattle.tree_meaning.specs.Place.{Frame, MadeBlock}
use Rattle.st_compiler.specs.Machine.{CodeEnd, Next}
use Rattle.st_machine.specs.Changed.{IfChanged, IsChanged, ChangedTurned}
use Rattle.st_machine.specs.Lacks.{LackTurned}
use Rattle.st_machine.specs.Led.{TurnedTo, IfDone, IfLeft}
use Rattle.st_machine.specs.declared.changed.Changed.{Changed}
use Rattle.st_machine.specs.declared.changed.Changed.TheVariants.{Stands, NoUnit, TooLarge, NoMemory, Unknown}
use Rattle.st_machine.specs.declared.flow.Turn.{Turn}
use Rattle.st_machine.specs.declared.flow.Turn.TheVariants as turn
use Rattle.st_machine.specs.declared.flow.Turned.{Turned}
use Rattle.st_machine.specs.declared.flow.Turned.TheVariants.{Done, Left}
use Rattle.st_machine.specs.declared.lack.Lack.{Lack}

-- What holds of the turns for which this is lacking holds of what came of it.
pub changed_lacking : {P : Result Turn AllocError → Type 0} (lacking : Lack) (place : ℕ) (changed : Changed)
    → IsChanged changed place (LackTurned lacking)
    → ((result : Result Turn AllocError) → LackTurned lacking result → P result) → IfChanged changed place P
changed_lacking {P} lacking place Stands turned holds = holds (Ok (turn.Goes (suc place))) turned
changed_lacking {P} lacking place NoUnit turned holds = holds (Ok turn.NoUnit) turned
changed_lacking {P} lacking place TooLarge turned holds = holds (Ok turn.TooLarge) turned
changed_lacking {P} lacking place NoMemory turned holds = λ none. holds (Err none) (turned none)
changed_lacking {P} lacking place Unknown turned holds = absurd turned

-- something is lacking: it is known
pub lacking_known : (lacking : Lack) (place : ℕ) (changed : Changed) → IsChanged changed place (LackTurned lacking)
    → changed ≡ Unknown → ⊥
lacking_known lacking place changed turned is =
    subst (λ (one : Changed). IsChanged one place (LackTurned lacking)) is turned

-- What holds of what came of it holds of the turn.
module _ (end : Next → Next → CodeEnd) (place : ℕ) (stack : List Value) (frame : Frame) (state : State MadeBlock) where
  turned_so : (changed : Changed) (result : Result Turn AllocError) → ChangedTurned changed place result
      → IfChanged changed place (λ turned. TurnedTo end turned stack frame state) → TurnedTo end result stack frame state
  turned_so Stands (Ok (turn.Goes there)) is led =
      subst (λ (at : ℕ). TurnedTo end (Ok (turn.Goes at)) stack frame state) (sym is) led
  turned_so Stands (Err none) is led = tt
  turned_so NoUnit (Ok turn.NoUnit) is led = led
  turned_so TooLarge (Ok turn.TooLarge) is led = led
  turned_so NoMemory (Err none) is led = tt
  turned_so changed result is led = absurd is

  pub done_so : (changed : Changed) (turned : Turned) → IfDone turned (ChangedTurned changed place)
      → IfChanged changed place (λ result. TurnedTo end result stack frame state)
      → IfDone turned (λ result. TurnedTo end result stack frame state)
  done_so changed (Done result) is led = turned_so changed result is led
  done_so changed (Left at) is led = tt

-- What holds of a place that is known, where nothing was done, holds of what is left.
pub left_so : (changed : Changed) (turned : Turned) (known : Option ℕ) (P : Option ℕ → Type 0)
    → IfLeft turned (λ at. (changed ≡ Unknown) × (at ≡ known)) → (changed ≡ Unknown → P known) → IfLeft turned P
left_so changed (Done result) known P is holds = tt
left_so changed (Left at) known P is holds = subst P (sym is.1) (holds is.0)
