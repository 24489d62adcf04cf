-- A turn for which something is lacking stops as a run does for which it is.
use Rattle.std.proofs.Common.{◌≡◌, sym, ap, List, Result, Ok, Err}
use Rattle.std.specs.declared.alloc.AllocError.{AllocError}
use Rattle.gem_object.specs.declared.value.Value.{Value}
use Rattle.tree_meaning.specs.object_programs.Run.{State}
use Rattle.tree_meaning.specs.Place.{Frame, MadeBlock}
use Rattle.st_compiler.specs.Machine.{CodeEnd, Next}
use Rattle.running_objects.specs.Acted.{with_answer}
use Rattle.running_objects.specs.declared.stop.Stop.{Stop}
use Rattle.look_up_cache.specs.Elements.{ended_by}
use Rattle.st_machine.specs.AtOnce.{giving, answering, assigning}
use Rattle.st_machine.specs.Lacks.{stop_of, stopped_by, LackTurned}
use Rattle.st_machine.specs.Led.{AskedTo, TurnedTo}
use Rattle.st_machine.specs.declared.flow.Turn.{Turn}
use Rattle.st_machine.specs.declared.flow.Turn.TheVariants as turn
use Rattle.st_machine.specs.declared.lack.Lack.{Lack}
use Rattle.st_machine.specs.declared.lack.Lack.TheVariants as lack

module _ (end : Next → Next → CodeEnd) where
  pub lack_turned : (lacking : Lack) (result : Result Turn AllocError) → LackTurned lacking result → (stack : List Value)
      (frame : Frame) (state : State MadeBlock) → AskedTo end (Err (stop_of lacking)) stack frame state
      → TurnedTo end result stack frame state
  lack_turned lack.Unit (Ok turn.NoUnit) turned stack frame state led = led
  lack_turned lack.Room (Ok turn.TooLarge) turned stack frame state led = led
  lack_turned lack.Memory (Err none) turned stack frame state led = tt
  lack_turned lacking other turned stack frame state led = absurd turned

-- A run that ended as what is lacking tells ended so.
pub giving_as : (ended : Result Value Stop) (known : Result Value Lack) → stopped_by known ≡ ended
    → ended_by ended ≡ giving known
giving_as ended (Ok value) is = ap ended_by (sym is)
giving_as ended (Err lacking) is = ap ended_by (sym is)

pub answering_as : (value : Value) (ended : Result (Unit {0}) Stop) (known : Result (Unit {0}) Lack)
    → stopped_by known ≡ ended → ended_by (with_answer value ended) ≡ giving (answering value known)
answering_as value ended (Ok nothing) is = ap (λ (e : Result (Unit {0}) Stop). ended_by (with_answer value e)) (sym is)
answering_as value ended (Err lacking) is = ap (λ (e : Result (Unit {0}) Stop). ended_by (with_answer value e)) (sym is)

pub assigning_as : (value : Value) (ended : Result (Unit {0}) Stop) (known : Result (Unit {0}) Lack)
    → stopped_by known ≡ ended → with_answer value ended ≡ assigning value known
assigning_as value ended (Ok nothing) is = ap (with_answer value) (sym is)
assigning_as value ended (Err lacking) is = ap (with_answer value) (sym is)
