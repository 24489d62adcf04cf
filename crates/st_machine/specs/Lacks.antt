-- What may be lacking for what is known to be done otherwise.
use Rattle.std.specs.Prelude.{Result, Ok, Err}
use Rattle.std.specs.declared.alloc.AllocError.{AllocError}
use Rattle.tree_meaning.specs.object_programs.declared.fault.Fault.TheVariants as fault
use Rattle.running_objects.specs.declared.stop.Stop.{Stop}
use Rattle.running_objects.specs.declared.stop.Stop.TheVariants as stop
use Rattle.st_machine.specs.declared.flow.Turn.{Turn}
use Rattle.st_machine.specs.declared.flow.Turn.TheVariants as turn
use Rattle.st_machine.specs.declared.lack.Lack.{Lack}
use Rattle.st_machine.specs.declared.lack.Lack.TheVariants as lack

-- how a run stops for which this is lacking
abbrev pub stop_of : Lack → Stop
stop_of lack.Unit = stop.Fails fault.SendBudget
stop_of lack.Room = stop.Fails fault.ObjectTooLarge
stop_of lack.Memory = stop.NoMemory

-- this is how a turn ends for which it is lacking
abbrev pub LackTurned : Lack → Result Turn AllocError → Type 0
LackTurned lack.Unit (Ok turn.NoUnit) = Unit {0}
LackTurned lack.Room (Ok turn.TooLarge) = Unit {0}
LackTurned lack.Memory (Err none) = Unit {0}
LackTurned lacking other = ⊥

-- how a run ends that gives this answer, or for which this is lacking
abbrev pub stopped_by : {A : Type 0} → Result A Lack → Result A Stop
stopped_by (Ok answer) = Ok answer
stopped_by (Err lacking) = Err (stop_of lacking)
