-- For want of what a primitive may end that is known to give a value otherwise.
use Rattle.std.specs.Prelude.{Result, Ok, Err}
use Rattle.running_objects.specs.object_programs.declared.fault.Fault.TheVariants as fault
use Rattle.running_objects.specs.declared.stop.Stop.{Stop}
use Rattle.running_objects.specs.declared.stop.Stop.TheVariants as stop

-- a unit is lacking, or room in an object, or memory
abbrev pub IsLack : Stop → Type 0
IsLack (stop.Fails fault.SendBudget) = Unit {0}
IsLack (stop.Fails fault.ObjectTooLarge) = Unit {0}
IsLack (stop.Fails other) = ⊥
IsLack (stop.Returns answer home) = ⊥
IsLack stop.NoMemory = Unit {0}

-- it ends well, or for want of one of these
abbrev pub LacksAtMost : {A : Type 0} → Result A Stop → Type 0
LacksAtMost (Ok answer) = Unit {0}
LacksAtMost (Err ended) = IsLack ended
