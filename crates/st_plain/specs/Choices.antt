-- What the evaluator decides by values and blocks.
use Rattle.std.specs.Prelude.{Bool, true, false, not, List, Option, None, Some, Result, Ok, Err}
use Rattle.gem_object.specs.texts.Bytes.{Bytes as Text}
use Rattle.st_tree.specs.Trees.{Closure, closure}
use Rattle.gem_object.specs.declared.value.Value.{Value}
use Rattle.object_programs.specs.declared.fault.Fault.TheVariants as fault
use Rattle.running_objects.specs.declared.stop.Stop.{Stop}
use Rattle.running_objects.specs.declared.stop.Stop.TheVariants as stop
use Rattle.tree_meaning.specs.declared.operand.Truth.{Truth}
use Rattle.tree_meaning.specs.declared.operand.Truth.TheVariants as truth

-- whether a condition is this truth value; E3 where it is none
abbrev pub test_of : Truth → (when : Bool) → Result Bool Stop
test_of truth.True when = Ok when
test_of truth.False when = Ok (not when)
test_of truth.Neither when = Err (stop.Fails fault.NotBoolean)

-- what the body of a counting loop is handed, where it is handed the number
abbrev pub handed_value : Bool → Value → Option Value
handed_value true number = Some number
handed_value false number = None

-- the parameters of a block
abbrev pub params_of : Closure → List Text
params_of (closure params temps body) = params
