-- What the special forms ask of values.
use Rattle.std.specs.Prelude.{Bool}
use Rattle.object_programs.specs.gem_object.declared.value.Value.{Value}
use Rattle.object_programs.specs.gem_object.declared.value.Value.TheVariants as value
use Rattle.object_programs.specs.Run.{Run, fail}
use Rattle.object_programs.specs.Programs.{choose}
use Rattle.object_programs.specs.declared.fault.Fault.TheVariants as fault
use Rattle.tree_meaning.specs.Place.{MadeBlock}
use Rattle.tree_meaning.specs.declared.operand.Truth.{Truth}
use Rattle.tree_meaning.specs.declared.operand.Truth.TheVariants as truth
use Rattle.tree_meaning.specs.declared.operand.Pair.{Pair}
use Rattle.tree_meaning.specs.declared.operand.Pair.TheVariants.{Ints, Others}

-- A program that answers a value. Programs here belong to blocks that keep their tree.
abbrev pub ValueRun : Type 1
ValueRun = Run MadeBlock Value

-- what a value is as a condition
abbrev pub truth_of : Value → Truth
truth_of value.True = truth.True
truth_of value.False = truth.False
truth_of other = truth.Neither

-- the first program where the condition is this truth value, the second where it is the other one;
-- E3 where it is no Boolean
abbrev pub by_truth : Truth → (when : Bool) → (first second : ValueRun) → ValueRun
by_truth truth.True when first second = choose when first second
by_truth truth.False when first second = choose when second first
by_truth truth.Neither when first second = fail fault.NotBoolean

-- what two values are as the ends of a counting loop
abbrev pub int_pair : (first limit : Value) → Pair
int_pair (value.Int first) (value.Int limit) = Ints first limit
int_pair first limit = Others
