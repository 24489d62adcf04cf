-- Methods that answer by one push: one instruction puts a value, and the next returns it.
use Rattle.std.specs.Prelude.{◌≡◌, ℕ, Bool, nat_eq, cond, List, ◌∷◌, slice_get, Option, None, Some, Result, Ok, Err}
use Rattle.st_tree.specs.Trees.{Program}
use Rattle.gem_object.specs.declared.value.Value.{Value}
use Rattle.gem_object.specs.declared.value.Value.TheVariants as value
use Rattle.tree_meaning.specs.object_programs.Budget.{Budget}
use Rattle.tree_meaning.specs.object_programs.Run.{give}
use Rattle.tree_meaning.specs.Place.{Frame}
use Rattle.tree_meaning.specs.Operands.{ValueRun}
use Rattle.gem_language.specs.OutOfScope.{read_out_of_scope}
use Rattle.gem_language.specs.declared.found.Found.{Found}
use Rattle.gem_language.specs.Commands.{selector_of}
use Rattle.prim_parts.specs.Does.{Does}
use Rattle.running_objects.specs.Seen.{Seen}
use Rattle.look_up_cache.specs.Memory.{with_budget}
use Rattle.running_objects.specs.declared.stop.Stop.{Stop}
use Rattle.running_objects.specs.declared.stop.Stop.TheVariants as stop
use Rattle.st_compiler.specs.Instruction.{Instruction, PushSelf, PushNil, PushTrue, PushFalse, PushLit, PushName, ReturnMethod}
use Rattle.st_machine.specs.Parts.{part_code}
use Rattle.st_machine.specs.Targets.{target_for}
use Rattle.st_machine.specs.declared.shared_code.Part.TheVariants.{Whole}
use Rattle.st_machine.specs.declared.target.Target.TheVariants.{Method}

-- It puts self, a constant that is a value, or what a name out of scope stands for.
abbrev pub IsPut : Instruction → Type 0
IsPut PushSelf = Unit {0}
IsPut PushNil = Unit {0}
IsPut PushTrue = Unit {0}
IsPut PushFalse = Unit {0}
IsPut (PushLit answer) = Unit {0}
IsPut (PushName name) = Unit {0}
IsPut other = ⊥

-- what it puts; of any other nothing is asked
abbrev pub put_value : Instruction → Frame → ValueRun
put_value PushNil frame = give value.Nil
put_value PushTrue frame = give value.True
put_value PushFalse frame = give value.False
put_value (PushLit answer) frame = give answer
put_value PushSelf frame = give frame.receiver
put_value (PushName name) frame = read_out_of_scope name frame
put_value other frame = give value.Nil

-- A text begins with such an instruction, and the return: no code after them runs.
pub record IsQuick (tree : Program) (one : Instruction) : Type 0 where
  pub puts : IsPut one
  pub first : slice_get (part_code tree Whole) 0 ≡ Some one
  pub second : slice_get (part_code tree Whole) 1 ≡ Some ReturnMethod

-- The method's answer, where this is its home: a value that returns to it is its answer.
abbrev pub at_home : (home : ℕ) → Result Value Stop → Result Value Stop
at_home home (Err (stop.Returns answer number)) =
    cond (nat_eq number home) (Ok answer) (Err (stop.Returns answer number))
at_home home ended = ended

-- what such an instruction puts, where that asks no objects
abbrev pub constant_put : Instruction → (receiver : Value) → Option Value
constant_put PushSelf receiver = Some receiver
constant_put PushNil receiver = Some value.Nil
constant_put PushTrue receiver = Some value.True
constant_put PushFalse receiver = Some value.False
constant_put (PushLit answer) receiver = Some answer
constant_put other receiver = None

-- there is an answer, and it stands above these values
abbrev pub Replaced : Option Value → (below left : List Value) → Type 0
Replaced (Some answer) below left = left ≡ answer ∷ below
Replaced None below left = ⊥

-- The instruction puts this value, whatever the budget is, and changes nothing; the value stands
-- above these.
pub record PushedAtOnce (one : Instruction) (frame : Frame) (seen : Seen) (below left : List Value)
    : Type 0 where
  pub value : Value
  pub puts : (budget : Budget)
      → Does (put_value one frame) (with_budget budget seen) (Ok value) (with_budget budget seen)
  pub stands : left ≡ value ∷ below

-- What was found is a method that answers by this push: this class holds it, on its class side or
-- not.
pub record AnswersQuickly (found : Option Found) (holder : ℕ) (class_side : Bool)
    (one : Instruction) : Type 0 where
  pub tree : Program
  pub leads : target_for found ≡ Method tree holder class_side
  pub named : tree.selector ≡ Some (selector_of tree)
  pub quick : IsQuick tree one
