-- Answers that are put in place of a receiver and its arguments without a look at any object.
use Rattle.std.specs.Prelude.{◌≡◌, ◌∷◌, ℕ, List, Option, Some}
use Rattle.gem_object.specs.declared.value.Value.{Value}
use Rattle.gem_object.specs.declared.body.MethodCode.TheVariants.{Primitive}
use Rattle.gem_language.specs.declared.found.Found.{Found}
use Rattle.running_objects.specs.Seen.{Seen}
use Rattle.st_compiler.specs.Instruction.{Instruction}
use Rattle.st_machine.specs.AtOnce.{IsReady}
use Rattle.look_up_cache.specs.Variables.{bare_frame}
use Rattle.st_machine.specs.Quick.{AnswersQuickly, PushedAtOnce}

-- The primitive of this number is ready, and its answer stands above these values.
pub record ReadyPut (number : ℕ) (receiver : Value) (arguments : List Value) (seen : Seen)
    (below left : List Value) : Type 0 where
  pub answer : Value
  pub ready : IsReady number receiver arguments seen answer
  pub stands : left ≡ answer ∷ below

-- What was found answers by one push, or is a primitive that is ready, and its answer stands above
-- these values.
pub data PutBy (found : Option Found) (receiver : Value) (arguments : List Value) (seen : Seen)
    (below left : List Value) : Type 0 where
  by_push : (held : Found) (one : Instruction) → Some held ≡ found
      → AnswersQuickly found held.holder held.class_side one
      → PushedAtOnce one (bare_frame receiver held.holder held.class_side) seen below left
      → PutBy found receiver arguments seen below left
  by_primitive : (held : Found) (number : ℕ) → Some held ≡ found → held.code ≡ Primitive number
      → ReadyPut number receiver arguments seen below left
      → PutBy found receiver arguments seen below left
