-- What is known to be done without a look at any object.
use Rattle.std.specs.Prelude.{ℕ, List, Result, Ok, Err}
use Rattle.gem_object.specs.texts.Bytes.{Bytes as Text}
use Rattle.gem_object.specs.declared.value.Value.{Value}
use Rattle.prim_parts.specs.prim_rules.declared.answer.PrimitiveAnswer.{PrimitiveAnswer}
use Rattle.prim_parts.specs.prim_rules.declared.answer.PrimitiveAnswer.TheVariants.{Gives}
use Rattle.prim_parts.specs.Does.{Does}
use Rattle.tree_meaning.specs.object_programs.Atom.{Tick}
use Rattle.tree_meaning.specs.object_programs.Budget.{Budget}
use Rattle.tree_meaning.specs.object_programs.Run.{Run, atom, and_then}
use Rattle.tree_meaning.specs.Place.{Frame, MadeBlock}
use Rattle.gem_language.specs.prim_rules.Rules.{rule_of}
use Rattle.gem_language.specs.OutOfScope.{read_out_of_scope}
use Rattle.running_objects.specs.Seen.{Seen}
use Rattle.running_objects.specs.declared.stop.Stop.{Stop}
use Rattle.look_up_cache.specs.Memory.{with_budget}
use Rattle.st_machine.specs.Lacks.{stop_of}
use Rattle.st_machine.specs.declared.lack.Lack.{Lack}

-- The primitive of this number gives this value, whatever the budget is, and changes nothing.
abbrev pub IsReady : (number : ℕ) → (receiver : Value) → (arguments : List Value) → Seen → Value
    → Type 0
IsReady number receiver arguments seen value = (budget : Budget)
    → Does (rule_of number receiver arguments) (with_budget budget seen) (Ok (Gives value))
    (with_budget budget seen)

-- The name out of scope stands for this value, whatever the budget is, and nothing changes.
abbrev pub StandsFor : (name : Text) → Frame → Seen → Value → Type 0
StandsFor name frame seen value = (budget : Budget)
    → Does (read_out_of_scope name frame) (with_budget budget seen) (Ok value)
    (with_budget budget seen)

-- a primitive with the unit of its message
abbrev pub with_unit : (number : ℕ) → (receiver : Value) → (arguments : List Value)
    → Run MadeBlock PrimitiveAnswer
with_unit number receiver arguments =
    and_then (atom Tick) (λ ticked. rule_of number receiver arguments)

-- how a primitive ends that gives this value, or for which this is lacking
abbrev pub giving : Result Value Lack → Result PrimitiveAnswer Stop
giving (Ok value) = Ok (Gives value)
giving (Err lack) = Err (stop_of lack)

-- how what answers this value ends, or that for which this is lacking
abbrev pub answering : Value → Result (Unit {0}) Lack → Result Value Lack
answering value (Ok nothing) = Ok value
answering value (Err lack) = Err lack

-- how an assignment of this value ends, or one for which this is lacking
abbrev pub assigning : Value → Result (Unit {0}) Lack → Result Value Stop
assigning value (Ok nothing) = Ok value
assigning value (Err lack) = Err (stop_of lack)
