-- Operators that integers answer by primitives.
use Rattle.std.specs.Prelude.{ℕ, ℤ, codes}
use Rattle.gem_object.specs.texts.Bytes.{Bytes}
use Rattle.gem_object.specs.declared.value.Value.TheVariants.{Int}
use Rattle.running_objects.specs.gem_sound.declared.names.TheConstants.{SMALL_INTEGER_CLASS}
use Rattle.running_objects.specs.Seen.{Seen}
use Rattle.gem_language.specs.LookUp.{Start}
use Rattle.look_up_cache.specs.Calm.{start_in}
use Rattle.look_up_cache.specs.Answering.{FindsPrimitive, AnswersBy}
use Rattle.look_up_cache.specs.declared.operator.IntegerOperator.{IntegerOperator}
use Rattle.look_up_cache.specs.declared.operator.IntegerOperator.TheVariants.{Same, Equal, Add, Subtract, Multiply, Less, Greater, LessOrEqual, GreaterOrEqual}

-- the selector of an operator
abbrev pub operator_selector : IntegerOperator → Bytes
operator_selector Same = codes "=="
operator_selector Equal = codes "="
operator_selector Add = codes "+"
operator_selector Subtract = codes "-"
operator_selector Multiply = codes "*"
operator_selector Less = codes "<"
operator_selector Greater = codes ">"
operator_selector LessOrEqual = codes "<="
operator_selector GreaterOrEqual = codes ">="

-- the number of the primitive by which the kernel's integers answer it
abbrev pub operator_number : IntegerOperator → ℕ
operator_number Same = 1
operator_number Equal = 2
operator_number Add = 10
operator_number Subtract = 11
operator_number Multiply = 12
operator_number Less = 17
operator_number Greater = 18
operator_number LessOrEqual = 19
operator_number GreaterOrEqual = 20

-- where a look-up for an integer begins
abbrev pub integer_start : Start
integer_start = start_in SMALL_INTEGER_CLASS

-- A look-up of this operator for an integer finds the primitive of its number, and changes nothing.
abbrev pub IsAnswered : Seen → IntegerOperator → Type 0
IsAnswered seen operator = FindsPrimitive integer_start (operator_selector operator)
    (operator_number operator) seen.setting seen.world

-- Integers answer this operator by the primitive of its number: a look-up finds that, whatever the
-- budget is, and changes nothing.
abbrev pub IntegersAnswer : IntegerOperator → Seen → Type 0
IntegersAnswer operator seen = (number : ℤ)
    → AnswersBy (operator_number operator) (Int number) (operator_selector operator) seen
