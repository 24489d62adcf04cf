-- What a look-up for an integer tells of an operator.
use Rattle.std.proofs.Common.{◌≡◌, ◌∙◌, refl, sym, ap, ℕ, ℤ, List, Option, Some, None, IfSome, option_map}
use Rattle.std.proofs.lemmas.Option.{same_Some}
use Rattle.gem_object.specs.texts.Bytes.{Bytes as Text}
use Rattle.gem_object.specs.declared.value.Value.{Value}
use Rattle.gem_object.specs.declared.value.Value.TheVariants as value
use Rattle.gem_object.specs.declared.body.MethodCode.TheVariants.{Primitive}
use Rattle.running_objects.specs.Seen.{Seen}
use Rattle.gem_language.specs.declared.found.Found.{Found}
use Rattle.look_up_cache.specs.Calm.{plain_start}
use Rattle.look_up_cache.specs.Table.{held_at, AllHeld}
use Rattle.look_up_cache.specs.Operators.{operator_selector, operator_number, integer_start, IsAnswered, IntegersAnswer}
use Rattle.look_up_cache.specs.Memory.{start_at, IsFound}
use Rattle.look_up_cache.specs.declared.operator.IntegerOperator.{IntegerOperator}
use Rattle.look_up_cache.specs.declared.memory.Beginning.{Beginning}
use Rattle.look_up_cache.specs.declared.memory.Entry.{Entry}
use Rattle.look_up_cache.proofs.Answering.{primitive_in, primitive_answers}

pub begun_for_integer : (number : ℤ) (receiver : Value) (found : Option Beginning) → receiver ≡ value.Int number
    → option_map start_at found ≡ plain_start receiver → IfSome found (λ start. start_at start ≡ integer_start)
begun_for_integer number receiver None is begun = tt
begun_for_integer number receiver (Some start) is begun =
    same_Some (start_at start) integer_start (begun ∙ ap plain_start is)

-- by the number that the operator tells
pub found_number : {T : Type 0} (operator : IntegerOperator) (entry : Entry T) (number : ℕ)
    → number ≡ operator_number operator
    → option_map (λ (f : Found). f.code) entry.found ≡ Some (Primitive number)
    → option_map (λ (f : Found). f.code) entry.found ≡ Some (Primitive (operator_number operator))
found_number {T} operator entry number is found = found ∙ ap (λ (n : ℕ). Some (Primitive n)) is

module _ (operator : IntegerOperator) (seen : Seen) where
  -- where it stands at a place
  pub answered_at : {T : Type 0} (methods : List (Option (Entry T))) (at : ℕ) (entry : Entry T) (start : Beginning)
      (selector : Text) → held_at methods at ≡ Some entry → start_at start ≡ integer_start
      → start_at entry.start ≡ start_at start → operator_selector operator ≡ selector → entry.selector ≡ selector
      → option_map (λ (f : Found). f.code) entry.found ≡ Some (Primitive (operator_number operator))
      → AllHeld (IsFound seen) methods → IsAnswered seen operator
  answered_at {T} methods at entry start selector here begins same is alike code all =
      primitive_in integer_start (operator_selector operator) (operator_number operator) seen entry (same ∙ begins)
      (alike ∙ sym is) code (all at entry here)

  -- what is remembered of an operator is what a look-up finds now, and nothing changes
  pub integers_answer : IsAnswered seen operator → IntegersAnswer operator seen
  integers_answer answered number = primitive_answers integer_start (operator_selector operator)
      (operator_number operator) seen (value.Int number) refl answered
