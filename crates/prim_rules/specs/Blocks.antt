-- The rules of the primitives 28 to 32, for blocks.
use Rattle.std.specs.Prelude.{ℕ, pos, nat_eq, length, List}
use Rattle.gem_object.specs.declared.value.Value.{Value}
use Rattle.gem_object.specs.declared.value.Value.TheVariants.{Int}
use Rattle.object_programs.specs.Run.{Run, give, and_then}
use Rattle.object_programs.specs.Programs.{need, check}
use Rattle.object_programs.specs.declared.fault.Fault.TheVariants as fault
use Rattle.prim_rules.specs.declared.answer.PrimitiveAnswer.{PrimitiveAnswer}
use Rattle.prim_rules.specs.declared.answer.PrimitiveAnswer.TheVariants.{Evaluates}
use Rattle.prim_rules.specs.Parts.{block_in, no_arguments, answers}

module _ {B : Type 0} where
  -- `value` and its like, with so many arguments: the block is to be evaluated with them; E9 where
  -- it has another number of parameters
  abbrev pub value_row : (count : ℕ) → Value → List Value → Run B PrimitiveAnswer
  value_row count receiver arguments =
      and_then (need fault.ArgumentKind (block_in receiver)) (λ block.
      and_then (check fault.ArgumentKind (nat_eq (length arguments) count)) (λ counted.
      and_then (check fault.BlockArgumentCount (nat_eq block.params count)) (λ fits.
      give (Evaluates block arguments))))

  abbrev pub row_28 : Value → List Value → Run B PrimitiveAnswer
  row_28 = value_row 0

  abbrev pub row_29 : Value → List Value → Run B PrimitiveAnswer
  row_29 = value_row 1

  abbrev pub row_30 : Value → List Value → Run B PrimitiveAnswer
  row_30 = value_row 2

  abbrev pub row_31 : Value → List Value → Run B PrimitiveAnswer
  row_31 = value_row 3

  -- `numArgs`
  abbrev pub row_32 : Value → List Value → Run B PrimitiveAnswer
  row_32 receiver arguments =
      and_then (need fault.ArgumentKind (block_in receiver)) (λ block.
      and_then (no_arguments arguments) (λ none.
      answers (give (Int (pos block.params)))))
