-- The rules of RcCounter.
use Rattle.std.specs.Prelude.{List}
use Rattle.gem_object.specs.declared.value.Value.{Value}
use Rattle.gem_object.specs.declared.value.Value.TheVariants.{Int}
use Rattle.object_programs.specs.gem_update.declared.update.Update.TheVariants as change
use Rattle.object_programs.specs.Run.{Run, and_then}
use Rattle.object_programs.specs.declared.fault.Fault.TheVariants as fault
use Rattle.prim_rules.specs.Parts.{int_in}
use Rattle.prim_rules.specs.Receivers.{counter_in, write_receiver, argument_as, updated_by, tells}
use Rattle.prim_rules.specs.declared.answer.PrimitiveAnswer.{PrimitiveAnswer}

module _ {B : Type 0} where
  -- 83 `value`
  abbrev pub row_83 : Value → List Value → Run B PrimitiveAnswer
  row_83 receiver arguments = tells counter_in Int receiver arguments

  -- 84 `incrementBy:`: E6 where the sum isn't an integer of the language; it answers the receiver
  abbrev pub row_84 : Value → List Value → Run B PrimitiveAnswer
  row_84 receiver arguments =
      and_then (write_receiver counter_in receiver) (λ counter.
      and_then (argument_as int_in arguments) (λ by.
      updated_by counter (change.Counter by) fault.IntegerRange 0 receiver))
