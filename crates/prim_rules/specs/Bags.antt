-- The rules of RcIdentityBag.
use Rattle.std.specs.Prelude.{ℕ, pos, List, replicate}
use Rattle.std.specs.List.{flat_map}
use Rattle.gem_object.specs.texts.SmallInteger.{is_small_integer}
use Rattle.gem_object.specs.rc_counter_bag.Bag.{count}
use Rattle.gem_object.specs.rc_counter_bag.declared.update.BagUpdate.TheVariants.{Add, Remove}
use Rattle.gem_object.specs.Order.{value_order}
use Rattle.gem_object.specs.declared.value.Value.{Value}
use Rattle.gem_object.specs.declared.value.Value.TheVariants.{Int}
use Rattle.object_programs.specs.gem_update.declared.update.Update.TheVariants as change
use Rattle.object_programs.specs.Run.{Run, and_then}
use Rattle.object_programs.specs.Programs.{need, check}
use Rattle.object_programs.specs.declared.fault.Fault.TheVariants as fault
use Rattle.prim_rules.specs.Parts.{one_of}
use Rattle.prim_rules.specs.Receivers.{occurrences_in, read_receiver, write_receiver, check_stored, answer, updated_by, lists}
use Rattle.prim_rules.specs.declared.answer.PrimitiveAnswer.{PrimitiveAnswer}

-- the items of a bag, each as often as it occurs
abbrev pub items_of : List (Value × ℕ) → List Value
items_of occurrences = flat_map (λ pair. replicate pair.1 pair.0) occurrences

module _ {B : Type 0} where
  -- 85 `add:`, which answers the item; an add is never refused
  abbrev pub row_85 : Value → List Value → Run B PrimitiveAnswer
  row_85 receiver arguments =
      and_then (write_receiver occurrences_in receiver) (λ bag.
      and_then (need fault.ArgumentKind (one_of arguments)) (λ item.
      and_then (check_stored item) (λ fits.
      updated_by bag (change.Bag (Add item)) fault.ArgumentKind 1 item)))

  -- 86 `remove:`, which answers the item: E18 where it doesn't occur
  abbrev pub row_86 : Value → List Value → Run B PrimitiveAnswer
  row_86 receiver arguments =
      and_then (write_receiver occurrences_in receiver) (λ bag.
      and_then (need fault.ArgumentKind (one_of arguments)) (λ item.
      updated_by bag (change.Bag (Remove item)) fault.KeyAbsent 0 item))

  -- 87 `occurrencesOf:`: E6 where the number isn't an integer of the language
  abbrev pub row_87 : Value → List Value → Run B PrimitiveAnswer
  row_87 receiver arguments =
      and_then (read_receiver occurrences_in receiver) (λ bag.
      and_then (need fault.ArgumentKind (one_of arguments)) (λ item.
      let number = pos (count value_order item bag.held) in
      and_then (check fault.IntegerRange (is_small_integer number)) (λ fits.
      answer (Int number))))

  -- 88 `asArray`, ascending
  abbrev pub row_88 : Value → List Value → Run B PrimitiveAnswer
  row_88 receiver arguments = lists occurrences_in items_of receiver arguments
