-- The rules of RcQueue.
use Rattle.std.specs.Prelude.{List, [], ◌∷◌}
use Rattle.gem_object.specs.rc_queue.Contents.{Contents as QueueContents}
use Rattle.gem_object.specs.rc_queue.declared.update.QueueUpdate.TheVariants.{Add, Remove}
use Rattle.gem_object.specs.declared.value.Value.{Value}
use Rattle.gem_object.specs.declared.value.Value.TheVariants.{Nil}
use Rattle.object_programs.specs.gem_update.declared.update.Update.TheVariants as change
use Rattle.object_programs.specs.Run.{Run, and_then}
use Rattle.object_programs.specs.Programs.{need}
use Rattle.object_programs.specs.declared.fault.Fault.TheVariants as fault
use Rattle.prim_rules.specs.Parts.{one_of, no_arguments}
use Rattle.prim_rules.specs.Receivers.{queue_in, Receiver, write_receiver, check_stored, answer, updated_by, lists}
use Rattle.prim_rules.specs.declared.answer.PrimitiveAnswer.{PrimitiveAnswer}

module _ {B : Type 0} where
  -- 94 `add:`, which answers the item; an add is never refused
  abbrev pub row_94 : Value → List Value → Run B PrimitiveAnswer
  row_94 receiver arguments =
      and_then (write_receiver queue_in receiver) (λ queue.
      and_then (need fault.ArgumentKind (one_of arguments)) (λ item.
      and_then (check_stored item) (λ fits.
      updated_by queue (change.Queue (Add item)) fault.ArgumentKind 1 item)))

  -- the front of these items is removed from the queue and answered; where there are none the
  -- answer is nil, and there is no update
  abbrev pub front_removed : Receiver (QueueContents Value) → List Value → Run B PrimitiveAnswer
  front_removed queue [] = answer Nil
  front_removed queue (front ∷ rest) =
      updated_by queue (change.Queue (Remove front)) fault.ArgumentKind 0 front

  -- 95 `remove`
  abbrev pub row_95 : Value → List Value → Run B PrimitiveAnswer
  row_95 receiver arguments =
      and_then (write_receiver queue_in receiver) (λ queue.
      and_then (no_arguments arguments) (λ none.
      front_removed queue queue.held.items))

  -- 96 `asArray`, from the front on
  abbrev pub row_96 : Value → List Value → Run B PrimitiveAnswer
  row_96 receiver arguments = lists queue_in (λ queue. queue.items) receiver arguments
