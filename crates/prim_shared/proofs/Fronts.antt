-- The front of a queue that is removed.
use Rattle.std.proofs.Common.{◌≡◌, subst, List, [], ◌∷◌, Some, Result}
use Rattle.std.specs.List.{slice_get}
use Rattle.gem_object.specs.rc_queue.Contents.{Contents as QueueContents}
use Rattle.gem_object.specs.rc_queue.declared.update.QueueUpdate.TheVariants.{Remove}
use Rattle.gem_object.specs.declared.value.Value.{Value}
use Rattle.gem_update.specs.declared.update.Update.TheVariants as change
use Rattle.object_programs.specs.declared.fault.Fault.TheVariants as fault
use Rattle.running_objects.specs.Seen.{Seen}
use Rattle.running_objects.specs.declared.stop.Stop.{Stop}
use Rattle.prim_rules.specs.Receivers.{Receiver, updated_by}
use Rattle.prim_rules.specs.Queues.{front_removed}
use Rattle.prim_rules.specs.declared.answer.PrimitiveAnswer.{PrimitiveAnswer}
use Rattle.prim_parts.specs.Does.{Does}

pub front_goes : (queue : Receiver (QueueContents Value)) (items : List Value) (front : Value) {before after : Seen}
    {result : Result PrimitiveAnswer Stop} → Some front ≡ slice_get items 0
    → Does (updated_by queue (change.Queue (Remove front)) fault.ArgumentKind 0 front) before result after
    → Does (front_removed queue items) before result after
front_goes queue [] front is does = absurd (cc)
front_goes queue (first ∷ rest) front {before} {after} {result} is does =
    let same : front ≡ first = cc in
    let At : Value → Type 0 = λ one.
    Does (updated_by queue (change.Queue (Remove one)) fault.ArgumentKind 0 one) before result after in
    subst At same does
