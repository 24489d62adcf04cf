use Rattle.std.proofs.Common.{◌≡◌, ℕ, Ok, Err}
use Rattle.std.specs.Result.{IfOk, IsErrOf}
use Rattle.gem_object.specs.rc_queue.Update.{merged}
use Rattle.gem_object.specs.rc_queue.declared.update.QueueFault.TheVariants.{Remove}
use Rattle.gem_object.specs.Order.{value_order}
use Rattle.gem_update.proofs.Order.{in_order}
use Rattle.gem_update.proofs.Answered.{queue_names, merged_says}
use Rattle.gem_update.proofs.merging.QueueValueMerging.merge.Goals as goal

pub returns : goal.returns
returns c =
    let view = c.args.at_view.now in
    let place = c.args.at_place.now in
    let updates = c.args.updates.now in
    merged_says queue_names c.merge.result (merged value_order view place updates)
    (in_order (λ cmp. IfOk c.merge.result (λ queue. merged cmp view place updates ≡ Ok queue)) c.merge.ensures.ok)
    (in_order (λ cmp. (at : ℕ) → IsErrOf c.merge.result (Remove at) → merged cmp view place updates ≡ Err at) c.merge.ensures.refused)
