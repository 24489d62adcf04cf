use Rattle.std.proofs.Common.{◌≡◌, ℕ, Ok, Err}
use Rattle.std.specs.Result.{IfOk, IsErrOf}
use Rattle.gem_object.specs.rc_counter_bag.Bag.{merged}
use Rattle.gem_object.specs.rc_counter_bag.declared.update.BagFault.TheVariants.{Missing}
use Rattle.gem_object.specs.Order.{value_order}
use Rattle.gem_update.proofs.Order.{in_order}
use Rattle.gem_update.proofs.Answered.{bag_names, merged_says}
use Rattle.gem_update.proofs.merging.BagValueMerging.merge.Goals as goal

pub returns : goal.returns
returns c =
    let view = c.args.at_view.now in
    let place = c.args.at_place.now in
    let updates = c.args.updates.now in
    merged_says bag_names c.merge.result (merged value_order view place updates)
    (in_order (λ cmp. IfOk c.merge.result (λ bag. merged cmp view place updates ≡ Ok bag)) c.merge.ensures.ok)
    (in_order (λ cmp. (at : ℕ) → IsErrOf c.merge.result (Missing at) → merged cmp view place updates ≡ Err at) c.merge.ensures.missing)
