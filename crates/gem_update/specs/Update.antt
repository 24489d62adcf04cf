-- What an update leaves of a body, what a merge of updates makes of one, and which conflict it is
-- where a merge is refused.
use Rattle.std.specs.Prelude.{ℤ, Bool, true, false, not, List, [], ◌∷◌, Option, Some, None, option_map, option_and_then}
use Rattle.std.specs.Result.{result_ok}
use Rattle.gem_object.specs.gem_value.declared.conflict.ConflictKind.{ConflictKind}
use Rattle.gem_object.specs.gem_value.declared.conflict.ConflictKind.TheVariants.{CounterRange, BagRemove, DictionaryKey, QueueRemove}
use Rattle.gem_object.specs.Order.{value_order}
use Rattle.gem_object.specs.declared.value.Value.{Value}
use Rattle.gem_object.specs.declared.body.Body.{Body}
use Rattle.gem_object.specs.declared.body.Body.TheVariants as body
use Rattle.gem_object.specs.rc_counter_bag.Bag.{adds_new}
use Rattle.gem_object.specs.rc_counter_bag.declared.update.BagUpdate.{BagUpdate}
use Rattle.gem_object.specs.rc_dict.Dict.{puts_new}
use Rattle.gem_object.specs.rc_dict.declared.update.DictUpdate.{DictUpdate}
use Rattle.gem_object.specs.rc_queue.Update.{is_removal}
use Rattle.gem_object.specs.rc_queue.declared.update.QueueUpdate.{QueueUpdate}
use Rattle.gem_update.specs.Outcomes.{counter_updated, counter_merged, bag_updated, bag_merged, dict_updated, dict_merged, queue_updated, queue_merged}
use Rattle.gem_update.specs.declared.update.Update.{Update}
use Rattle.gem_update.specs.declared.update.Update.TheVariants as change

-- whether the body is of the update's class
abbrev pub fits_update : Update → Body → Bool
fits_update (change.Counter _) (body.Counter _) = true
fits_update (change.Bag _) (body.Bag _) = true
fits_update (change.RcDict _) (body.RcDict _) = true
fits_update (change.Queue _) (body.Queue _) = true
fits_update _ _ = false

-- the body after the update, or None where it is refused or the body is of another class
abbrev pub updated : Update → Body → Option Body
updated (change.Counter by) (body.Counter counter) =
    option_map body.Counter (result_ok (counter_updated by counter))
updated (change.Bag update) (body.Bag pairs) =
    option_map body.Bag (result_ok (bag_updated update pairs))
updated (change.RcDict update) (body.RcDict pairs) =
    option_map body.RcDict (result_ok (dict_updated update pairs))
updated (change.Queue update) (body.Queue queue) =
    option_map body.Queue (result_ok (queue_updated update queue))
updated _ _ = None

-- whether an update of this body may lack memory: it adds an item or puts a key that isn't there
abbrev pub needs_memory : Update → Body → Bool
needs_memory (change.Bag update) (body.Bag pairs) = adds_new value_order update pairs
needs_memory (change.RcDict update) (body.RcDict pairs) = puts_new value_order update pairs
needs_memory (change.Queue update) (body.Queue queue) = not (is_removal update)
needs_memory _ _ = false

-- the update's change of a counter, a bag, a dictionary or a queue, where it is one
abbrev pub counter_change : Update → Option ℤ
counter_change (change.Counter by) = Some by
counter_change _ = None

abbrev pub bag_change : Update → Option (BagUpdate Value)
bag_change (change.Bag update) = Some update
bag_change _ = None

abbrev pub dict_change : Update → Option (DictUpdate Value Value)
dict_change (change.RcDict update) = Some update
dict_change _ = None

abbrev pub queue_change : Update → Option (QueueUpdate Value)
queue_change (change.Queue update) = Some update
queue_change _ = None

-- the changes that the updates are, or None where one of them is of another class
abbrev pub all_changes : {C : Type 0} → (Update → Option C) → List Update → Option (List C)
all_changes change [] = Some []
all_changes change (update ∷ rest) = option_and_then
    (λ first. option_map (λ more. first ∷ more) (all_changes change rest)) (change update)

-- What a commit makes of a body: from the body at the view, where the updates were made, and the
-- one at the commit's place. None where the merge is refused, or the two bodies and the updates
-- aren't of one class.
abbrev pub merged : Body → Body → List Update → Option Body
merged (body.Counter view) (body.Counter place) updates = option_and_then
    (λ changes. option_map body.Counter (result_ok (counter_merged view place changes)))
    (all_changes counter_change updates)
merged (body.Bag view) (body.Bag place) updates = option_and_then
    (λ changes. option_map body.Bag (result_ok (bag_merged view place changes)))
    (all_changes bag_change updates)
merged (body.RcDict view) (body.RcDict place) updates = option_and_then
    (λ changes. option_map body.RcDict (result_ok (dict_merged view place changes)))
    (all_changes dict_change updates)
merged (body.Queue view) (body.Queue place) updates = option_and_then
    (λ changes. option_map body.Queue (result_ok (queue_merged view place changes)))
    (all_changes queue_change updates)
merged _ _ _ = None

-- the conflict that a refused merge of this body is; no other body is merged
abbrev pub merge_kind : Body → Option ConflictKind
merge_kind (body.Counter _) = Some CounterRange
merge_kind (body.Bag _) = Some BagRemove
merge_kind (body.RcDict _) = Some DictionaryKey
merge_kind (body.Queue _) = Some QueueRemove
merge_kind _ = None
