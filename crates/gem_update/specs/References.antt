-- What an update refers to.
use Rattle.std.specs.Prelude.{ℕ, List, [], ◌∷◌}
use Rattle.gem_object.specs.rc_counter_bag.declared.update.BagUpdate.TheVariants as bag
use Rattle.gem_object.specs.rc_dict.declared.update.DictUpdate.TheVariants as dict
use Rattle.gem_object.specs.rc_queue.declared.update.QueueUpdate.TheVariants as queue
use Rattle.gem_object.specs.References.{names_in}
use Rattle.gem_object.specs.declared.value.Value.{Value}
use Rattle.gem_update.specs.declared.update.Update.{Update}
use Rattle.gem_update.specs.declared.update.Update.TheVariants.{Counter, Bag, RcDict, Queue}

-- the values in an update, in their order: of a put the key before the value
abbrev pub values_in_update : Update → List Value
values_in_update (Counter _) = []
values_in_update (Bag (bag.Add item)) = item ∷ []
values_in_update (Bag (bag.Remove item)) = item ∷ []
values_in_update (RcDict (dict.Put key value)) = key ∷ value ∷ []
values_in_update (RcDict (dict.Remove key)) = key ∷ []
values_in_update (Queue (queue.Add item)) = item ∷ []
values_in_update (Queue (queue.Remove item)) = item ∷ []

-- the names that an update refers to, in the order in which its values stand
abbrev pub names_in_update : Update → List ℕ
names_in_update update = names_in (values_in_update update)
