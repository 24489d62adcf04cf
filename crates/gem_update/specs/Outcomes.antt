-- What an update makes of an object of each class, and what a merge of updates makes, or the fault
-- by which it is refused.
use Rattle.std.specs.Prelude.{ℕ, ℤ, Bool, true, false, List, Option, Result, Ok, Err, option_map}
use Rattle.std.specs.Option.{ok_or}
use Rattle.gem_object.specs.Order.{value_order}
use Rattle.gem_object.specs.declared.value.Value.{Value}
use Rattle.gem_object.specs.rc_counter_bag.Counter as counters
use Rattle.gem_object.specs.rc_counter_bag.Bag as bags
use Rattle.gem_object.specs.rc_counter_bag.declared.counter.Counter.{Counter}
use Rattle.gem_object.specs.rc_counter_bag.declared.counter.CounterRange.{CounterRange}
use Rattle.gem_object.specs.rc_counter_bag.declared.update.BagUpdate.{BagUpdate}
use Rattle.gem_object.specs.rc_counter_bag.declared.update.BagFault.{BagFault}
use Rattle.gem_object.specs.rc_counter_bag.declared.update.BagFault.TheVariants as bag_fault
use Rattle.gem_object.specs.rc_dict.Dict as dicts
use Rattle.gem_object.specs.rc_dict.declared.update.DictUpdate.{DictUpdate}
use Rattle.gem_object.specs.rc_dict.declared.update.DictFault.{DictFault}
use Rattle.gem_object.specs.rc_dict.declared.update.DictFault.TheVariants as dict_fault
use Rattle.gem_object.specs.rc_queue.Contents.{Contents}
use Rattle.gem_object.specs.rc_queue.Update as queues
use Rattle.gem_object.specs.rc_queue.declared.update.QueueUpdate.{QueueUpdate}
use Rattle.gem_object.specs.rc_queue.declared.update.QueueFault.{QueueFault}
use Rattle.gem_object.specs.rc_queue.declared.update.QueueFault.TheVariants as queue_fault

-- the answer, where the index of a refusal becomes the fault that names it
abbrev pub by_fault : {X F : Type 0} → (ℕ → F) → Result X ℕ → Result X F
by_fault fault (Ok after) = Ok after
by_fault fault (Err at) = Err (fault at)

-- the counter of this value, or the refusal where there is none
abbrev pub counter_or_range : Option ℤ → Result Counter CounterRange
counter_or_range value = ok_or (option_map (λ v. record { value = v }) value) (record {})

abbrev pub counter_updated : ℤ → Counter → Result Counter CounterRange
counter_updated by counter = counter_or_range (counters.updated by counter.value)

abbrev pub counter_merged : Counter → Counter → List ℤ → Result Counter CounterRange
counter_merged view place updates =
    counter_or_range (counters.merged view.value place.value updates)

abbrev pub bag_updated : BagUpdate Value → List (Value × ℕ) → Result (List (Value × ℕ)) BagFault
bag_updated update pairs = ok_or (bags.updated value_order update pairs) (bag_fault.Missing 0)

abbrev pub bag_merged : List (Value × ℕ) → List (Value × ℕ) → List (BagUpdate Value)
    → Result (List (Value × ℕ)) BagFault
bag_merged view place updates =
    by_fault bag_fault.Missing (bags.merged value_order view place updates)

abbrev pub dict_updated : DictUpdate Value Value → List (Value × Value)
    → Result (List (Value × Value)) DictFault
dict_updated update pairs = ok_or (dicts.updated value_order update pairs) (dict_fault.Key 0)

abbrev pub dict_merged : List (Value × Value) → List (Value × Value)
    → List (DictUpdate Value Value) → Result (List (Value × Value)) DictFault
dict_merged view place updates =
    by_fault dict_fault.Key (dicts.merged value_order value_order view place updates)

abbrev pub queue_updated : QueueUpdate Value → Contents Value
    → Result (Contents Value) QueueFault
queue_updated update queue = ok_or (queues.updated value_order update queue) (queue_fault.Remove 0)

abbrev pub queue_merged : Contents Value → Contents Value → List (QueueUpdate Value)
    → Result (Contents Value) QueueFault
queue_merged view place updates =
    by_fault queue_fault.Remove (queues.merged value_order view place updates)

-- the fault is want of memory, and not a refusal
abbrev pub is_bag_memory : BagFault → Bool
is_bag_memory bag_fault.NoMemory = true
is_bag_memory (bag_fault.Missing _) = false

abbrev pub is_dict_memory : DictFault → Bool
is_dict_memory dict_fault.NoMemory = true
is_dict_memory (dict_fault.Key _) = false

abbrev pub is_queue_memory : QueueFault → Bool
is_queue_memory queue_fault.NoMemory = true
is_queue_memory (queue_fault.Remove _) = false
