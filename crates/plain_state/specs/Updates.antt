-- Updates of reduced-conflict objects: which of them an object may have, and what they leave.
use Rattle.std.specs.Prelude.{ℕ, ◌+◌, Bool, true, ◌&&◌, cond, length, List, [], ◌∷◌, ◌++◌, Option, Some, None, is_some}
use Rattle.std.specs.List.{list_all}
use Rattle.std.specs.Option.{unwrap_or}
use Rattle.gem_object.specs.Order.{value_order}
use Rattle.gem_object.specs.Spelling.{is_key}
use Rattle.gem_object.specs.declared.value.Value.{Value}
use Rattle.gem_object.specs.declared.body.Body.{Body}
use Rattle.gem_object.specs.declared.body.Body.TheVariants as body
use Rattle.gem_object.specs.rc_counter_bag.Bag.{with_one_more}
use Rattle.gem_object.specs.rc_counter_bag.declared.update.BagUpdate.TheVariants as bag
use Rattle.gem_object.specs.rc_dict.Dict.{put as put_key}
use Rattle.gem_object.specs.rc_dict.declared.update.DictUpdate.TheVariants as dict
use Rattle.gem_object.specs.rc_queue.declared.update.QueueUpdate.TheVariants as queue
use Rattle.gem_update.specs.Update.{updated}
use Rattle.gem_update.specs.declared.update.Update.{Update}
use Rattle.gem_update.specs.declared.update.Update.TheVariants.{Bag, RcDict, Queue}
use Rattle.gem_image.specs.Image.{Contents}
use Rattle.gem_world.specs.Changes.{with_body, put}
use Rattle.object_programs.specs.Guard.{Parts, holds_of}
use Rattle.object_programs.specs.Atom.{updated_at}
use Rattle.running_objects.specs.Fitting.{may_enter, can_count}
use Rattle.running_objects.specs.Seen.{Seen, object_at}
use Rattle.plain_state.specs.Parts.{in_world, missed_value}

-- the values that an update brings; a removal brings none
abbrev pub new_values : Update → List Value
new_values (Bag (bag.Add item)) = item ∷ []
new_values (RcDict (dict.Put key value)) = key ∷ value ∷ []
new_values (Queue (queue.Add item)) = item ∷ []
new_values _ = []

-- whether the key that an update brings, if it does, may be one
abbrev pub has_key : Update → Bool
has_key (RcDict (dict.Put key value)) = is_key key
has_key _ = true

-- whether the pairs or items can be counted after an update that may add one
abbrev pub has_room : Update → Body → Bool
has_room (Bag (bag.Add item)) (body.Bag pairs) =
    can_count (length (with_one_more value_order item pairs))
has_room (RcDict (dict.Put key value)) (body.RcDict pairs) =
    can_count (length (put_key value_order key value pairs))
has_room (Queue (queue.Add item)) (body.Queue queue) = can_count (length queue.items + 1)
has_room _ _ = true

-- whether an object that takes the update may stand with the body that it then has
abbrev pub may_update : Parts → Update → Body → Bool
may_update parts update body = list_all (may_enter parts) (new_values update)
    && (has_key update && has_room update body)

-- after the names to which an update's new values refer were touched, where there is no object
abbrev pub missed_update : Update → Seen → Seen
missed_update (Bag (bag.Add item)) seen = missed_value item seen
missed_update (RcDict (dict.Put key value)) seen = missed_value value (missed_value key seen)
missed_update (Queue (queue.Add item)) seen = missed_value item seen
missed_update _ seen = seen

-- whether an object takes the update, and the object with it; one that doesn't take it stays
abbrev pub takes : Update → Contents → Bool
takes update object = is_some (updated update object.body)

abbrev pub with_update : Update → Contents → Contents
with_update update object = with_body (unwrap_or (updated update object.body) object.body) object

-- the object of this name has the update, if it takes it
abbrev pub applied_by : ℕ → Contents → Option Body → Seen → Seen
applied_by name old None seen = seen
applied_by name old (Some body) seen = in_world (put name (with_body body old)) seen

abbrev pub applied_at : ℕ → Update → Option Contents → Seen → Seen
applied_at name update None seen = seen
applied_at name update (Some old) seen = applied_by name old (updated update old.body) seen

abbrev pub applied : ℕ → Update → Seen → Seen
applied name update seen = applied_at name update (object_at name seen) seen

-- the update is noted
abbrev pub with_note : ℕ → Update → Seen → Seen
with_note name update seen = in_world
    (λ world. record world { updates = world.updates ++ (name, update) ∷ [] }) seen

-- the object has the update, and it is noted, if it takes it
abbrev pub applied_noted : ℕ → Update → Seen → Seen
applied_noted name update seen = cond (holds_of (takes update) (object_at name seen))
    (applied name update (with_note name update seen)) seen

-- what an allowed update leaves after its touches
abbrev pub after_allowed_update : ℕ → Update → Seen → Seen
after_allowed_update name update seen =
    in_world (updated_at name update (object_at name seen) seen.setting) seen
