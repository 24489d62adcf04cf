-- Edits of one place leave the bodies of classes, segments and users as they are.
use Rattle.std.proofs.Common.{◌≡◌, refl, ℕ}
use Rattle.gem_object.specs.Edits.{with_slot, with_slot_more, without_slot, with_byte, with_value_at, without_value_at}
use Rattle.gem_object.specs.declared.value.Value.{Value}
use Rattle.gem_object.specs.declared.body.Body.{Body}
use Rattle.gem_object.specs.declared.body.Body.TheVariants.{Plain, Bytes, Dict, Class, Segment, User, Counter, Bag, RcDict, Queue}
use Rattle.look_up_cache.specs.Lasting.{lasting_body}

pub with_slot_lasts : (at : ℕ) (value : Value) (body : Body) → lasting_body (with_slot at value body) ≡ lasting_body body
with_slot_lasts at value (Plain values) = refl
with_slot_lasts at value (Bytes bytes) = refl
with_slot_lasts at value (Dict pairs) = refl
with_slot_lasts at value (Class class) = refl
with_slot_lasts at value (Segment rights) = refl
with_slot_lasts at value (User user) = refl
with_slot_lasts at value (Counter counter) = refl
with_slot_lasts at value (Bag pairs) = refl
with_slot_lasts at value (RcDict pairs) = refl
with_slot_lasts at value (Queue queue) = refl

pub with_slot_more_lasts : (at : ℕ) (value : Value) (body : Body) → lasting_body (with_slot_more at value body) ≡ lasting_body body
with_slot_more_lasts at value (Plain values) = refl
with_slot_more_lasts at value (Bytes bytes) = refl
with_slot_more_lasts at value (Dict pairs) = refl
with_slot_more_lasts at value (Class class) = refl
with_slot_more_lasts at value (Segment rights) = refl
with_slot_more_lasts at value (User user) = refl
with_slot_more_lasts at value (Counter counter) = refl
with_slot_more_lasts at value (Bag pairs) = refl
with_slot_more_lasts at value (RcDict pairs) = refl
with_slot_more_lasts at value (Queue queue) = refl

pub without_slot_lasts : (at : ℕ) (body : Body) → lasting_body (without_slot at body) ≡ lasting_body body
without_slot_lasts at (Plain values) = refl
without_slot_lasts at (Bytes bytes) = refl
without_slot_lasts at (Dict pairs) = refl
without_slot_lasts at (Class class) = refl
without_slot_lasts at (Segment rights) = refl
without_slot_lasts at (User user) = refl
without_slot_lasts at (Counter counter) = refl
without_slot_lasts at (Bag pairs) = refl
without_slot_lasts at (RcDict pairs) = refl
without_slot_lasts at (Queue queue) = refl

pub with_byte_lasts : (at byte : ℕ) (body : Body) → lasting_body (with_byte at byte body) ≡ lasting_body body
with_byte_lasts at byte (Plain values) = refl
with_byte_lasts at byte (Bytes bytes) = refl
with_byte_lasts at byte (Dict pairs) = refl
with_byte_lasts at byte (Class class) = refl
with_byte_lasts at byte (Segment rights) = refl
with_byte_lasts at byte (User user) = refl
with_byte_lasts at byte (Counter counter) = refl
with_byte_lasts at byte (Bag pairs) = refl
with_byte_lasts at byte (RcDict pairs) = refl
with_byte_lasts at byte (Queue queue) = refl

pub with_value_at_lasts : (key value : Value) (body : Body) → lasting_body (with_value_at key value body) ≡ lasting_body body
with_value_at_lasts key value (Plain values) = refl
with_value_at_lasts key value (Bytes bytes) = refl
with_value_at_lasts key value (Dict pairs) = refl
with_value_at_lasts key value (Class class) = refl
with_value_at_lasts key value (Segment rights) = refl
with_value_at_lasts key value (User user) = refl
with_value_at_lasts key value (Counter counter) = refl
with_value_at_lasts key value (Bag pairs) = refl
with_value_at_lasts key value (RcDict pairs) = refl
with_value_at_lasts key value (Queue queue) = refl

pub without_value_at_lasts : (key : Value) (body : Body) → lasting_body (without_value_at key body) ≡ lasting_body body
without_value_at_lasts key (Plain values) = refl
without_value_at_lasts key (Bytes bytes) = refl
without_value_at_lasts key (Dict pairs) = refl
without_value_at_lasts key (Class class) = refl
without_value_at_lasts key (Segment rights) = refl
without_value_at_lasts key (User user) = refl
without_value_at_lasts key (Counter counter) = refl
without_value_at_lasts key (Bag pairs) = refl
without_value_at_lasts key (RcDict pairs) = refl
without_value_at_lasts key (Queue queue) = refl
