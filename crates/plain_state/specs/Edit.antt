-- Edits of one object, and what each makes of it.
use Rattle.std.specs.Prelude.{ℕ, Bool, ◌&&◌, nat_lt}
use Rattle.gem_object.specs.Edits.{plain_slots, with_slot, with_slot_more, without_slot, with_byte, with_value_at, without_value_at}
use Rattle.gem_image.specs.Image.{Contents}
use Rattle.gem_world.specs.Changes.{with_body, in_segment}
use Rattle.gem_object.specs.declared.value.Value.{Value}
use Rattle.object_programs.specs.Budget.{is_small}
use Rattle.plain_state.specs.declared.edit.Edit.{Edit}
use Rattle.plain_state.specs.declared.edit.Edit.TheVariants.{InsertSlot, RemoveSlot, SetByte, PutAt, RemoveAt, PutBody, MoveTo}

-- the object with this value in that slot
abbrev pub with_slot_put : ℕ → Value → Contents → Contents
with_slot_put at value object = with_body (with_slot at value object.body) object

-- whether the object has that slot, and is within the limits of objects with the value in it
abbrev pub takes_value : ℕ → Value → Contents → Bool
takes_value at value object =
    nat_lt at (plain_slots object.body) && is_small (with_slot at value object.body)

-- the object after the edit
abbrev pub edited_by : Edit → Contents → Contents
edited_by (InsertSlot at value) object = with_body (with_slot_more at value object.body) object
edited_by (RemoveSlot at) object = with_body (without_slot at object.body) object
edited_by (SetByte at byte) object = with_body (with_byte at byte object.body) object
edited_by (PutAt key value) object = with_body (with_value_at key value object.body) object
edited_by (RemoveAt key) object = with_body (without_value_at key object.body) object
edited_by (PutBody body) object = with_body body object
edited_by (MoveTo segment) object = in_segment segment object
