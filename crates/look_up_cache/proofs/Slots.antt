-- How a name is read and written whose slot is known.
use Rattle.std.proofs.Common.{◌≡◌, refl, sym, ℕ, Bool, true, not, nat_lt, Some, Ok}
use Rattle.gem_object.specs.texts.Bytes.{Bytes as Text}
use Rattle.gem_object.specs.Edits.{plain_slots, slot_at, with_slot}
use Rattle.gem_object.specs.References.{reference_of}
use Rattle.gem_object.specs.declared.value.Value.{Value}
use Rattle.running_objects.specs.gem_image.Image.{Contents}
use Rattle.running_objects.specs.gem_world.Access.{a_read, a_write}
use Rattle.running_objects.specs.object_programs.Budget.{Budget}
use Rattle.running_objects.specs.object_programs.Run.{give, and_then}
use Rattle.running_objects.specs.object_programs.Programs.{replace_body}
use Rattle.running_objects.specs.object_programs.declared.fault.Fault.TheVariants as fault
use Rattle.running_objects.specs.Acted.{Reached, with_answer}
use Rattle.running_objects.specs.Seen.{Seen, object_at}
use Rattle.gem_language.specs.tree_meaning.Place.{Frame}
use Rattle.gem_language.specs.prim_rules.Parts.{is_block}
use Rattle.gem_language.specs.OutOfScope.{put_in_slot, read_out_of_scope}
use Rattle.prim_parts.specs.Does.{Does}
use Rattle.prim_parts.proofs.Does.{does_then, does_reached}
use Rattle.st_outside.proofs.Slots.{SlotTold, on_instance_side, read_then, write_then}
use Rattle.look_up_cache.specs.Variables.{bare_frame, HasVariable, SlotIsLeft}
use Rattle.look_up_cache.specs.Memory.{with_budget}
use Rattle.look_up_cache.specs.Elements.{AlwaysGives}
use Rattle.look_up_cache.proofs.Names.{stands_does}
use Rattle.look_up_cache.proofs.Sequences.{needs_does, checks_does, value_ends}

module _ (name : Text) (receiver : Value) (holder : ℕ) (class_side : Bool) (slot : ℕ) (seen : Seen)
    (has : HasVariable name holder class_side slot seen) where
  abbrev frame : Frame
  frame = bare_frame receiver holder class_side

  told : (budget : Budget) → SlotTold name frame (with_budget budget seen) (Ok (Some slot)) (with_budget budget seen)
  told budget = on_instance_side name frame holder refl has.side (Some slot)
      (stands_does holder name (Some slot) (with_budget budget seen) has.stands)

  told_now : SlotTold name frame seen (Ok (Some slot)) seen
  told_now = on_instance_side name frame holder refl has.side (Some slot)
      (stands_does holder name (Some slot) seen has.stands)

  module _ (oid : ℕ) (object : Contents) (refers : reference_of receiver ≡ Some oid)
      (there : Some object ≡ object_at oid seen) where
    pub variable_given : (value : Value)
        → ((budget : Budget) → Reached a_read oid (with_budget budget seen) (with_budget budget seen))
        → slot_at slot object.body ≡ Some value
        → AlwaysGives (read_out_of_scope name (bare_frame receiver holder class_side)) value seen
    variable_given value reached held budget =
        let now : Seen = with_budget budget seen in
        read_then name frame (Some slot) (told budget)
        (does_then (needs_does fault.ArgumentKind (reference_of receiver) oid now refers)
        (does_reached (reached budget) there (needs_does fault.Index (slot_at slot object.body) value now held)))

    pub slot_left : (value : Value) → Reached a_write oid seen seen → not (is_block value) ≡ true
        → nat_lt slot (plain_slots object.body) ≡ true
        → SlotIsLeft name (bare_frame receiver holder class_side) value (record { name = oid; at = slot }) seen
    slot_left value reached storable within ended later replaced =
        let last : Does (and_then (replace_body 0 oid object (with_slot slot value object.body)) (λ replaced. give value)) seen
        (with_answer value ended) later =
        value_ends (replace_body 0 oid object (with_slot slot value object.body)) value ended (replaced object (sym there)) in
        let put : Does (put_in_slot oid object slot value) seen (with_answer value ended) later =
        does_then (checks_does fault.BlockStored (not (is_block value)) seen storable)
        (does_then (checks_does fault.Index (nat_lt slot (plain_slots object.body)) seen within) last) in
        write_then name frame (Some slot) value told_now
        (does_then (needs_does fault.ArgumentKind (reference_of receiver) oid seen refers)
        (does_reached reached there put))
