use Rattle.std.proofs.Common.{◌≡◌, ◌∙◌, sym, None, arith}
use Rattle.std.specs.FinMap.{get}
use Rattle.gem_object.specs.Edits.{without_slot}
use Rattle.plain_state.specs.Classes.{slots_in}
use Rattle.plain_state.specs.Edit.{edited_by}
use Rattle.plain_state.specs.declared.edit.Edit.TheVariants.{RemoveSlot}
use Rattle.plain_state.proofs.Slots.{edited_as}
use Rattle.plain_state.proofs.Places.{slot_less, slot_less_lacks, no_slot_less, slot_past}
use Rattle.plain_state.proofs.SlotPuts.{edited_absent}
use Rattle.plain_state.proofs.parts.Parts.remove_slot.Goals as goal

pub returns-in_default-clause-edited : goal.returns-in_default-clause-edited
returns-in_default-clause-edited c =
    let none : slots_in (get c.args.self.now.seen.world.changes c.args.oid) ≡ None = grind (arith, c.slots_at.ensures, c.in_default.is, c.in_default.not-Some) in
    no_slot_less c.args.self.now.seen c.args.oid c.args.at c.requires none

pub returns-then-at-slots-clause-edited : goal.returns-then-at-slots-clause-edited
returns-then-at-slots-clause-edited c = slot_past c.args.self.now.seen c.args.oid c.args.at c.requires
    c.in-Some.slots.0 c.in-Some.slots.1 (sym c.in-Some.ensures) c.if-at-slots.true

pub returns-then-not-accepts_slots-clause-edited : goal.returns-then-not-accepts_slots-clause-edited
returns-then-not-accepts_slots-clause-edited c = slot_less_lacks c.args.self.now.seen c.args.oid c.args.at
    c.requires c.in-Some.slots.0 c.in-Some.slots.1 (sym c.in-Some.ensures) (omega (arith, c.if-at-slots.false))
    (sym c.accepts_slots.ensures ∙ c.if-not-accepts_slots.true)

pub returns-clause-edited : goal.returns-clause-edited
returns-clause-edited c = edited_as c.args.oid (without_slot c.args.at)
    (slot_less c.args.self.now.seen c.args.oid c.args.at c.requires c.in-Some.slots.0 c.in-Some.slots.1
    (sym c.in-Some.ensures) (omega (arith, c.if-at-slots.false)) (sym c.accepts_slots.ensures ∙ c.if-not-accepts_slots.false))
    c.in_ok-change.ensures.edited

pub returns-clause-absent : goal.returns-clause-absent
returns-clause-absent c = λ absent. c.in_ok-change.ensures.edited
    ∙ edited_absent c.args.self.now.seen c.args.oid (edited_by (RemoveSlot c.args.at)) absent
