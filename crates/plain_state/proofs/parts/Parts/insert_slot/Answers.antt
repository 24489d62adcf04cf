use Rattle.std.proofs.Common.{◌≡◌, ◌∙◌, sym, ap, None, arith}
use Rattle.std.specs.FinMap.{get}
use Rattle.std.proofs.lemmas.Option.{none-some}
use Rattle.gem_object.specs.Edits.{with_slot_more}
use Rattle.plain_state.specs.Classes.{slots_in}
use Rattle.plain_state.specs.Edit.{edited_by}
use Rattle.plain_state.specs.declared.edit.Edit.TheVariants.{InsertSlot}
use Rattle.plain_state.proofs.Slots.{edited_as}
use Rattle.plain_state.proofs.Places.{slot_more, slot_more_lacks, no_slot_more}
use Rattle.plain_state.proofs.SlotPuts.{unwritten, edited_absent}
use Rattle.plain_state.proofs.parts.Parts.insert_slot.Goals as goal

pub returns-in_default-clause-edited : goal.returns-in_default-clause-edited
returns-in_default-clause-edited c =
    let none : slots_in (get c.args.self.now.seen.world.changes c.args.oid) ≡ None = grind (arith, c.slots_at.ensures, c.in_default.is, c.in_default.not-Some) in
    no_slot_more c.args.self.now.seen c.args.oid c.args.at c.requires c.args.value none

pub returns-then-may_insert-clause-edited : goal.returns-then-may_insert-clause-edited
returns-then-may_insert-clause-edited c = edited_as c.args.oid (with_slot_more c.args.at c.args.value)
    (slot_more c.args.self.now.seen c.args.oid c.args.at c.requires c.in-Some.slots.0 c.in-Some.slots.1 c.args.value
    (sym c.in-Some.ensures) (sym c.may_insert.ensures ∙ c.if-may_insert.true))
    c.in_ok-change.ensures.edited

pub returns-clause-edited : goal.returns-clause-edited
returns-clause-edited c = edited_as c.args.oid (with_slot_more c.args.at c.args.value)
    (slot_more_lacks c.args.self.now.seen c.args.oid c.args.at c.requires c.in-Some.slots.0 c.in-Some.slots.1 c.args.value
    (sym c.in-Some.ensures) (sym c.may_insert.ensures ∙ c.if-may_insert.false))
    c.in_ok-miss_value.ensures.missed

pub returns-then-may_insert-clause-absent : goal.returns-then-may_insert-clause-absent
returns-then-may_insert-clause-absent c = λ absent. c.in_ok-change.ensures.edited
    ∙ edited_absent c.args.self.now.seen c.args.oid (edited_by (InsertSlot c.args.at c.args.value)) absent

pub returns-clause-absent : goal.returns-clause-absent
returns-clause-absent c = λ absent. absurd (none-some c.in-Some.slots
    (sym (ap slots_in (unwritten c.args.self.now.seen c.args.oid absent)) ∙ sym c.in-Some.ensures))
