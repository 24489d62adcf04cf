use Rattle.std.proofs.Common.{◌∙◌, sym, nat_lt}
use Rattle.std.proofs.lemmas.Result.{err_from_is_err_and}
use Rattle.gem_object.specs.Edits.{plain_slots, with_slot}
use Rattle.plain_state.specs.Edit.{with_slot_put}
use Rattle.plain_state.proofs.Slots.{slot_lacks, no_slot, edited_nothing, edited_as}
use Rattle.plain_state.proofs.SlotPuts.{slot_put, edited_absent, untold}
use Rattle.plain_state.proofs.parts.Parts.set_slot.Goals as goal

pub returns-then-may_enter-clause-edited : goal.returns-then-may_enter-clause-edited
returns-then-may_enter-clause-edited c = edited_as c.args.oid (with_slot c.args.at c.args.value)
    (slot_put c.args.self.now.seen c.args.oid c.args.at c.args.value c.requires
    (sym c.may_enter.ensures ∙ c.if-may_enter.true)) c.put_slot.ensures

pub returns-then-may_enter-clause-absent : goal.returns-then-may_enter-clause-absent
returns-then-may_enter-clause-absent c = λ absent. c.put_slot.ensures
    ∙ edited_absent c.args.self.now.seen c.args.oid (with_slot_put c.args.at c.args.value) absent

pub returns-then-not-has_slot-clause-edited : goal.returns-then-not-has_slot-clause-edited
returns-then-not-has_slot-clause-edited c = no_slot c.args.self.now.seen c.args.oid c.args.at c.args.value c.requires
    (sym c.has_slot.ensures ∙ c.if-not-has_slot.true)

pub returns-in_err-miss_value-clause-edited : goal.returns-in_err-miss_value-clause-edited
returns-in_err-miss_value-clause-edited c =
    let p = err_from_is_err_and c.from_residual.result c.from_residual.ensures.1 in
    rw (p.1, p.2) (edited_nothing c.args.oid (with_slot c.args.at c.args.value) c.in_err-miss_value.ensures.unchanged)

pub returns-clause-edited : goal.returns-clause-edited
returns-clause-edited c = edited_as c.args.oid (with_slot c.args.at c.args.value)
    (slot_lacks c.args.self.now.seen c.args.oid c.args.at c.args.value c.requires
    (sym c.has_slot.ensures ∙ c.if-not-has_slot.false) (sym c.may_enter.ensures ∙ c.if-may_enter.false))
    c.in_ok-miss_value.ensures.missed

pub returns-clause-absent : goal.returns-clause-absent
returns-clause-absent c = λ absent. absurd (untold c.args.self.now.seen c.args.oid
    (λ object. nat_lt c.args.at (plain_slots object.body)) (sym c.has_slot.ensures ∙ c.if-not-has_slot.false) absent)
