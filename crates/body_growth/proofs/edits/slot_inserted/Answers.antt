use Rattle.body_growth.proofs.Changes.{unchanged, slot_not_added, slot_added}
use Rattle.body_growth.proofs.edits.slot_inserted.Goals as goal

pub returns-in-Plain : goal.returns-in-Plain
returns-in-Plain c = slot_added c.args.at c.args.body.now c.in-Plain.field-0 c.in-Plain.is c.args.value.now c.stored_bytes.result
    c.stored_bytes.ensures

pub returns-in_default : goal.returns-in_default
returns-in_default c = unchanged c.none.ensures (slot_not_added c.args.at c.args.body.now c.args.value.now c.in_default.not-Plain)
