use Rattle.body_growth.proofs.Changes.{unchanged, slot_not_there, slot_set}
use Rattle.body_growth.proofs.edits.slot_replaced.Goals as goal

pub returns-in_default : goal.returns-in_default
returns-in_default c = unchanged c.none.ensures (slot_not_there c.args.at c.args.body.now c.args.value.now c.in_default.ensures)

pub returns : goal.returns
returns c = slot_set c.args.at c.args.body.now c.in-Some.old.now c.args.value.now c.stored_bytes.result c.stored_bytes-2.result
    c.in-Some.ensures c.stored_bytes.ensures c.stored_bytes-2.ensures
