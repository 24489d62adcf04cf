use Rattle.body_growth.proofs.Changes.{unchanged, slot_not_gone, slot_gone}
use Rattle.body_growth.proofs.edits.slot_removed.Goals as goal

pub returns-in_default : goal.returns-in_default
returns-in_default c = unchanged c.none.ensures (slot_not_gone c.args.at c.args.body.now c.in_default.ensures)

pub returns : goal.returns
returns c = slot_gone c.args.at c.args.body.now c.in-Some.old.now c.stored_bytes.result c.in-Some.ensures c.stored_bytes.ensures
