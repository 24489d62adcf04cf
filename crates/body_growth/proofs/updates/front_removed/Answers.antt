use Rattle.std.proofs.Common.{◌∙◌, sym, ap, is_eq}
use Rattle.body_growth.proofs.Told.{front_gone}
use Rattle.body_growth.proofs.updates.front_removed.Goals as goal

pub returns-in-Some : goal.returns-in-Some
returns-in-Some c =
    front_gone c.args.item.now c.args.queue.now.removed c.args.queue.now.items c.in-Some.front.now c.stored_bytes.result
    c.in-Some.ensures (ap is_eq (sym c.cmp.ensures) ∙ sym c.is_eq.ensures ∙ c.if-is_eq.true) c.stored_bytes.ensures
