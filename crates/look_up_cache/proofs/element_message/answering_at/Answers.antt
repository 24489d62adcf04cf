use Rattle.std.proofs.Common.{sym, subst}
use Rattle.look_up_cache.specs.Memory.{IsMet}
use Rattle.look_up_cache.specs.declared.memory.Receiver.{Receiver}
use Rattle.look_up_cache.proofs.Remembering.{flagged_met}
use Rattle.look_up_cache.proofs.element_message.answering_at.Goals as goal

pub returns-then-finds_elements : goal.returns-then-finds_elements
returns-then-finds_elements g c = λ seen holds.
    subst (λ (receiver : Receiver). IsMet seen receiver) (sym c.answering.ensures)
    (flagged_met c.args.message c.in_ok-known.known.now seen (c.in_ok-known.ensures.met seen holds.receivers)
    (c.finds_elements.ensures c.if-finds_elements.true seen
    (holds.methods c.args.at c.in_ok-entry.entry.now (sym c.in_ok-entry.ensures))))
