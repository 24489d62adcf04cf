use Rattle.std.proofs.Common.{sym, subst}
use Rattle.look_up_cache.specs.Memory.{IsMet}
use Rattle.look_up_cache.specs.declared.memory.Beginning.{Beginning}
use Rattle.look_up_cache.specs.declared.memory.Receiver.{Receiver}
use Rattle.look_up_cache.proofs.Again.{all_added}
use Rattle.look_up_cache.proofs.finding.put_receiver.Goals as goal

pub returns : goal.returns
returns c = λ seen known all.
    let given : Receiver = c.args.receiver.now in
    all_added (IsMet seen) c.args.receivers.now.items c.put_at.new.places.items (record given { start = c.copy.result })
    c.put_at.ensures.held (subst (λ (start : Beginning). IsMet seen (record given { start = start })) (sym c.copy.ensures)
    known) all
