use Rattle.std.proofs.Common.{[], ◌∷◌, ap, sym, ◌∙◌}
use Rattle.store_tests.proofs.Twice.{two_bodies}
use Rattle.store_tests.proofs.again.chain_of.Goals as goal

pub returns : goal.returns
returns c =
    let mode = c.args.mode in
    let one = c.args.one.now in
    let two = c.args.two.now in
    two_bodies mode one two c.in_ok-first.first.items c.add_body.new.chain.items c.add_body-2.new.chain.items c.deref-2.result.now
    c.in_ok-first.ensures (c.in_ok-add_body.ensures.first c.new-chain.ensures.items ∙ c.deref.ensures.value)
    (λ are is. c.in_ok-add_body-2.ensures.further ((mode, one) ∷ []) mode two are is)
    (c.deref-2.ensures.value ∙ c.in_ok-second.ensures)
