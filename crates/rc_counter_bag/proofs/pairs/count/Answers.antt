use Rattle.std.proofs.Common.{sym, ap, ◌∙◌}
use Rattle.rc_counter_bag.proofs.Edits.{count-stands, absent}
use Rattle.rc_counter_bag.proofs.pairs.count.Goals as goal

pub returns-in-Ok : goal.returns-in-Ok
returns-in-Ok g c =
    let x = c.index-pairs-at.result in
    ap (λ p. p.1) (sym c.index-pairs-at.is) ∙ sym (count-stands g.T.Ord.cmp c.args.item.now c.args.pairs.now c.in-Ok.at x c.in-Ok.ensures.stands c.index-pairs-at.is)

pub returns-in-Err : goal.returns-in-Err
returns-in-Err g c = sym (absent g.T.Ord.cmp c.args.item.now c.args.pairs.now _ c.in-Err.ensures.fits).0
