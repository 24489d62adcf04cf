use Rattle.std.proofs.Common.{sym, ◌∙◌}
use Rattle.rc_counter_bag.proofs.Edits.{with_one_more-stands, with_one_more-fits, absent}
use Rattle.sorted_pairs.proofs.Cases.{on_error}
use Rattle.rc_counter_bag.proofs.Kept.{IsBag-with_one_more}
use Rattle.rc_counter_bag.proofs.pairs.add.Goals as goal

pub returns-in-Ok-clause-added : goal.returns-in-Ok-clause-added
returns-in-Ok-clause-added g c =
    let stands = rw c.deref.ensures.value at c.in-Ok.ensures.stands in
    let x = c.index_mut-pair.result.now in
    rw c.saturating_add-pair.ensures (sym (with_one_more-stands g.T.Ord.cmp c.args.item c.args.pairs.now.items c.in-Ok.at x stands c.index_mut-pair.ensures.value))

pub returns-in-Ok-clause-bag : goal.returns-in-Ok-clause-bag
returns-in-Ok-clause-bag g c =
    let stands = rw c.deref.ensures.value at c.in-Ok.ensures.stands in
    let x = c.index_mut-pair.result.now in
    rw (c.saturating_add-pair.ensures, ← with_one_more-stands g.T.Ord.cmp c.args.item c.args.pairs.now.items c.in-Ok.at x stands c.index_mut-pair.ensures.value)
    (IsBag-with_one_more g.T.Ord.cmp g.met.T.Ord.total c.args.item c.args.pairs.now.items c.requires)

pub returns-in_ok-insert-in-Err-clause-added : goal.returns-in_ok-insert-in-Err-clause-added
returns-in_ok-insert-in-Err-clause-added g c =
    c.in_ok-insert-in-Err.ensures.items ∙ sym (with_one_more-fits g.T.Ord.cmp c.args.item c.args.pairs.now.items c.in-Err.at (rw c.deref.ensures.value at c.in-Err.ensures.fits))

pub returns-in_ok-insert-in-Err-clause-bag : goal.returns-in_ok-insert-in-Err-clause-bag
returns-in_ok-insert-in-Err-clause-bag g c =
    rw (c.in_ok-insert-in-Err.ensures.items, ← with_one_more-fits g.T.Ord.cmp c.args.item c.args.pairs.now.items c.in-Err.at (rw c.deref.ensures.value at c.in-Err.ensures.fits))
    (IsBag-with_one_more g.T.Ord.cmp g.met.T.Ord.total c.args.item c.args.pairs.now.items c.requires)

pub returns-in_err-insert-in-Err-clause-memory : goal.returns-in_err-insert-in-Err-clause-memory
returns-in_err-insert-in-Err-clause-memory g c =
    on_error c.from_residual.result _ (absent g.T.Ord.cmp c.args.item c.args.pairs.now.items c.in-Err.at (rw c.deref.ensures.value at c.in-Err.ensures.fits)).0

pub returns-in_err-insert-in-Err-clause-bag : goal.returns-in_err-insert-in-Err-clause-bag
returns-in_err-insert-in-Err-clause-bag g c = rw c.in_err-insert-in-Err.ensures.items c.requires
