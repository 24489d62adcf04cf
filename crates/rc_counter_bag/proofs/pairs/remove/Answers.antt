use Rattle.rc_counter_bag.proofs.Edits.{with_one_less-last, with_one_less-written, absent}
use Rattle.rc_counter_bag.proofs.Kept.{IsBag-with_one_less}
use Rattle.rc_counter_bag.proofs.pairs.remove.Goals as goal

pub returns-in_default-clause-missing : goal.returns-in_default-clause-missing
returns-in_default-clause-missing g c _ =
    (absent g.T.Ord.cmp c.args.item.now c.args.pairs.now.items c.in_default.field-0 (rw c.deref.ensures.value at c.in_default.ensures.fits)).1

pub returns-then-last-clause-removed : goal.returns-then-last-clause-removed
returns-then-last-clause-removed g c _ =
    rw c.remove.ensures.items
    (with_one_less-last g.T.Ord.cmp c.args.item.now c.args.pairs.now.items c.in-Ok.at c.index.result.now (rw c.deref.ensures.value at c.in-Ok.ensures.stands) c.index.ensures c.if-last.true)

pub returns-then-last-clause-bag : goal.returns-then-last-clause-bag
returns-then-last-clause-bag g c =
    let gone = with_one_less-last g.T.Ord.cmp c.args.item.now c.args.pairs.now.items c.in-Ok.at c.index.result.now (rw c.deref.ensures.value at c.in-Ok.ensures.stands) c.index.ensures c.if-last.true in
    rw c.remove.ensures.items (IsBag-with_one_less g.T.Ord.cmp c.args.item.now c.args.pairs.now.items _ c.requires gone)

pub returns-else-last-clause-removed : goal.returns-else-last-clause-removed
returns-else-last-clause-removed g c _ =
    let found = rw c.deref.ensures.value at c.in-Ok.ensures in
    rw c.one_less-pair.ensures
    (with_one_less-written g.T.Ord.cmp c.args.item.now c.args.pairs.now.items c.in-Ok.at c.index.result.now c.index_mut-pair.result.now found.stands found.in_range c.index.ensures c.index_mut-pair.ensures.value c.if-last.false)

pub returns-else-last-clause-bag : goal.returns-else-last-clause-bag
returns-else-last-clause-bag g c =
    let found = rw c.deref.ensures.value at c.in-Ok.ensures in
    let less = with_one_less-written g.T.Ord.cmp c.args.item.now c.args.pairs.now.items c.in-Ok.at c.index.result.now c.index_mut-pair.result.now found.stands found.in_range c.index.ensures c.index_mut-pair.ensures.value c.if-last.false in
    rw c.one_less-pair.ensures (IsBag-with_one_less g.T.Ord.cmp c.args.item.now c.args.pairs.now.items _ c.requires less)
