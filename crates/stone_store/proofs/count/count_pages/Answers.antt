use Rattle.std.proofs.Common.{arith}
use Rattle.stone_store.proofs.Sums.{all_listed, all_pages, all_stale}
use Rattle.stone_store.proofs.count.count_pages.Goals as goal

pub returns-clause-all : goal.returns-clause-all
returns-clause-all c =
    let all = all_pages c.args.image.now c.args.root c.invariant.ensures.named c.in_ok-sums.sums c.in_ok-sums.changed.items c.in_ok-sums.ensures
    c.in_ok-directory.directory c.in_ok-directory.ensures in
    omega (arith, c.in_ok-checked_add.ensures, all)

pub returns-clause-written : goal.returns-clause-written
returns-clause-written c =
    let stale = all_stale c.args.image.now c.args.root c.invariant.ensures.named c.in_ok-sums.sums c.in_ok-sums.changed.items c.in_ok-sums.ensures
    c.in_ok-directory.directory c.in_ok-directory.ensures in
    omega (arith, c.in_ok-checked_add-2.ensures, stale)

pub returns-clause-changed : goal.returns-clause-changed
returns-clause-changed c =
    all_listed c.args.image.now c.args.root c.invariant.ensures.named c.in_ok-sums.sums c.in_ok-sums.changed.items c.in_ok-sums.ensures
