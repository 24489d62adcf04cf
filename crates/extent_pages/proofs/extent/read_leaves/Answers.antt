use Rattle.std.proofs.Common.{IsTrue}
use Rattle.std.proofs.lemmas.Result.{err_from_is_err_and}
use Rattle.extent_pages.proofs.Payloads.{nothing_left}
use Rattle.extent_pages.proofs.Extents.{leaves_first, leaves_end, leaves_break, leaves_more, numbers_end}
use Rattle.extent_pages.proofs.extent.read_leaves.Goals as goal

pub loop-entry-init : goal.loop-entry-init
loop-entry-init g c = rw c.new-leaves.ensures.items
    (leaves_first (IsTrue g.D.Disk.tells) (g.D.Disk.past c.args.disk.now) (g.D.Disk.faults c.args.disk.now)
    c.args.marks.now.items c.args.entries.now c.requires.marks)

pub returns-in_err-leaf-clause-leaves : goal.returns-in_err-leaf-clause-leaves
returns-in_err-leaf-clause-leaves g c taken tell marked =
    let p = err_from_is_err_and c.from_residual.result c.from_residual.ensures.1 in
    rw (p.1, p.2) (leaves_break (IsTrue g.D.Disk.tells) (g.D.Disk.past c.args.disk.now) (g.D.Disk.past c.loop-entry.disk)
    (g.D.Disk.faults c.args.disk.now) (g.D.Disk.faults c.loop-entry.disk) c.args.marks.now.items c.loop-entry.marks.items
    c.args.entries.now c.loop-entry.leaves.items c.loop-entry.rest.now c.in-Some.entry.now c.in-Some.behind.now
    c.in-Some.ensures.cases.0 c.loop-entry.invariant c.in_err-leaf.field-0.0 c.in_err-leaf.ensures.leaf taken tell marked)

pub loop-entry-preserved : goal.loop-entry-preserved
loop-entry-preserved g c =
    leaves_more (IsTrue g.D.Disk.tells) (g.D.Disk.past c.args.disk.now) (g.D.Disk.past c.loop-entry.disk)
    (g.D.Disk.faults c.args.disk.now) (g.D.Disk.faults c.loop-entry.disk) c.args.marks.now.items c.loop-entry.marks.items
    c.args.entries.now c.loop-entry.leaves.items c.loop-entry.rest.now c.in-Some.entry.now c.in-Some.behind.now
    c.in-Some.ensures.cases.0 c.loop-entry.invariant c.in_ok-leaf.leaf c.read_leaf_of.new.marks.items c.push.new.self.items
    (g.D.Disk.past c.read_leaf_of.new.disk) (g.D.Disk.faults c.read_leaf_of.new.disk) c.in_ok-push.ensures.items
    c.in_ok-leaf.ensures.leaf c.in_ok-leaf.ensures.marked c.in_ok-leaf.ensures.past c.in_ok-leaf.ensures.quiet
    c.in_ok-leaf.ensures.marks c.in_ok-leaf.ensures.stored

pub returns-clause-leaves : goal.returns-clause-leaves
returns-clause-leaves g c taken tell marked =
    leaves_end (IsTrue g.D.Disk.tells) (g.D.Disk.past c.args.disk.now) (g.D.Disk.past c.loop-entry.disk)
    (g.D.Disk.faults c.args.disk.now) (g.D.Disk.faults c.loop-entry.disk) c.args.marks.now.items c.loop-entry.marks.items
    c.args.entries.now c.loop-entry.leaves.items c.loop-entry.rest.now
    (nothing_left c.loop-entry.rest.now c.in_default.ensures.cases) c.loop-entry.invariant taken tell marked

pub returns-clause-stored : goal.returns-clause-stored
returns-clause-stored g c = c.loop-entry.invariant.stored.each

pub returns-clause-numbers : goal.returns-clause-numbers
returns-clause-numbers g c =
    numbers_end c.args.entries.now c.loop-entry.leaves.items c.loop-entry.rest.now
    (nothing_left c.loop-entry.rest.now c.in_default.ensures.cases) c.loop-entry.invariant.stored
