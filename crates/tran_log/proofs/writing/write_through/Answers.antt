use Rattle.tran_log.proofs.Through.{write_failed, write_torn, sync_leaves, sync_torn, sync_extent, write_extent}
use Rattle.std.proofs.Common.{length}
use Rattle.gem_disk.specs.declared.disk.Which.TheVariants.{Log}
use Rattle.gem_disk.proofs.Leaves.{writes_on, syncs_on}
use Rattle.tran_log.proofs.writing.write_through.Goals as goal

pub returns-in_err-write_at-clause-any_moment : goal.returns-in_err-write_at-clause-any_moment
returns-in_err-write_at-clause-any_moment g c tells durable = write_failed (g.D.Disk.past c.args.disk.now)
    (g.D.Disk.past c.write_at.new.self) c.args.at (length c.args.bytes.now) durable (c.in_err-write_at.ensures.past tells)

pub returns-clause-any_moment : goal.returns-clause-any_moment
returns-clause-any_moment g c tells durable = sync_leaves (g.D.Disk.past c.args.disk.now)
    (g.D.Disk.past c.write_at.new.self) (g.D.Disk.past c.sync.new.self) c.args.at c.args.bytes.now
    (c.requires tells) (c.in_ok-write_at.ensures.past tells) durable c.sync.result (c.sync.ensures.past tells)

pub returns-in_err-write_at-clause-extent : goal.returns-in_err-write_at-clause-extent
returns-in_err-write_at-clause-extent g c tells = write_extent (g.D.Disk.past c.args.disk.now)
    (g.D.Disk.past c.write_at.new.self) c.args.at (length c.args.bytes.now) (c.in_err-write_at.ensures.past tells)

pub returns-clause-extent : goal.returns-clause-extent
returns-clause-extent g c tells = sync_extent (g.D.Disk.past c.args.disk.now)
    (g.D.Disk.past c.write_at.new.self) (g.D.Disk.past c.sync.new.self) c.args.at c.args.bytes.now
    (c.requires tells) (c.in_ok-write_at.ensures.past tells) c.sync.result (c.sync.ensures.past tells)

pub returns-in_err-write_at-clause-torn : goal.returns-in_err-write_at-clause-torn
returns-in_err-write_at-clause-torn g c tells = write_torn (g.D.Disk.past c.args.disk.now)
    (g.D.Disk.past c.write_at.new.self) c.args.at (length c.args.bytes.now) (c.in_err-write_at.ensures.past tells)

pub returns-clause-torn : goal.returns-clause-torn
returns-clause-torn g c tells = sync_torn (g.D.Disk.past c.args.disk.now)
    (g.D.Disk.past c.write_at.new.self) (g.D.Disk.past c.sync.new.self) c.args.at c.args.bytes.now
    (c.requires tells) (c.in_ok-write_at.ensures.past tells) c.sync.result (c.sync.ensures.past tells)

pub returns-in_err-write_at-clause-honest : goal.returns-in_err-write_at-clause-honest
returns-in_err-write_at-clause-honest g c tells = writes_on Log c.args.at c.args.bytes.now
    (g.D.Disk.past c.args.disk.now) (g.D.Disk.past c.write_at.new.self) c.write_at.result
    (c.requires tells) (c.write_at.ensures.past tells)

pub returns-clause-honest : goal.returns-clause-honest
returns-clause-honest g c tells honest = syncs_on Log (g.D.Disk.past c.write_at.new.self) (g.D.Disk.past c.sync.new.self)
    c.sync.result (c.sync.ensures.past tells)
    (writes_on Log c.args.at c.args.bytes.now (g.D.Disk.past c.args.disk.now) (g.D.Disk.past c.write_at.new.self)
    c.write_at.result (c.requires tells) (c.write_at.ensures.past tells) honest)
