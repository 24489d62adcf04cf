use Rattle.gem_disk.specs.declared.disk.Which.TheVariants.{Extent}
use Rattle.gem_disk.specs.Disk.{reads}
use Rattle.disk_pieces.specs.Pieces.{Keeps}
use Rattle.disk_pieces.proofs.Crashes.{only_synced}
use Rattle.disk_pieces.proofs.Switching.{nothing_written, sync_durable, sync_longer, sync_brings}
use Rattle.disk_pieces.proofs.writing.bring.Goals as goal

pub returns-in_err-write_pieces-clause-any_moment : goal.returns-in_err-write_pieces-clause-any_moment
returns-in_err-write_pieces-clause-any_moment g c kept tells may =
    let old = g.D.Disk.past c.args.disk.now in
    c.in_err-write_pieces.ensures.kept kept (reads old Extent) old tells may.miss (nothing_written old kept c.args.pieces.now may)

pub returns-clause-any_moment : goal.returns-clause-any_moment
returns-clause-any_moment g c kept tells may =
    let old = g.D.Disk.past c.args.disk.now in
    only_synced (Keeps kept (reads old Extent)) old (g.D.Disk.past c.write_pieces.new.disk)
    (c.in_ok-write_pieces.ensures.kept kept (reads old Extent) old tells may.miss (nothing_written old kept c.args.pieces.now may))
    (g.D.Disk.past c.sync.new.self) c.sync.result (c.sync.ensures.past tells)

pub returns-clause-done : goal.returns-clause-done
returns-clause-done g c kept tells may =
    let old = g.D.Disk.past c.args.disk.now in
    sync_brings (g.D.Disk.past c.write_pieces.new.disk) (g.D.Disk.past c.sync.new.self) old kept c.args.pieces.now c.sync.result
    (c.in_ok-write_pieces.ensures.kept kept (reads old Extent) old tells may.miss (nothing_written old kept c.args.pieces.now may))
    (c.in_ok-write_pieces.ensures.stand kept.front tells may.ascend) (c.sync.ensures.past tells)

pub returns-clause-durable : goal.returns-clause-durable
returns-clause-durable g c tells =
    sync_durable (g.D.Disk.past c.write_pieces.new.disk) (g.D.Disk.past c.sync.new.self) c.sync.result (c.sync.ensures.past tells)

pub returns-clause-longer : goal.returns-clause-longer
returns-clause-longer g c tells =
    sync_longer (g.D.Disk.past c.write_pieces.new.disk) (g.D.Disk.past c.sync.new.self) (g.D.Disk.past c.args.disk.now) c.sync.result
    (c.in_ok-write_pieces.ensures.longer tells) (c.sync.ensures.past tells)
