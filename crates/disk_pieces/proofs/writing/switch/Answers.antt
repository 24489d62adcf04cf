use Rattle.gem_disk.specs.declared.disk.Which.TheVariants.{Extent}
use Rattle.gem_disk.specs.Disk.{reads, Torn}
use Rattle.disk_pieces.proofs.Crashes.{only_synced}
use Rattle.disk_pieces.proofs.Switching.{byte_written, byte_last, byte_brought, sync_durable, sync_switches}
use Rattle.std.proofs.Common.{List, ℕ}
use Rattle.disk_pieces.proofs.writing.switch.Goals as goal

pub returns-in_err-write_at-clause-any_moment : goal.returns-in_err-write_at-clause-any_moment
returns-in_err-write_at-clause-any_moment g c tells durable =
    byte_written (g.D.Disk.past c.args.disk.now) c.args.at c.args.byte durable (g.D.Disk.past c.write_at.new.self) c.write_at.result (c.requires tells) (c.write_at.ensures.past tells)

pub returns-clause-any_moment : goal.returns-clause-any_moment
returns-clause-any_moment g c tells durable =
    let old = g.D.Disk.past c.args.disk.now in
    only_synced (λ (l : List ℕ). Torn c.args.at 1 (reads old Extent) l) old (g.D.Disk.past c.write_at.new.self)
    (byte_written old c.args.at c.args.byte durable (g.D.Disk.past c.write_at.new.self) c.write_at.result (c.requires tells) (c.write_at.ensures.past tells))
    (g.D.Disk.past c.sync.new.self) c.sync.result (c.sync.ensures.past tells)

pub returns-clause-done : goal.returns-clause-done
returns-clause-done g c tells =
    sync_switches (g.D.Disk.past c.write_at.new.self) (g.D.Disk.past c.sync.new.self) (g.D.Disk.past c.args.disk.now) c.args.at c.args.byte c.sync.result
    (c.in_ok-write_at.ensures.past tells) (c.sync.ensures.past tells)

pub returns-clause-durable : goal.returns-clause-durable
returns-clause-durable g c tells =
    sync_durable (g.D.Disk.past c.write_at.new.self) (g.D.Disk.past c.sync.new.self) c.sync.result (c.sync.ensures.past tells)

pub returns-in_err-write_at-clause-steps : goal.returns-in_err-write_at-clause-steps
returns-in_err-write_at-clause-steps g c tells =
    byte_last (g.D.Disk.past c.args.disk.now) c.args.at c.args.byte (c.requires tells) (g.D.Disk.past c.write_at.new.self) c.write_at.result (c.write_at.ensures.past tells)

pub returns-clause-steps : goal.returns-clause-steps
returns-clause-steps g c tells =
    byte_brought (g.D.Disk.past c.args.disk.now) c.args.at c.args.byte (c.requires tells) (g.D.Disk.past c.write_at.new.self) (g.D.Disk.past c.sync.new.self) c.sync.result
    (c.in_ok-write_at.ensures.past tells) (c.sync.ensures.past tells)
