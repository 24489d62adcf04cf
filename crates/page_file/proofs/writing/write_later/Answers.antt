use Rattle.gem_disk.specs.declared.disk.Which.TheVariants.{Extent}
use Rattle.gem_disk.specs.Disk.{reads}
use Rattle.extent_pages.specs.Laid.{kept_pages}
use Rattle.page_file.specs.Checkpoint.{kept_of}
use Rattle.page_file.proofs.Bringing.{later_leaves, later_switches, later_made}
use Rattle.page_file.proofs.writing.write_later.Goals as goal

pub returns-clause-any_moment : goal.returns-clause-any_moment
returns-clause-any_moment g c extent next tells may =
    let past = g.D.Disk.past c.args.disk.now in
    later_leaves past (g.D.Disk.past c.bring_and_switch.new.disk) extent next c.args.page c.args.pieces.now may
    (c.bring_and_switch.ensures.any_moment (kept_of 2 (kept_pages (reads past Extent) extent)) tells may.may)

pub returns-clause-done : goal.returns-clause-done
returns-clause-done g c extent next tells may =
    let past = g.D.Disk.past c.args.disk.now in
    later_made past (g.D.Disk.past c.bring_and_switch.new.disk) extent next c.args.page c.args.pieces.now may c.bring_and_switch.result
    (c.bring_and_switch.ensures.done (kept_of 2 (kept_pages (reads past Extent) extent)) tells may.may)

pub returns-clause-switches : goal.returns-clause-switches
returns-clause-switches g c extent next tells may =
    let past = g.D.Disk.past c.args.disk.now in
    later_switches past (g.D.Disk.past c.bring_and_switch.new.disk) extent next c.args.page c.args.pieces.now may
    (c.bring_and_switch.ensures.switches (kept_of 2 (kept_pages (reads past Extent) extent)) tells may.may)
