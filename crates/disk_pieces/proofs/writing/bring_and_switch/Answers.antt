use Rattle.gem_disk.specs.declared.disk.Which.TheVariants.{Extent}
use Rattle.gem_disk.specs.Disk.{reads}
use Rattle.disk_pieces.specs.Pieces.{Keeps}
use Rattle.disk_pieces.proofs.Switching.{only_brought, then_switched, switches_none, then_switches, is_switched}
use Rattle.disk_pieces.proofs.writing.bring_and_switch.Goals as goal

pub returns-in_err-bring-clause-any_moment : goal.returns-in_err-bring-clause-any_moment
returns-in_err-bring-clause-any_moment g c kept tells may =
    let old = g.D.Disk.past c.args.disk.now in
    let mid = g.D.Disk.past c.bring.new.disk in
    only_brought old mid mid kept c.args.pieces.now c.args.at (c.in_err-bring.ensures.any_moment kept tells may)

pub returns-clause-any_moment : goal.returns-clause-any_moment
returns-clause-any_moment g c kept tells may =
    then_switched (g.D.Disk.past c.args.disk.now) (g.D.Disk.past c.bring.new.disk) (g.D.Disk.past c.switch.new.disk) kept c.args.pieces.now c.args.at
    (c.in_ok-bring.ensures.any_moment kept tells may) (c.in_ok-bring.ensures.done kept tells may)
    (c.switch.ensures.any_moment tells (c.in_ok-bring.ensures.durable tells))

pub returns-clause-done : goal.returns-clause-done
returns-clause-done g c kept tells may =
    is_switched (g.D.Disk.past c.args.disk.now) (g.D.Disk.past c.bring.new.disk) (g.D.Disk.past c.switch.new.disk) kept c.args.pieces.now c.args.at
    c.args.byte c.switch.result (c.in_ok-bring.ensures.done kept tells may) (c.switch.ensures.done tells)

pub returns-in_err-bring-clause-switches : goal.returns-in_err-bring-clause-switches
returns-in_err-bring-clause-switches g c kept tells may =
    let old = g.D.Disk.past c.args.disk.now in
    switches_none (Keeps kept (reads old Extent)) c.args.at old (g.D.Disk.past c.bring.new.disk) (c.in_err-bring.ensures.any_moment kept tells may)

pub returns-clause-switches : goal.returns-clause-switches
returns-clause-switches g c kept tells may =
    then_switches (g.D.Disk.past c.args.disk.now) (g.D.Disk.past c.bring.new.disk) (g.D.Disk.past c.switch.new.disk) kept c.args.pieces.now c.args.at
    (c.in_ok-bring.ensures.any_moment kept tells may) (c.in_ok-bring.ensures.durable tells) (c.switch.ensures.steps tells)
