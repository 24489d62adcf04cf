use Rattle.std.proofs.Common.{[]}
use Rattle.page_file.specs.Checkpoint.{kept_of}
use Rattle.page_file.proofs.Bringing.{first_reaches, first_may, first_leaves, first_switches, first_made, none_left, none_switches}
use Rattle.page_file.proofs.writing.write_first.Goals as goal

pub bring_and_switch-requires-clause-reach : goal.bring_and_switch-requires-clause-reach
bring_and_switch-requires-clause-reach g c tells =
    let past = g.D.Disk.past c.args.disk.now in
    let mid = g.D.Disk.past c.close_gate.new.disk in
    let given = c.requires tells in
    first_reaches past mid given.0 c.args.pieces.now given.1 (c.in_ok-close_gate.ensures.closed tells given.1.stands)
    (c.in_ok-close_gate.ensures.durable tells given.1.durable)

pub returns-in_err-close_gate-clause-any_moment : goal.returns-in_err-close_gate-clause-any_moment
returns-in_err-close_gate-clause-any_moment g c next tells may =
    none_left (g.D.Disk.past c.args.disk.now) (g.D.Disk.past c.close_gate.new.disk) next (c.in_err-close_gate.ensures.any_moment tells may.durable may.stands)

pub returns-clause-any_moment : goal.returns-clause-any_moment
returns-clause-any_moment g c next tells may =
    let past = g.D.Disk.past c.args.disk.now in
    let mid = g.D.Disk.past c.close_gate.new.disk in
    let closed = c.in_ok-close_gate.ensures.closed tells may.stands in
    let durable = c.in_ok-close_gate.ensures.durable tells may.durable in
    first_leaves past mid next c.args.pieces.now may closed durable (g.D.Disk.past c.bring_and_switch.new.disk)
    (c.in_ok-close_gate.ensures.any_moment tells may.durable may.stands)
    (c.bring_and_switch.ensures.any_moment (kept_of 1 []) tells (first_may past mid next c.args.pieces.now may closed durable))

pub returns-clause-done : goal.returns-clause-done
returns-clause-done g c next tells may =
    let past = g.D.Disk.past c.args.disk.now in
    let mid = g.D.Disk.past c.close_gate.new.disk in
    let closed = c.in_ok-close_gate.ensures.closed tells may.stands in
    let durable = c.in_ok-close_gate.ensures.durable tells may.durable in
    first_made past mid next c.args.pieces.now may closed durable (g.D.Disk.past c.bring_and_switch.new.disk) c.bring_and_switch.result
    (c.bring_and_switch.ensures.done (kept_of 1 []) tells (first_may past mid next c.args.pieces.now may closed durable))

pub returns-in_err-close_gate-clause-switches : goal.returns-in_err-close_gate-clause-switches
returns-in_err-close_gate-clause-switches g c next tells may =
    none_switches (g.D.Disk.past c.args.disk.now) (g.D.Disk.past c.close_gate.new.disk) (c.in_err-close_gate.ensures.any_moment tells may.durable may.stands)

pub returns-clause-switches : goal.returns-clause-switches
returns-clause-switches g c next tells may =
    let past = g.D.Disk.past c.args.disk.now in
    let mid = g.D.Disk.past c.close_gate.new.disk in
    let closed = c.in_ok-close_gate.ensures.closed tells may.stands in
    let durable = c.in_ok-close_gate.ensures.durable tells may.durable in
    first_switches past mid next c.args.pieces.now may closed durable (g.D.Disk.past c.bring_and_switch.new.disk)
    (c.in_ok-close_gate.ensures.any_moment tells may.durable may.stands)
    (c.bring_and_switch.ensures.switches (kept_of 1 []) tells (first_may past mid next c.args.pieces.now may closed durable))
