use Rattle.std.proofs.Common.{is_some, ap, arith}
use Rattle.history_laws.proofs.Serials.{serial_at_most}
use Rattle.stone_core.proofs.Largest.{no_more_serials}
use Rattle.stone_core.proofs.serial.largest_serial.Goals as goal

pub loop-entry-preserved : goal.loop-entry-preserved
loop-entry-preserved c =
    let serial = c.serial-largest.ensures.serial in
    let bound = c.serial-largest.ensures.bound in
    let most = serial_at_most c.args.image.now c.in-Some.entry.0 (ap is_some c.in-Some.ensures.next.1.0) in
    (bound, omega (arith, serial, most))

pub returns-clause-serial : goal.returns-clause-serial
returns-clause-serial c =
    let most = no_more_serials c.args.image.now c.loop-entry.largest c.in_default.ensures.next in
    let least = c.loop-entry.invariant.1 in
    omega (arith, most, least)
