use Rattle.std.proofs.Common.{false}
use Rattle.prim_parts.proofs.Does.{does_ran}
use Rattle.st_machine.specs.Parts.{framed}
use Rattle.st_machine.proofs.Outlines.{found_ran}
use Rattle.st_machine.proofs.border.known_place.Goals as goal

pub returns : goal.returns
returns g c = λ budget.
    found_ran c.frame.result.now (framed c.args.chain.now.own c.args.frame.now) c.frame.ensures.receiver
    c.frame.ensures.holder c.frame.ensures.class_side false c.args.receiver.now c.args.selector.now
    (does_ran (c.in_ok-at.ensures budget) c.args.locals.now)
