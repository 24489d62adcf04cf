use Rattle.std.proofs.Common.{true}
use Rattle.prim_parts.proofs.Does.{does_ran}
use Rattle.st_machine.specs.Parts.{framed}
use Rattle.st_machine.proofs.Outlines.{found_ran}
use Rattle.st_machine.proofs.border.find_above.Goals as goal

pub returns : goal.returns
returns g c =
    found_ran c.frame.result.now (framed c.args.chain.now.own c.args.frame.now) c.frame.ensures.receiver
    c.frame.ensures.holder c.frame.ensures.class_side true c.args.receiver.now c.args.selector.now
    (does_ran c.find_method.ensures c.args.locals.now)
