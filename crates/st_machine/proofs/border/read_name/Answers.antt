use Rattle.prim_parts.proofs.Does.{does_ran}
use Rattle.st_machine.specs.Parts.{framed}
use Rattle.st_machine.proofs.Outlines.{read_ran}
use Rattle.st_machine.proofs.border.read_name.Goals as goal

pub returns : goal.returns
returns g c =
    read_ran c.frame.result.now (framed c.args.chain.now.own c.args.frame.now) c.frame.ensures.receiver
    c.frame.ensures.holder c.frame.ensures.class_side c.args.name.now
    (does_ran c.read_name.ensures c.args.locals.now)
