use Rattle.prim_parts.proofs.Does.{does_ran}
use Rattle.st_machine.specs.Parts.{framed}
use Rattle.st_machine.proofs.Outlines.{write_ran}
use Rattle.st_machine.proofs.border.write_name.Goals as goal

pub returns : goal.returns
returns g c =
    write_ran c.frame.result.now (framed c.args.chain.now.own c.args.frame.now) c.frame.ensures.receiver
    c.frame.ensures.holder c.frame.ensures.class_side c.args.name.now c.args.value
    (does_ran c.write_name.ensures c.args.locals.now)
