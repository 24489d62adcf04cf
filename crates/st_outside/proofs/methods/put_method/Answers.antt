use Rattle.prim_parts.proofs.Does.{does_then, does_atom}
use Rattle.prim_parts.proofs.Onward.{access_stopped}
use Rattle.st_outside.proofs.methods.put_method.Goals as goal

pub returns-in_err-read : goal.returns-in_err-read
returns-in_err-read g c = access_stopped c.in_err-read.ensures c.from_residual.ensures.1

pub returns-in_err-write : goal.returns-in_err-write
returns-in_err-write g c = does_then (does_atom c.in_ok-read.ensures.acted)
    (access_stopped c.in_err-write.ensures c.from_residual-in_err-write.ensures.1)

pub returns : goal.returns
returns g c =
    let reached = c.in_ok-write.ensures in
    does_then (does_atom c.in_ok-read.ensures.acted)
    (does_then (does_atom reached.acted) (c.put_in_class.ensures reached.object reached.there))
