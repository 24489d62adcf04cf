use Rattle.prim_parts.proofs.Does.{does_exit, does_atom, does_who}
use Rattle.prim_classes.proofs.Moves.{writer_then}
use Rattle.prim_classes.proofs.segments.check_writer.Goals as goal

pub returns-in_err-own : goal.returns-in_err-own
returns-in_err-own g c = does_who c.user-user.result c.user-user.ensures (does_exit _ c.from_residual.ensures.1 (does_atom c.in_err-own.ensures))

pub returns : goal.returns
returns g c = writer_then c.args.name c.user-user.result c.args.rights.now c.gives_write-may.result c.in_ok-own.ensures c.user-user.ensures
    c.gives_write-may.ensures c.check.ensures
