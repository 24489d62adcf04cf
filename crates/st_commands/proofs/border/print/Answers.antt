use Rattle.prim_parts.proofs.Does.{does_ran}
use Rattle.st_commands.proofs.border.print.Goals as goal

pub returns : goal.returns
returns g c = does_ran c.print_value.ensures (g.L.Activations.local c.args.locals.now)
