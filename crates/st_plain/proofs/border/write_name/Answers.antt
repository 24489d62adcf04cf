use Rattle.prim_parts.proofs.Does.{does_ran}
use Rattle.st_plain.proofs.border.write_name.Goals as goal

pub returns : goal.returns
returns g c = does_ran c.write_name.ensures c.args.locals.now
