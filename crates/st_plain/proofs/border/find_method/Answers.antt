use Rattle.prim_parts.proofs.Does.{does_ran}
use Rattle.st_plain.proofs.border.find_method.Goals as goal

pub returns : goal.returns
returns g c = does_ran c.find_method.ensures c.args.locals.now
