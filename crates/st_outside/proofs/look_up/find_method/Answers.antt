use Rattle.gem_language.specs.LookUp.{find_method}
use Rattle.prim_parts.proofs.Does.{does_then}
use Rattle.prim_parts.proofs.Onward.{does_stops}
use Rattle.st_outside.proofs.look_up.find_method.Goals as goal

pub returns-in_err-start : goal.returns-in_err-start
unfolding find_method
returns-in_err-start g c = does_stops c.in_err-start.ensures c.from_residual.ensures.1

pub returns : goal.returns
unfolding find_method
returns g c = does_then c.in_ok-start.ensures c.found_at.ensures
