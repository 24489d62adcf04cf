use Rattle.gem_language.specs.Install.{install}
use Rattle.prim_parts.proofs.Does.{does_then}
use Rattle.prim_parts.proofs.Onward.{does_stops}
use Rattle.st_outside.proofs.methods.install.Goals as goal

pub returns-in_err-value : goal.returns-in_err-value
unfolding install
returns-in_err-value g c = does_stops c.in_err-value.ensures c.from_residual.ensures.1

pub returns-in_err-name : goal.returns-in_err-name
unfolding install
returns-in_err-name g c = does_then c.in_ok-value.ensures
    (does_stops c.in_err-name.ensures c.from_residual-in_err-name.ensures.1)

pub returns : goal.returns
unfolding install
returns g c = does_then c.in_ok-value.ensures (does_then c.in_ok-name.ensures c.put_method.ensures)
