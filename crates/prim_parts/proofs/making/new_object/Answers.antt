use Rattle.prim_rules.specs.Parts.{new_object}
use Rattle.prim_parts.proofs.Does.{does_then, does_exit}
use Rattle.prim_parts.proofs.making.new_object.Goals as goal

pub returns-in_err-segment : goal.returns-in_err-segment
unfolding new_object
returns-in_err-segment g c =
    does_exit c.from_residual.result c.from_residual.ensures.1 c.in_err-segment.ensures

pub returns : goal.returns
unfolding new_object
returns g c = does_then c.in_ok-segment.ensures c.new_object_in.ensures
