use Rattle.prim_rules.specs.Parts.{new_object}
use Rattle.prim_parts.proofs.Does.{does_stop}
use Rattle.prim_shared.proofs.Refused.{array_refused}
use Rattle.prim_shared.proofs.Steps.{handed}
use Rattle.prim_shared.proofs.answers.refuse_array.Goals as goal

pub returns-in_err-default_segment : goal.returns-in_err-default_segment
unfolding new_object
returns-in_err-default_segment g c = λ values large. handed _ c.from_residual.ensures.1
    (does_stop (does_stop c.in_err-default_segment.ensures))

pub returns : goal.returns
returns g c = λ values large. does_stop (array_refused values c.in_ok-default_segment.field-0 large
    c.in_ok-default_segment.ensures)
