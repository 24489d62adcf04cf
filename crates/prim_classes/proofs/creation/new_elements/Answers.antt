use Rattle.std.proofs.Common.{rules}
use Rattle.prim_parts.proofs.Does.{does_then, computes_then}
use Rattle.prim_classes.proofs.Steps.{steps}
use Rattle.prim_parts.proofs.Onward.{computes_stops}
use Rattle.prim_classes.proofs.Counts.{count_same}
use Rattle.prim_classes.proofs.creation.new_elements.Goals as goal

pub returns-in_err-number : goal.returns-in_err-number
returns-in_err-number g c = search (steps, c.in_err-number.ensures, c.from_residual.ensures.1)

pub returns-in_err-count : goal.returns-in_err-count
returns-in_err-count g c = computes_then c.in_ok-number.ensures (computes_stops (count_same (search rules) c.in_err-count.ensures) c.from_residual-in_err-count.ensures.1)

pub returns : goal.returns
returns g c = computes_then c.in_ok-number.ensures (computes_then (count_same (search rules) c.in_ok-count.ensures)
    (does_then c.named_slots-named.ensures c.sized_object.ensures))
