use Rattle.prim_parts.proofs.Does.{does_then, does_exit, does_give, computes_then}
use Rattle.prim_parts.proofs.Onward.{computes_stops}
use Rattle.prim_classes.proofs.Moves.{kind_same}
use Rattle.prim_classes.proofs.segments.segment_argument.Goals as goal

pub returns-in_err-name : goal.returns-in_err-name
returns-in_err-name g c = computes_stops c.in_err-name.ensures c.from_residual.ensures.1

pub returns-in_err-check_kind : goal.returns-in_err-check_kind
returns-in_err-check_kind g c = computes_then c.in_ok-name.ensures (does_exit _ c.from_residual-in_err-check_kind.ensures.1
    (kind_same c.args.argument.now c.kernel_name.ensures c.in_err-check_kind.ensures))

pub returns : goal.returns
returns g c = computes_then c.in_ok-name.ensures (does_then (kind_same c.args.argument.now c.kernel_name.ensures c.in_ok-check_kind.ensures) (does_give _ _))
