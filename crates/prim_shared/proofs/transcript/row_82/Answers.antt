use Rattle.prim_parts.proofs.Does.{does_then, does_stop, does_atom, does_give, computes_then, computes_stop}
use Rattle.prim_shared.proofs.Steps.{handed}
use Rattle.prim_shared.proofs.transcript.row_82.Goals as goal

pub returns-in_err-read_receiver : goal.returns-in_err-read_receiver
returns-in_err-read_receiver g c = handed c.from_residual-in_err-read_receiver.result c.from_residual-in_err-read_receiver.ensures.1
    (does_stop c.in_err-read_receiver.ensures)

pub returns-in_err-no_arguments : goal.returns-in_err-no_arguments
returns-in_err-no_arguments g c = handed c.from_residual-in_err-no_arguments.result c.from_residual-in_err-no_arguments.ensures.1
    (does_then c.in_ok-read_receiver.ensures.does (computes_stop _ c.in_err-no_arguments.ensures))

pub returns-in_err-show : goal.returns-in_err-show
returns-in_err-show g c = handed c.from_residual-in_err-show.result c.from_residual-in_err-show.ensures.1
    (does_then c.in_ok-read_receiver.ensures.does (computes_then c.in_ok-no_arguments.ensures (does_stop (does_atom c.in_err-show.ensures))))

pub returns : goal.returns
returns g c = does_then c.in_ok-read_receiver.ensures.does (computes_then c.in_ok-no_arguments.ensures (does_then (does_atom c.in_ok-show.ensures) (rw c.in_ok-given.ensures.cases (does_give _ _))))
