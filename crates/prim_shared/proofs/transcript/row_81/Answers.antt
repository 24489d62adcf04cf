use Rattle.prim_parts.proofs.Does.{does_then, does_stop, does_atom, does_give, computes_then, computes_stop}
use Rattle.prim_shared.proofs.Steps.{handed, over}
use Rattle.gem_object.specs.texts.Bytes.{Bytes as Text}
use Rattle.object_programs.specs.Atom.{Show}
use Rattle.object_programs.specs.Run.{atom}
use Rattle.prim_shared.proofs.transcript.row_81.Goals as goal

pub returns-in_err-read_receiver : goal.returns-in_err-read_receiver
returns-in_err-read_receiver g c = handed c.from_residual-in_err-read_receiver.result c.from_residual-in_err-read_receiver.ensures.1
    (does_stop c.in_err-read_receiver.ensures)

pub returns-in_err-value : goal.returns-in_err-value
returns-in_err-value g c = handed c.from_residual-in_err-value.result c.from_residual-in_err-value.ensures.1
    (does_then c.in_ok-read_receiver.ensures.does (computes_stop _ c.in_err-value.ensures))

pub returns-in_err-text : goal.returns-in_err-text
returns-in_err-text g c = handed c.from_residual-in_err-text.result c.from_residual-in_err-text.ensures.1
    (does_then c.in_ok-read_receiver.ensures.does (computes_then c.in_ok-value.ensures (does_stop c.in_err-text.ensures)))

pub returns-in_err-show : goal.returns-in_err-show
returns-in_err-show g c = handed c.from_residual-in_err-show.result c.from_residual-in_err-show.ensures.1
    (does_then c.in_ok-read_receiver.ensures.does (computes_then c.in_ok-value.ensures (does_then c.in_ok-text.ensures (does_stop (over (λ (text : Text). atom (Show text)) c.bytes.ensures (does_atom c.in_err-show.ensures))))))

pub returns : goal.returns
returns g c = does_then c.in_ok-read_receiver.ensures.does (computes_then c.in_ok-value.ensures (does_then c.in_ok-text.ensures (does_then (over (λ (text : Text). atom (Show text)) c.bytes.ensures (does_atom c.in_ok-show.ensures)) (rw c.in_ok-given.ensures.cases (does_give _ _)))))
