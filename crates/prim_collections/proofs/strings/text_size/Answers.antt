use Rattle.std.proofs.lemmas.Result.{err_from_is_err_and}
use Rattle.prim_rules.specs.Texts.{text_of_receiver}
use Rattle.prim_parts.proofs.Does.{does_then, does_stop, does_give, computes_then, computes_stop, computes_give}
use Rattle.prim_collections.proofs.TextsRead.{text_told}
use Rattle.prim_collections.proofs.strings.text_size.Goals as goal

pub returns-in_err-no_arguments : goal.returns-in_err-no_arguments
returns-in_err-no_arguments g c =
    let p = err_from_is_err_and c.from_residual.result c.from_residual.ensures.1 in
    rw (p.1, p.2) (computes_stop _ c.in_err-no_arguments.ensures)

pub returns-in_err-read_receiver : goal.returns-in_err-read_receiver
returns-in_err-read_receiver g c =
    let p = err_from_is_err_and c.from_residual-in_err-read_receiver.result
    c.from_residual-in_err-read_receiver.ensures.1 in
    rw (p.1, p.2) (computes_then c.in_ok-no_arguments.ensures (does_stop c.in_err-read_receiver.ensures))

pub returns-in_err-text : goal.returns-in_err-text
returns-in_err-text g c =
    let p = err_from_is_err_and c.from_residual-in_err-text.result c.from_residual-in_err-text.ensures.1 in
    rw (p.1, p.2) (computes_then c.in_ok-no_arguments.ensures (does_stop (text_told (text_of_receiver c.args.receiver.now) c.args.receiver.now (g.O.Objects.seen c.args.objects.now)
    (g.O.Objects.seen c.read_receiver.new.objects) _ c.in_ok-read_receiver.ensures c.in_err-text.ensures)))

pub returns : goal.returns
returns g c =
    computes_then c.in_ok-no_arguments.ensures (does_then (text_told (text_of_receiver c.args.receiver.now) c.args.receiver.now (g.O.Objects.seen c.args.objects.now)
    (g.O.Objects.seen c.read_receiver.new.objects) _ c.in_ok-read_receiver.ensures c.in_ok-text.ensures)
    (rw c.in_ok-size_of.ensures (computes_then (computes_give _) (does_give _ _))))
