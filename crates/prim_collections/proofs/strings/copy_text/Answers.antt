use Rattle.std.proofs.lemmas.Result.{err_from_is_err_and}
use Rattle.prim_rules.specs.Texts.{text_of_receiver}
use Rattle.prim_parts.proofs.Does.{does_then, does_stop, does_give, computes_then, computes_stop}
use Rattle.prim_collections.proofs.TextsRead.{text_told}
use Rattle.prim_collections.proofs.strings.copy_text.Goals as goal

pub returns-in_err-from : goal.returns-in_err-from
returns-in_err-from g c =
    let p = err_from_is_err_and c.from_residual.result c.from_residual.ensures.1 in
    rw (p.1, p.2) (computes_stop _ c.in_err-from.ensures)

pub returns-in_err-read_receiver : goal.returns-in_err-read_receiver
returns-in_err-read_receiver g c =
    let p = err_from_is_err_and c.from_residual-in_err-read_receiver.result
    c.from_residual-in_err-read_receiver.ensures.1 in
    rw (p.1, p.2) (computes_then c.in_ok-from.ensures (does_stop c.in_err-read_receiver.ensures))

pub returns-in_err-text_at : goal.returns-in_err-text_at
returns-in_err-text_at g c =
    let p = err_from_is_err_and c.from_residual-in_err-text_at.result c.from_residual-in_err-text_at.ensures.1 in
    rw (p.1, p.2) (computes_then c.in_ok-from.ensures (does_stop (text_told (text_of_receiver c.args.receiver.now) c.args.receiver.now (g.O.Objects.seen c.args.objects.now)
    (g.O.Objects.seen c.read_receiver.new.objects) _ c.in_ok-read_receiver.ensures c.in_err-text_at.ensures)))

pub returns-in_err-part_copied : goal.returns-in_err-part_copied
returns-in_err-part_copied g c =
    let p = err_from_is_err_and c.from_residual-in_err-part_copied.result c.from_residual-in_err-part_copied.ensures.1 in
    rw (p.1, p.2) (computes_then c.in_ok-from.ensures (does_then (text_told (text_of_receiver c.args.receiver.now) c.args.receiver.now (g.O.Objects.seen c.args.objects.now)
    (g.O.Objects.seen c.read_receiver.new.objects) _ c.in_ok-read_receiver.ensures c.in_ok-text_at.ensures)
    (does_stop (c.in_err-part_copied.ensures _ c.in_ok-text_at.ensures))))

pub returns : goal.returns
returns g c =
    computes_then c.in_ok-from.ensures (does_then (text_told (text_of_receiver c.args.receiver.now) c.args.receiver.now (g.O.Objects.seen c.args.objects.now)
    (g.O.Objects.seen c.read_receiver.new.objects) _ c.in_ok-read_receiver.ensures c.in_ok-text_at.ensures)
    (does_then (c.in_ok-part_copied.ensures _ c.in_ok-text_at.ensures) (does_give _ _)))
