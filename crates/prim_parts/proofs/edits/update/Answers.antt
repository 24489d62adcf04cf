use Rattle.std.proofs.Common.{sym}
use Rattle.std.proofs.lemmas.Result.{err_from_is_err_and}
use Rattle.prim_parts.proofs.Replaced.{update_refused, update_stop, update_then}
use Rattle.prim_parts.proofs.edits.update.Goals as goal

pub returns-in_err-small : goal.returns-in_err-small
returns-in_err-small g c object there =
    let p = err_from_is_err_and c.from_residual.result c.from_residual.ensures.1 in
    rw (p.1, p.2)
    (update_refused c.args.refusal c.args.growth c.args.name c.args.change object (sym there)
    _ (c.in_err-small.ensures object there) object there)

pub returns-in_err-make_room : goal.returns-in_err-make_room
returns-in_err-make_room g c object there =
    let p = err_from_is_err_and c.from_residual-in_err-make_room.result c.from_residual-in_err-make_room.ensures.1 in
    rw (p.1, p.2)
    (update_stop c.args.refusal c.args.growth c.args.name c.args.change object (sym there)
    c.in_ok-small.small (c.in_ok-small.ensures object there) c.in_err-make_room.ensures object there)

pub returns : goal.returns
returns g c object there =
    update_then c.args.refusal c.args.growth c.args.name c.args.change object (sym there)
    c.in_ok-small.small (c.in_ok-small.ensures object there) c.in_ok-make_room.ensures c.note.ensures object there
