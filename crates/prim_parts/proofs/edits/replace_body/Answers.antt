use Rattle.std.proofs.Common.{refl, sym}
use Rattle.std.proofs.lemmas.Result.{err_from_is_err_and}
use Rattle.prim_parts.proofs.Replaced.{replaced_stop, replaced_put}
use Rattle.prim_parts.proofs.edits.replace_body.Goals as goal

pub returns-in_err-make_room : goal.returns-in_err-make_room
returns-in_err-make_room g c object there =
    let p = err_from_is_err_and c.from_residual.result c.from_residual.ensures.1 in
    rw (p.1, p.2)
    (replaced_stop (λ old. c.args.growth) c.args.name (λ old. c.args.body) object c.is_small.result c.args.growth (sym there)
    c.is_small.ensures refl c.in_err-make_room.ensures object there)

pub returns : goal.returns
returns g c object there =
    replaced_put (λ old. c.args.growth) c.args.name (λ old. c.args.body) object c.is_small.result c.args.growth (sym there)
    c.is_small.ensures refl c.in_ok-make_room.ensures c.put.ensures object there
