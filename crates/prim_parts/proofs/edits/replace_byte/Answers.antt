use Rattle.std.proofs.Common.{refl, sym}
use Rattle.std.proofs.lemmas.Result.{err_from_is_err_and}
use Rattle.gem_object.specs.Edits.{with_byte}
use Rattle.body_growth.proofs.Changes.{byte_set}
use Rattle.prim_parts.proofs.Replaced.{replaced_stop, replaced_then}
use Rattle.prim_parts.proofs.edits.replace_byte.Goals as goal

pub returns-in_err-make_room : goal.returns-in_err-make_room
returns-in_err-make_room g c object there =
    let p = err_from_is_err_and c.from_residual.result c.from_residual.ensures.1 in
    rw (p.1, p.2)
    (replaced_stop (λ body. 0) c.args.name (with_byte c.args.at c.args.byte) object c.stays_small-small.result 0 (sym there)
    (c.stays_small-small.ensures object (with_byte c.args.at c.args.byte object.body) there
    (byte_set c.none-change.ensures c.args.at c.args.byte object.body))
    refl c.in_err-make_room.ensures object there)

pub returns : goal.returns
returns g c object there =
    replaced_then (λ body. 0) c.args.name (with_byte c.args.at c.args.byte) object c.stays_small-small.result 0 (sym there)
    (c.stays_small-small.ensures object (with_byte c.args.at c.args.byte object.body) there
    (byte_set c.none-change.ensures c.args.at c.args.byte object.body))
    refl c.in_ok-make_room.ensures c.set_byte.ensures object there
