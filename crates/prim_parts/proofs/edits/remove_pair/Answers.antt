use Rattle.std.proofs.Common.{refl, sym}
use Rattle.std.proofs.lemmas.Result.{err_from_is_err_and}
use Rattle.gem_object.specs.Edits.{without_value_at}
use Rattle.gem_sound.specs.gem_image.Image.{contents_of}
use Rattle.prim_parts.proofs.Replaced.{replaced_stop, replaced_then}
use Rattle.prim_parts.proofs.edits.remove_pair.Goals as goal

pub returns-in_err-make_room : goal.returns-in_err-make_room
returns-in_err-make_room g c =
    let p = err_from_is_err_and c.from_residual.result c.from_residual.ensures.1 in
    rw (p.1, p.2)
    (replaced_stop (λ body. 0) c.args.name (without_value_at c.args.key.now) (contents_of c.in-Some.object.now)
    c.stays_small-small.result 0 c.in-Some.ensures
    (c.stays_small-small.ensures (contents_of c.in-Some.object.now) (without_value_at c.args.key.now c.in-Some.object.now.body)
    (sym c.in-Some.ensures) c.pair_removed-change.ensures)
    refl c.in_err-make_room.ensures)

pub returns : goal.returns
returns g c =
    replaced_then (λ body. 0) c.args.name (without_value_at c.args.key.now) (contents_of c.in-Some.object.now)
    c.stays_small-small.result 0 c.in-Some.ensures
    (c.stays_small-small.ensures (contents_of c.in-Some.object.now) (without_value_at c.args.key.now c.in-Some.object.now.body)
    (sym c.in-Some.ensures) c.pair_removed-change.ensures)
    refl c.in_ok-make_room.ensures c.remove_at.ensures
