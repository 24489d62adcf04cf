use Rattle.prim_parts.proofs.Does.{computes_give}
use Rattle.prim_parts.proofs.Onward.{computes_on, computes_off}
use Rattle.std.proofs.lemmas.Result.{err_from_is_err_and}
use Rattle.std.proofs.lemmas.Int.{to_z-of_z}
use Rattle.std.proofs.Common.{rules, w64}
use Rattle.prim_collections.proofs.strings.character_at.Goals as goal

pub returns-in_err-number : goal.returns-in_err-number
returns-in_err-number c =
    let p = err_from_is_err_and c.from_residual.result c.from_residual.ensures.1 in
    rw (p.1, p.2) (computes_off c.in_err-number.ensures)

pub returns-in_err-place : goal.returns-in_err-place
returns-in_err-place c =
    let p = err_from_is_err_and c.from_residual-in_err-place.result c.from_residual-in_err-place.ensures.1 in
    rw (p.1, p.2) (computes_on c.in_ok-number.ensures (computes_off (rw (to_z-of_z w64 c.in_ok-number.number
    (search rules)) at c.in_err-place.ensures.place)))

pub returns-in_err-byte : goal.returns-in_err-byte
returns-in_err-byte c =
    let p = err_from_is_err_and c.from_residual-in_err-byte.result c.from_residual-in_err-byte.ensures.1 in
    rw (p.1, p.2) (computes_on c.in_ok-number.ensures (computes_on (rw (to_z-of_z w64 c.in_ok-number.number
    (search rules)) at c.in_ok-place.ensures.place) (computes_off (rw c.byte_at.ensures at c.in_err-byte.ensures))))

pub returns : goal.returns
returns c = computes_on c.in_ok-number.ensures (computes_on (rw (to_z-of_z w64 c.in_ok-number.number (search rules)) at
    c.in_ok-place.ensures.place)
    (computes_on (rw c.byte_at.ensures at c.in_ok-byte.ensures) (computes_give _)))
