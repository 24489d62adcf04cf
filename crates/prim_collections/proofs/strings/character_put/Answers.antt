use Rattle.prim_parts.proofs.Does.{does_then, does_stop, does_atom, computes_then, computes_stop}
use Rattle.prim_collections.proofs.Rows.{does_accessed}
use Rattle.std.proofs.lemmas.Result.{err_from_is_err_and}
use Rattle.std.proofs.lemmas.Int.{to_z-of_z}
use Rattle.std.proofs.Common.{rules, w64}
use Rattle.prim_collections.proofs.TextRows.{byte_put, character_given}
use Rattle.prim_collections.proofs.strings.character_put.Goals as goal

pub returns-in_err-write : goal.returns-in_err-write
returns-in_err-write g c =
    let p = err_from_is_err_and c.from_residual.result c.from_residual.ensures.1 in
    rw (p.1, p.2) (does_stop (does_atom c.in_err-write.ensures))

pub returns-in_err-size : goal.returns-in_err-size
returns-in_err-size g c =
    let p = err_from_is_err_and c.from_residual-in_err-size.result c.from_residual-in_err-size.ensures.1 in
    rw (p.1, p.2) (does_accessed c.in_ok-write.ensures (does_stop (c.in_err-size.ensures c.in_ok-write.ensures.object
    c.in_ok-write.ensures.there)))

pub returns-in_err-number : goal.returns-in_err-number
returns-in_err-number g c =
    let p = err_from_is_err_and c.from_residual-in_err-number.result c.from_residual-in_err-number.ensures.1 in
    rw (p.1, p.2) (does_accessed c.in_ok-write.ensures (does_then (c.in_ok-size.ensures c.in_ok-write.ensures.object
    c.in_ok-write.ensures.there) (computes_stop _ c.in_err-number.ensures)))

pub returns-in_err-code : goal.returns-in_err-code
returns-in_err-code g c =
    let p = err_from_is_err_and c.from_residual-in_err-code.result c.from_residual-in_err-code.ensures.1 in
    rw (p.1, p.2) (does_accessed c.in_ok-write.ensures (does_then (c.in_ok-size.ensures c.in_ok-write.ensures.object
    c.in_ok-write.ensures.there) (computes_then c.in_ok-number.ensures (computes_stop _ c.in_err-code.ensures))))

pub returns-in_err-place : goal.returns-in_err-place
returns-in_err-place g c =
    let p = err_from_is_err_and c.from_residual-in_err-place.result c.from_residual-in_err-place.ensures.1 in
    rw (p.1, p.2) (does_accessed c.in_ok-write.ensures (does_then (c.in_ok-size.ensures c.in_ok-write.ensures.object
    c.in_ok-write.ensures.there) (computes_then c.in_ok-number.ensures (computes_then c.in_ok-code.ensures
    (computes_stop _ (rw (to_z-of_z w64 c.in_ok-number.number (search rules)) at c.in_err-place.ensures.place))))))

pub returns-in_err-replace_byte : goal.returns-in_err-replace_byte
returns-in_err-replace_byte g c =
    let p = err_from_is_err_and c.from_residual-in_err-replace_byte.result c.from_residual-in_err-replace_byte.ensures.1 in
    rw (p.1, p.2) (does_accessed c.in_ok-write.ensures (does_then (c.in_ok-size.ensures c.in_ok-write.ensures.object
    c.in_ok-write.ensures.there) (computes_then c.in_ok-number.ensures (computes_then c.in_ok-code.ensures (computes_then
    (rw (to_z-of_z w64 c.in_ok-number.number (search rules)) at c.in_ok-place.ensures.place) (does_stop (byte_put _ _ _ _
    (c.in_ok-size.ensures c.in_ok-write.ensures.object c.in_ok-write.ensures.there) (c.in_err-replace_byte.ensures
    c.in_ok-write.ensures.object c.in_ok-write.ensures.there))))))))

pub returns : goal.returns
returns g c =
    does_accessed c.in_ok-write.ensures (does_then (c.in_ok-size.ensures c.in_ok-write.ensures.object
    c.in_ok-write.ensures.there) (computes_then c.in_ok-number.ensures (computes_then c.in_ok-code.ensures (computes_then
    (rw (to_z-of_z w64 c.in_ok-number.number (search rules)) at c.in_ok-place.ensures.place) (does_then (byte_put _ _ _ _
    (c.in_ok-size.ensures c.in_ok-write.ensures.object c.in_ok-write.ensures.there) (c.in_ok-replace_byte.ensures
    c.in_ok-write.ensures.object c.in_ok-write.ensures.there)) (character_given _ c.in_ok-code.ensures))))))
