use Rattle.prim_parts.proofs.Does.{does_then, does_stop, does_atom, computes_then, computes_stop}
use Rattle.prim_collections.proofs.Rows.{does_accessed}
use Rattle.std.proofs.lemmas.Result.{err_from_is_err_and}
use Rattle.std.proofs.lemmas.Int.{to_z-of_z}
use Rattle.std.proofs.Common.{rules, w64}
use Rattle.prim_collections.proofs.Layouts.{size_is, element_put}
use Rattle.prim_collections.proofs.sequences.element_put.Goals as goal

pub returns-in_err-write : goal.returns-in_err-write
returns-in_err-write g c =
    let p = err_from_is_err_and c.from_residual.result c.from_residual.ensures.1 in
    rw (p.1, p.2) (does_stop (does_atom c.in_err-write.ensures))

pub returns-in_err-layout : goal.returns-in_err-layout
returns-in_err-layout g c =
    let p = err_from_is_err_and c.from_residual-in_err-layout.result c.from_residual-in_err-layout.ensures.1 in
    rw (p.1, p.2) (does_accessed c.in_ok-write.ensures (does_stop (c.in_err-layout.ensures c.in_ok-write.ensures.object
    c.in_ok-write.ensures.there)))

pub returns-in_err-number : goal.returns-in_err-number
returns-in_err-number g c =
    let p = err_from_is_err_and c.from_residual-in_err-number.result c.from_residual-in_err-number.ensures.1 in
    rw (p.1, p.2) (does_accessed c.in_ok-write.ensures (does_then (c.in_ok-layout.ensures c.in_ok-write.ensures.object
    c.in_ok-write.ensures.there).does (computes_stop _ c.in_err-number.ensures)))

pub returns-in_err-check_stored : goal.returns-in_err-check_stored
returns-in_err-check_stored g c =
    let p = err_from_is_err_and c.from_residual-in_err-check_stored.result c.from_residual-in_err-check_stored.ensures.1 in
    rw (p.1, p.2) (does_accessed c.in_ok-write.ensures (does_then (c.in_ok-layout.ensures c.in_ok-write.ensures.object
    c.in_ok-write.ensures.there).does (computes_then c.in_ok-number.ensures (computes_stop _ c.in_err-check_stored.ensures))))

pub returns-in_err-place : goal.returns-in_err-place
returns-in_err-place g c =
    let p = err_from_is_err_and c.from_residual-in_err-place.result c.from_residual-in_err-place.ensures.1 in
    rw (p.1, p.2) (does_accessed c.in_ok-write.ensures (does_then (c.in_ok-layout.ensures c.in_ok-write.ensures.object
    c.in_ok-write.ensures.there).does (computes_then c.in_ok-number.ensures (computes_then c.in_ok-check_stored.ensures
    (computes_stop _ (rw (
      to_z-of_z w64 c.in_ok-number.number (search rules),
      c.size.ensures,
      size_is
          (c.in_ok-layout.ensures c.in_ok-write.ensures.object c.in_ok-write.ensures.there),
    ) at c.in_err-place.ensures.place))))))

pub returns : goal.returns
returns g c =
    does_accessed c.in_ok-write.ensures (does_then (c.in_ok-layout.ensures c.in_ok-write.ensures.object
    c.in_ok-write.ensures.there).does (computes_then c.in_ok-number.ensures (computes_then c.in_ok-check_stored.ensures
    (computes_then (rw (
      to_z-of_z w64 c.in_ok-number.number (search rules),
      c.size.ensures,
      size_is
          (c.in_ok-layout.ensures c.in_ok-write.ensures.object c.in_ok-write.ensures.there),
    ) at c.in_ok-place.ensures.place)
    (element_put (c.in_ok-layout.ensures c.in_ok-write.ensures.object c.in_ok-write.ensures.there) _ _ _
    (c.put_slot.ensures c.in_ok-write.ensures.object c.in_ok-write.ensures.there))))))
