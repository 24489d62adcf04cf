use Rattle.prim_parts.proofs.Does.{does_then, does_stop, does_atom, computes_then, computes_stop}
use Rattle.prim_collections.proofs.Rows.{does_accessed}
use Rattle.std.proofs.lemmas.Result.{err_from_is_err_and}
use Rattle.std.proofs.lemmas.Int.{to_z-of_z}
use Rattle.std.proofs.Common.{rules, w64}
use Rattle.prim_collections.proofs.Layouts.{size_is, element_found}
use Rattle.prim_collections.proofs.sequences.element_at.Goals as goal

pub returns-in_err-read : goal.returns-in_err-read
returns-in_err-read g c =
    let p = err_from_is_err_and c.from_residual.result c.from_residual.ensures.1 in
    rw (p.1, p.2) (does_stop (does_stop (does_atom c.in_err-read.ensures)))

pub returns-in_err-layout : goal.returns-in_err-layout
returns-in_err-layout g c =
    let p = err_from_is_err_and c.from_residual-in_err-layout.result c.from_residual-in_err-layout.ensures.1 in
    rw (p.1, p.2) (does_stop (does_accessed c.in_ok-read.ensures (c.in_err-layout.ensures c.in_ok-read.ensures.object
    c.in_ok-read.ensures.there)))

pub returns-in_err-number : goal.returns-in_err-number
returns-in_err-number g c =
    let p = err_from_is_err_and c.from_residual-in_err-number.result c.from_residual-in_err-number.ensures.1 in
    rw (p.1, p.2) (does_then (does_accessed c.in_ok-read.ensures (c.in_ok-layout.ensures c.in_ok-read.ensures.object
    c.in_ok-read.ensures.there).does) (computes_stop _ c.in_err-number.ensures))

pub returns-in_err-place : goal.returns-in_err-place
returns-in_err-place g c =
    let p = err_from_is_err_and c.from_residual-in_err-place.result c.from_residual-in_err-place.ensures.1 in
    rw (p.1, p.2) (does_then (does_accessed c.in_ok-read.ensures (c.in_ok-layout.ensures c.in_ok-read.ensures.object
    c.in_ok-read.ensures.there).does) (computes_then c.in_ok-number.ensures (computes_stop _ (rw (
      to_z-of_z w64
          c.in_ok-number.number (search rules),
      c.size.ensures,
      size_is (c.in_ok-layout.ensures c.in_ok-read.ensures.object
          c.in_ok-read.ensures.there),
    ) at c.in_err-place.ensures.place))))

pub returns : goal.returns
returns g c =
    does_then (does_accessed c.in_ok-read.ensures (c.in_ok-layout.ensures c.in_ok-read.ensures.object
    c.in_ok-read.ensures.there).does) (computes_then c.in_ok-number.ensures (computes_then (rw (
      to_z-of_z w64
          c.in_ok-number.number (search rules),
      c.size.ensures,
      size_is (c.in_ok-layout.ensures c.in_ok-read.ensures.object
          c.in_ok-read.ensures.there),
    ) at c.in_ok-place.ensures.place) (element_found (c.in_ok-layout.ensures
    c.in_ok-read.ensures.object c.in_ok-read.ensures.there) _ (c.slot_at.ensures c.in_ok-read.ensures.object
    c.in_ok-read.ensures.there))))
