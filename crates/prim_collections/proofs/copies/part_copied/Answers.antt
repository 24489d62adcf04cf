use Rattle.prim_parts.proofs.Does.{does_then, does_stop, does_atom, computes_then, computes_stop}
use Rattle.prim_collections.proofs.Rows.{does_accessed}
use Rattle.std.proofs.lemmas.Result.{err_from_is_err_and}
use Rattle.std.proofs.lemmas.Int.{to_z-of_z}
use Rattle.std.proofs.Common.{rules, w64}
use Rattle.prim_collections.proofs.copies.part_copied.Goals as goal

pub returns-in_err-read : goal.returns-in_err-read
returns-in_err-read g c =
    let p = err_from_is_err_and c.from_residual.result c.from_residual.ensures.1 in
    rw (p.1, p.2) (does_stop (does_atom c.in_err-read.ensures))

pub returns-in_err-layout : goal.returns-in_err-layout
returns-in_err-layout g c =
    let p = err_from_is_err_and c.from_residual-in_err-layout.result c.from_residual-in_err-layout.ensures.1 in
    rw (p.1, p.2) (does_accessed c.in_ok-read.ensures (does_stop (c.in_err-layout.ensures c.in_ok-read.ensures.object
    c.in_ok-read.ensures.there)))

pub returns-in_err-first : goal.returns-in_err-first
returns-in_err-first g c =
    let p = err_from_is_err_and c.from_residual-in_err-first.result c.from_residual-in_err-first.ensures.1 in
    rw (p.1, p.2) (does_accessed c.in_ok-read.ensures (does_then (c.in_ok-layout.ensures c.in_ok-read.ensures.object
    c.in_ok-read.ensures.there).does (computes_stop _ c.in_err-first.ensures)))

pub returns-in_err-last : goal.returns-in_err-last
returns-in_err-last g c =
    let p = err_from_is_err_and c.from_residual-in_err-last.result c.from_residual-in_err-last.ensures.1 in
    rw (p.1, p.2) (does_accessed c.in_ok-read.ensures (does_then (c.in_ok-layout.ensures c.in_ok-read.ensures.object
    c.in_ok-read.ensures.there).does (computes_then c.in_ok-first.ensures (computes_stop _ c.in_err-last.ensures))))

pub returns-in_err-part : goal.returns-in_err-part
returns-in_err-part g c =
    let p = err_from_is_err_and c.from_residual-in_err-part.result c.from_residual-in_err-part.ensures.1 in
    rw (p.1, p.2) (does_accessed c.in_ok-read.ensures (does_then (c.in_ok-layout.ensures c.in_ok-read.ensures.object
    c.in_ok-read.ensures.there).does (computes_then c.in_ok-first.ensures (computes_then c.in_ok-last.ensures
    (computes_stop _ (rw (
      to_z-of_z w64 c.in_ok-first.first (search rules),
      to_z-of_z w64 c.in_ok-last.last
          (search rules),
      c.elements_at.ensures c.in_ok-read.ensures.object (c.in_ok-layout.ensures c.in_ok-read.ensures.object
          c.in_ok-read.ensures.there).slots c.in_ok-read.ensures.there (c.in_ok-layout.ensures c.in_ok-read.ensures.object
          c.in_ok-read.ensures.there).are,
    ) at c.in_err-part.ensures))))))

pub returns : goal.returns
returns g c =
    does_accessed c.in_ok-read.ensures (does_then (c.in_ok-layout.ensures c.in_ok-read.ensures.object
    c.in_ok-read.ensures.there).does (computes_then c.in_ok-first.ensures (computes_then c.in_ok-last.ensures
    (computes_then (rw (
      to_z-of_z w64 c.in_ok-first.first (search rules),
      to_z-of_z w64 c.in_ok-last.last (search rules),
      c.elements_at.ensures c.in_ok-read.ensures.object (c.in_ok-layout.ensures c.in_ok-read.ensures.object
          c.in_ok-read.ensures.there).slots c.in_ok-read.ensures.there (c.in_ok-layout.ensures c.in_ok-read.ensures.object
          c.in_ok-read.ensures.there).are,
    ) at c.in_ok-part.ensures) (rw (
      c.class_at-class.ensures.class
          c.in_ok-read.ensures.object c.in_ok-read.ensures.there,
      c.in_ok-elements.ensures,
    ) at c.new_sequence.ensures)))))
