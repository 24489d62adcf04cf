use Rattle.prim_parts.proofs.Does.{does_then, does_stop, does_atom}
use Rattle.prim_collections.proofs.Rows.{does_accessed}
use Rattle.std.proofs.lemmas.Result.{err_from_is_err_and}
use Rattle.prim_collections.proofs.Layouts.{first_taken}
use Rattle.prim_collections.proofs.sequences.first_removed.Goals as goal

pub returns-in_err-write : goal.returns-in_err-write
returns-in_err-write g c =
    let p = err_from_is_err_and c.from_residual.result c.from_residual.ensures.1 in
    rw (p.1, p.2) (does_stop (does_atom c.in_err-write.ensures))

pub returns-in_err-layout : goal.returns-in_err-layout
returns-in_err-layout g c =
    let p = err_from_is_err_and c.from_residual-in_err-layout.result c.from_residual-in_err-layout.ensures.1 in
    rw (p.1, p.2) (does_accessed c.in_ok-write.ensures (does_stop (c.in_err-layout.ensures c.in_ok-write.ensures.object
    c.in_ok-write.ensures.there)))

pub returns : goal.returns
returns g c =
    does_accessed c.in_ok-write.ensures (does_then (c.in_ok-layout.ensures c.in_ok-write.ensures.object
    c.in_ok-write.ensures.there).does (first_taken (c.in_ok-layout.ensures c.in_ok-write.ensures.object
    c.in_ok-write.ensures.there) _ (c.take_slot.ensures c.in_ok-write.ensures.object c.in_ok-write.ensures.there)))
