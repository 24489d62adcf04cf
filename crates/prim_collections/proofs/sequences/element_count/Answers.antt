use Rattle.prim_parts.proofs.Does.{does_then, does_stop, does_give, does_atom}
use Rattle.prim_collections.proofs.Rows.{does_accessed}
use Rattle.std.proofs.lemmas.Result.{err_from_is_err_and}
use Rattle.prim_collections.proofs.Layouts.{size_is}
use Rattle.prim_collections.proofs.sequences.element_count.Goals as goal

pub returns-in_err-read : goal.returns-in_err-read
returns-in_err-read g c =
    let p = err_from_is_err_and c.from_residual.result c.from_residual.ensures.1 in
    rw (p.1, p.2) (does_stop (does_stop (does_atom c.in_err-read.ensures)))

pub returns-in_err-layout : goal.returns-in_err-layout
returns-in_err-layout g c =
    let p = err_from_is_err_and c.from_residual-in_err-layout.result c.from_residual-in_err-layout.ensures.1 in
    rw (p.1, p.2) (does_stop (does_accessed c.in_ok-read.ensures (c.in_err-layout.ensures c.in_ok-read.ensures.object
    c.in_ok-read.ensures.there)))

pub returns : goal.returns
returns g c =
    does_then (does_accessed c.in_ok-read.ensures (c.in_ok-layout.ensures c.in_ok-read.ensures.object
    c.in_ok-read.ensures.there).does) (rw (
      c.in_ok-size_of.ensures,
      c.size.ensures,
      size_is (c.in_ok-layout.ensures
          c.in_ok-read.ensures.object c.in_ok-read.ensures.there),
    ) (does_give _ _))
