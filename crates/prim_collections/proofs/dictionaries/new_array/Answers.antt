use Rattle.prim_parts.proofs.Does.{does_then, does_stop, does_give}
use Rattle.std.proofs.lemmas.Result.{err_from_is_err_and}
use Rattle.prim_collections.proofs.dictionaries.new_array.Goals as goal

pub returns-in_err-array : goal.returns-in_err-array
returns-in_err-array g c =
    let p = err_from_is_err_and c.from_residual.result c.from_residual.ensures.1 in
    rw (p.1, p.2) (does_stop (rw (c.kernel_name.ensures, c.of.ensures) at c.in_err-array.ensures))

pub returns : goal.returns
returns g c = does_then (rw (c.kernel_name.ensures, c.of.ensures) at c.in_ok-array.ensures) (does_give _ _)
