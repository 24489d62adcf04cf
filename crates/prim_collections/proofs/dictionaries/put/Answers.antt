use Rattle.prim_parts.proofs.Does.{does_then, does_stop, does_give}
use Rattle.std.proofs.lemmas.Result.{err_from_is_err_and}
use Rattle.prim_collections.proofs.dictionaries.put.Goals as goal

pub returns-in_err-put_pair : goal.returns-in_err-put_pair
returns-in_err-put_pair g c = λ object there.
    let p = err_from_is_err_and c.from_residual-in_err-put_pair.result c.from_residual-in_err-put_pair.ensures.1 in
    rw (p.1, p.2) (does_stop (rw (c.in_ok-put_key.ensures.cases, c.in_ok-put_value.ensures.cases) at
    (c.in_err-put_pair.ensures object there)))

pub returns : goal.returns
returns g c = λ object there. does_then
    (rw (c.in_ok-put_key.ensures.cases, c.in_ok-put_value.ensures.cases) at (c.in_ok-put_pair.ensures object there))
    (rw c.in_ok-clone.ensures.cases (does_give _ _))
