use Rattle.prim_parts.proofs.Does.{computes_then, computes_stop, known_then}
use Rattle.std.proofs.lemmas.Result.{err_from_is_err_and, on_ok_weaker}
use Rattle.std.proofs.Common.{◌∙◌}
use Rattle.prim_collections.proofs.Joined.{known_same}
use Rattle.prim_collections.proofs.copies.sequence_argument.Goals as goal

pub returns-in_err-name-clause-does : goal.returns-in_err-name-clause-does
returns-in_err-name-clause-does g c =
    let p = err_from_is_err_and c.from_residual.result c.from_residual.ensures.1 in
    rw (p.1, p.2) (computes_stop _ c.in_err-name.ensures)

pub returns-clause-does : goal.returns-clause-does
returns-clause-does g c = computes_then c.in_ok-name.ensures (known_then c.in_ok-know.ensures c.in-Some.ensures
    c.indexed.ensures.does)

pub returns-clause-same : goal.returns-clause-same
returns-clause-same g c = on_ok_weaker c.indexed.result (λ same name. same name ∙ known_same c.in_ok-know.ensures name)
    c.indexed.ensures.same
