use Rattle.prim_parts.proofs.Does.{does_exit}
use Rattle.prim_parts.proofs.kinds.check_kind.Goals as goal

pub returns-in_err-is_one : goal.returns-in_err-is_one
returns-in_err-is_one g c =
    does_exit c.from_residual.result c.from_residual.ensures.1 c.in_err-is_one.ensures
