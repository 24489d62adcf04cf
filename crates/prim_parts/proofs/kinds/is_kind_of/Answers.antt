use Rattle.prim_rules.specs.Parts.{is_kind_of}
use Rattle.prim_parts.proofs.Does.{does_then, does_exit}
use Rattle.prim_parts.proofs.kinds.is_kind_of.Goals as goal

pub returns-in_err-own : goal.returns-in_err-own
unfolding is_kind_of
returns-in_err-own g c =
    does_exit c.from_residual.result c.from_residual.ensures.1 c.in_err-own.ensures.does

pub returns : goal.returns
unfolding is_kind_of
returns g c = does_then c.in_ok-own.ensures.does c.is_under.ensures
