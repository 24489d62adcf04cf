use Rattle.prim_rules.specs.Parts.{default_segment}
use Rattle.prim_parts.proofs.Does.{does_exit, does_atom, does_who, does_reached, does_compute}
use Rattle.prim_parts.proofs.making.default_segment.Goals as goal

pub returns-in_err-read : goal.returns-in_err-read
unfolding default_segment
returns-in_err-read g c =
    does_who c.user-user.result c.user-user.ensures
    (does_exit c.from_residual.result c.from_residual.ensures.1 (does_atom c.in_err-read.ensures))

pub returns : goal.returns
unfolding default_segment
returns g c = does_who c.user-user.result c.user-user.ensures
    (does_reached c.in_ok-read.ensures c.in-Some.ensures (does_compute (g.O.Objects.seen c.read.new.self) c.segment_in.ensures))
