use Rattle.std.proofs.Common.{sym, ◌∙◌}
use Rattle.prim_parts.proofs.Does.{does_reached}
use Rattle.prim_classes.proofs.Copied.{copied_then}
use Rattle.prim_classes.proofs.any.copy_of_object.Goals as goal

pub returns : goal.returns
returns g c = does_reached c.in_ok-read.ensures c.in-Some.ensures (copied_then _ c.in-Some.object.now.class c.in-Some-2.body
    c.in-Some.object.now.body (sym c.in-Some-2.is ∙ c.in_ok-body.ensures.copy) c.new_object.ensures)
