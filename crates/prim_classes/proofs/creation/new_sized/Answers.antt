use Rattle.prim_parts.proofs.Does.{does_reached}
use Rattle.prim_classes.proofs.Created.{class_then, sized_then}
use Rattle.prim_classes.proofs.creation.new_sized.Goals as goal

pub returns : goal.returns
returns g c = does_reached c.in_ok-read.ensures c.in-Some.ensures (class_then c.in-Some.object.now.body c.in-Class.found c.in-Class.is
    (sized_then c.in-Class.found.kind c.in-Some-sized_kind.kind c.args.class c.args.argument.now c.in-Some-sized_kind.ensures
    c.new_elements.ensures))
