use Rattle.prim_parts.proofs.Does.{does_then, does_exit, does_atom, does_who, does_give}
use Rattle.prim_classes.proofs.Created.{segment_objects, segment_contents}
use Rattle.prim_classes.proofs.creation.new_segment.Goals as goal

pub returns-in_err-name : goal.returns-in_err-name
returns-in_err-name g c = does_who c.user-user.result c.user-user.ensures (does_exit _ c.from_residual-in_err-name.ensures.1
    (does_atom (c.in_err-name.ensures _ (segment_objects c.args.class c.user-user.result c.in-Some.name _ _ c.in_ok-vec.field-0.items c.in_ok-vec.ensures.items
    (segment_contents c.args.class c.user-user.result c.in-Some.name c.own_rights.ensures) c.in-Some.ensures.1))))

pub returns : goal.returns
returns g c = does_who c.user-user.result c.user-user.ensures (does_then (does_atom (c.in_ok-name.ensures _ (segment_objects c.args.class c.user-user.result c.in-Some.name _ _ c.in_ok-vec.field-0.items c.in_ok-vec.ensures.items
    (segment_contents c.args.class c.user-user.result c.in-Some.name c.own_rights.ensures) c.in-Some.ensures.1))) (does_give _ _))
