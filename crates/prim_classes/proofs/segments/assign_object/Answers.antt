use Rattle.prim_parts.proofs.Does.{does_then, does_reached, does_exit}
use Rattle.gem_image.specs.Image.{contents_of}
use Rattle.prim_classes.proofs.Moves.{move_then}
use Rattle.prim_classes.proofs.segments.assign_object.Goals as goal

pub returns-in_err-segment : goal.returns-in_err-segment
returns-in_err-segment g c = does_reached c.in_ok-write.ensures c.in-Some.ensures (does_exit _ c.from_residual-in_err-segment.ensures.1
    c.in_err-segment.ensures)

pub returns-in_err-check_segment : goal.returns-in_err-check_segment
returns-in_err-check_segment g c = does_reached c.in_ok-write.ensures c.in-Some.ensures (does_then c.in_ok-segment.ensures
    (does_exit _ c.from_residual-in_err-check_segment.ensures.1 c.in_err-check_segment.ensures))

pub returns : goal.returns
returns g c = does_reached c.in_ok-write.ensures c.in-Some.ensures (does_then c.in_ok-segment.ensures (does_then c.in_ok-check_segment.ensures
    (move_then c.args.name c.in_ok-segment.segment c.movable_by-movable.result (contents_of c.in-Some.object.now)
    c.movable_by-movable.ensures c.move_object.ensures)))
