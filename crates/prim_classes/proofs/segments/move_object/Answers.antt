use Rattle.prim_classes.proofs.Moves.{moved_stops, moved_then}
use Rattle.prim_classes.proofs.segments.move_object.Goals as goal

pub returns-in_err-check : goal.returns-in_err-check
returns-in_err-check g c = moved_stops c.args.name c.args.segment c.args.movable c.is_made-made.result c.may_move.result _ c.is_made-made.ensures
    c.may_move.ensures c.in_err-check.ensures c.from_residual.ensures.1

pub returns : goal.returns
returns g c = moved_then c.args.name c.args.segment c.args.movable c.is_made-made.result c.may_move.result _ c.is_made-made.ensures
    c.may_move.ensures c.in_ok-check.ensures c.move_to.ensures
