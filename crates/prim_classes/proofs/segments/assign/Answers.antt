use Rattle.prim_classes.proofs.Moves.{assign_other}
use Rattle.prim_classes.proofs.segments.assign.Goals as goal

pub returns-in_default : goal.returns-in_default
returns-in_default g c = assign_other c.args.receiver.now c.args.argument.now c.in_default.not-Ref c.assign_value.ensures
