use Rattle.std.proofs.Common.{arith}
use Rattle.list_stack.proofs.Cuts.{next_higher}
use Rattle.list_stack.proofs.stack.place_of.Goals as goal

pub overflow_sub-end_of : goal.overflow_sub-end_of
overflow_sub-end_of c = omega (arith, c.end_of.ensures, next_higher c.args.starts.now c.args.size c.args.list 0 c.requires (omega arith))
