use Rattle.prim_classes.proofs.Steps.{steps}
use Rattle.prim_classes.proofs.blocks.row_32.Goals as goal

pub returns-in_err-block : goal.returns-in_err-block
returns-in_err-block c = search (steps, c.block_in.ensures, c.in_err-block.ensures, c.from_residual.ensures.1)

pub returns-in_err-no_arguments : goal.returns-in_err-no_arguments
returns-in_err-no_arguments c = search (steps, c.block_in.ensures, c.in_ok-block.ensures, c.in_err-no_arguments.ensures, c.from_residual-in_err-no_arguments.ensures.1)
