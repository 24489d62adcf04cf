use Rattle.st_machine.proofs.Evaluated.{evaluates}
use Rattle.st_machine.proofs.blocks.block_called.Goals as goal

pub returns : goal.returns
returns c =
    evaluates c.args.number c.args.count c.args.receiver.now c.in-Block.block c.in-Block.is c.if-count-gt3.false
    c.if-number-count.false c.if-block-count.false
