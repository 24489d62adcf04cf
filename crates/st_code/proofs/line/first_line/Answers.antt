use Rattle.std.proofs.Common.{arith}
use Rattle.st_code.proofs.Reading.{none_begins}
use Rattle.st_code.proofs.line.first_line.Goals as goal

pub returns-in_default : goal.returns-in_default
returns-in_default c =
    none_begins c.args.block c.args.at c.args.skip c.args.bytes.now c.requires.some (omega arith)
    (cc)
