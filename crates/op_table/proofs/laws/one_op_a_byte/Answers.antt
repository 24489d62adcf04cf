use Rattle.op_table.proofs.OpRows.{one_op}
use Rattle.op_table.proofs.laws.one_op_a_byte.Goals as goal

pub returns : goal.returns
returns c = one_op
