use Rattle.std.proofs.Common.{refl}
use Rattle.op_table.specs.Ops.{op_rows}
use Rattle.op_table.proofs.ops.op_table.Goals as goal

-- both sides compute to the same list
pub returns : goal.returns
unfolding op_rows
returns c = refl
