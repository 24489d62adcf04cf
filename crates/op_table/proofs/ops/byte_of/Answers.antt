use Rattle.std.proofs.Common.{ap}
use Rattle.op_table.proofs.OpRows.{get_or-tag}
use Rattle.op_table.specs.declared.ops.Row.{Row}
use Rattle.op_table.proofs.ops.byte_of.Goals as goal

pub returns : goal.returns
returns c = rw (c.op_table.ensures) (ap (λ (row : Row). row.byte) (get_or-tag c.args.op _))
