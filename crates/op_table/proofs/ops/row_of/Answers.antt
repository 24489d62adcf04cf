use Rattle.op_table.proofs.OpRows.{row_at-place, row_at-Some, row_at-None}
use Rattle.op_table.proofs.ops.row_of.Goals as goal

pub returns-clause-value : goal.returns-clause-value
returns-clause-value c = rw (row_at-place, c.row_in.ensures, c.op_table.ensures, c.from.ensures)

pub returns-clause-found : goal.returns-clause-found
returns-clause-found c = rw (returns-clause-value c) (row_at-Some c.args.byte)

pub returns-clause-none : goal.returns-clause-none
returns-clause-none c = rw (returns-clause-value c) (row_at-None c.args.byte)
