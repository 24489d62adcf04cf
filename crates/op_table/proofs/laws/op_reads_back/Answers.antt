use Rattle.op_table.proofs.OpRows.{row_for-op, row_at-byte}
use Rattle.op_table.proofs.laws.op_reads_back.Goals as goal

pub returns-clause-own : goal.returns-clause-own
returns-clause-own c = row_for-op

pub returns-clause-back : goal.returns-clause-back
returns-clause-back c = row_at-byte
