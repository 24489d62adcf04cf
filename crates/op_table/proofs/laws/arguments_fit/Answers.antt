use Rattle.op_table.proofs.PrimRows as rows
use Rattle.op_table.proofs.laws.arguments_fit.Goals as goal

pub returns : goal.returns
returns c = rows.arguments_fit
