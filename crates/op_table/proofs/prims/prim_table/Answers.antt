use Rattle.std.proofs.Common.{refl}
use Rattle.op_table.specs.Prims.{primitives}
use Rattle.op_table.proofs.prims.prim_table.Goals as goal

-- both sides compute to the same list
pub returns : goal.returns
unfolding primitives
returns c = refl
