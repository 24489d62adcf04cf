use Rattle.std.specs.Prelude.{refl}
use Rattle.object_programs.specs.op_table.Prims.{primitives}
use Rattle.prim_rules.proofs.laws.rules_by_number.Goals as goal

pub returns : goal.returns
unfolding primitives
returns c = refl
