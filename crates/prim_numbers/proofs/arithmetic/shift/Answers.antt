use Rattle.std.proofs.Common.{◌∙◌, rules}
use Rattle.std.specs.Int.{w64, w128}
use Rattle.std.specs.Prelude.{FitsSigned}
use Rattle.std.proofs.lemmas.Int.{to_z-of_z}
use Rattle.prim_numbers.proofs.Computing.{in_range_same}
use Rattle.prim_numbers.proofs.arithmetic.shift.Goals as goal

pub returns : goal.returns
returns c =
    let fits : FitsSigned w128 c.shifted.result = search rules in
    let is = rw (to_z-of_z w64 c.args.number c.ranges.number, to_z-of_z w64 c.args.count c.ranges.count) at c.shifted.ensures in
    in_range_same _ _ (to_z-of_z w128 c.shifted.result fits ∙ is) c.in_range.ensures
