use Rattle.std.proofs.Common.{◌≡◌, rules, false, pos}
use Rattle.std.specs.Int.{w64}
use Rattle.std.specs.Ordering.{int_eq}
use Rattle.std.proofs.lemmas.Int.{to_z-of_z}
use Rattle.prim_numbers.specs.Operations.{division_result}
use Rattle.prim_numbers.proofs.Computing.{divided_on}
use Rattle.prim_numbers.proofs.arithmetic.divide.Goals as goal

pub returns : goal.returns
returns c =
    let apart : int_eq c.args.divisor (pos 0) ≡ false = search rules in
    divided_on (division_result c.args.division) c.args.number c.args.divisor apart
    (rw (to_z-of_z w64 c.args.number c.ranges.number, to_z-of_z w64 c.args.divisor c.ranges.divisor) at c.divide_by.ensures)
