use Rattle.std.proofs.Common.{◌≡◌, true, List, length, subst, arith}
use Rattle.st_code.specs.declared.blocks.BlockCode.{BlockCode}
use Rattle.st_code.specs.Lines.{ascend}
use Rattle.st_code.proofs.Reading.{ends_above, ends_within}
use Rattle.st_code.proofs.line.read_lines.Goals as goal

pub part_of-part-requires-clause-above : goal.part_of-part-requires-clause-above
part_of-part-requires-clause-above c =
    let size = length c.args.bytes.now in
    let ascends = subst (λ (r : List BlockCode). ascend size r ≡ true) c.in-Some.ensures.cases.0 c.loop-block.invariant.ascend in
    let here = ends_above size c.in-Some.block.now c.in-Some.later.now ascends in
    omega (arith, here.0, c.end_of-end.ensures)

pub part_of-part-requires-clause-within : goal.part_of-part-requires-clause-within
part_of-part-requires-clause-within c =
    let size = length c.args.bytes.now in
    let ascends = subst (λ (r : List BlockCode). ascend size r ≡ true) c.in-Some.ensures.cases.0 c.loop-block.invariant.ascend in
    let here = ends_above size c.in-Some.block.now c.in-Some.later.now ascends in
    omega (arith, ends_within size c.in-Some.later.now here.1, c.end_of-end.ensures)
