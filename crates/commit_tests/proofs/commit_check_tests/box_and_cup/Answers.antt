use Rattle.std.proofs.Common.{arith}
use Rattle.commit_tests.proofs.Samples.{two_ascend}
use Rattle.commit_tests.proofs.commit_check_tests.box_and_cup.Goals as goal

pub of-requires : goal.of-requires
of-requires c =
    let first = c.name.ensures.number in
    let second = c.name-2.ensures.number in
    two_ascend c.in_ok-vec.field-0.items c.name.result c.name-2.result c.in_ok-vec.ensures.items (omega (arith, first, second))
