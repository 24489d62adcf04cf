use Rattle.std.proofs.Common.{◌<◌, length, arith}
use Rattle.std.proofs.lemmas.Grind.{common_steps}
use Rattle.list_stack.proofs.Grows.{length-with_last}
use Rattle.shelves_tests.proofs.list_stack_tests.open_pair.Goals as goal

-- what was pushed on is no fewer lists
pub push-requires-2 : goal.push-requires-2
push-requires-2 c =
    let some : 0 < length c.open.new.self = grind (arith, common_steps) in
    rw (c.in_ok-push.ensures.pushed, length-with_last c.open.new.self c.args.first) some
