use Rattle.std.proofs.Common.{arith}
use Rattle.std.proofs.lemmas.Result.{err_from_is_err_and}
use Rattle.list_stack.proofs.Moving.{one_popped, one_lost, popped_begins, some_left}
use Rattle.list_stack.proofs.stack.pop_onto.Goals as goal

pub unreachable-requires : goal.unreachable-requires
unreachable-requires g c =
    let some = some_left c.loop-item.invariant c.loop-item-test.true c.requires in omega (arith, some, c.in_default.ensures.cases.0)

pub returns-in_err-push-clause-begins : goal.returns-in_err-push-clause-begins
returns-in_err-push-clause-begins g c = rw c.in_err-push.ensures.items (popped_begins c.loop-item.invariant)

pub returns-in_err-push-clause-left : goal.returns-in_err-push-clause-left
returns-in_err-push-clause-left g c =
    let p = err_from_is_err_and c.from_residual.result c.from_residual.ensures.1 in
    rw p.1 (one_lost c.in-Some.item c.in-Some.ensures.items c.loop-item-test.true c.loop-item.invariant)

pub loop-item-preserved : goal.loop-item-preserved
loop-item-preserved g c = one_popped c.in-Some.item c.in-Some.ensures.items c.in_ok-push.ensures.items c.loop-item.invariant

pub returns-clause-begins : goal.returns-clause-begins
returns-clause-begins g c = popped_begins c.loop-item.invariant
