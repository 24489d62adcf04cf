use Rattle.plain_state.proofs.InTurn.{one_more}
use Rattle.plain_state.proofs.many.insert_all.Goals as goal

pub loop-object-preserved : goal.loop-object-preserved
loop-object-preserved c = one_more _ _ _ _ _ _ _ c.in-Some.object _ _ _ c.loop-object.invariant
    c.in-Some.ensures.steps.0 c.insert.ensures.entries c.insert.ensures.room
