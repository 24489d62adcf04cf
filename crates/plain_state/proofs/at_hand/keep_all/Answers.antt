use Rattle.std.proofs.Common.{◌+◌, arith}
use Rattle.plain_state.specs.AtHand.{spot_at}
use Rattle.plain_state.proofs.AtHand.{left_more}
use Rattle.plain_state.proofs.at_hand.keep_all.Goals as goal

pub loop-step-preserved : goal.loop-step-preserved
loop-step-preserved c = λ other kept is. left_more c.args.first (c.args.first + c.loop-step.step)
    (c.args.first + (c.loop-step.step + 1)) other c.saturating_add.result kept (spot_at c.args.hand.now other)
    (spot_at c.loop-step.hand other) (omega arith) (c.renew.ensures other kept is) (c.loop-step.invariant other)
