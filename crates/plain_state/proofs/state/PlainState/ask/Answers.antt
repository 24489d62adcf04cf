use Rattle.plain_state.proofs.OneStep.{asked_sound}
use Rattle.plain_state.proofs.state.PlainState.ask.Goals as goal

pub invariant_of-self : goal.invariant_of-self
invariant_of-self c = rw c.ask_within.ensures.asked (asked_sound c.self.inside.parts.seen c.args.oid c.self.invariant)
