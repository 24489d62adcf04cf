use Rattle.plain_state.specs.Parts.{asked}
use Rattle.plain_state.specs.Writes.{moved_to}
use Rattle.plain_state.proofs.OneStep.{moved_sound, asked_sound, either_sound}
use Rattle.plain_state.proofs.state.PlainState.change_segment.Goals as goal

pub invariant_of-self : goal.invariant_of-self
invariant_of-self c =
    let x = c.self.inside.parts.seen in
    either_sound c.change_segment.result c.change_segment.new.self.seen (moved_to c.args.oid c.args.segment x)
    (asked c.args.segment (asked c.args.oid x))
    c.change_segment.ensures.changed c.change_segment.ensures.asked
    (moved_sound x c.args.oid c.self.invariant c.args.segment (rw c.self.view_is c.requires.allowed)
    (rw c.self.view_is c.requires.changeable) (rw c.self.view_is c.requires.segment))
    (asked_sound (asked c.args.oid x) c.args.segment (asked_sound x c.args.oid c.self.invariant))
