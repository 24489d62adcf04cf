use Rattle.plain_state.specs.Parts.{asked}
use Rattle.plain_state.specs.Writes.{changed_to}
use Rattle.plain_state.proofs.OneStep.{changed_sound, asked_sound, either_sound}
use Rattle.plain_state.proofs.state.PlainState.change_body.Goals as goal

pub invariant_of-self : goal.invariant_of-self
invariant_of-self c =
    let x = c.self.inside.parts.seen in
    either_sound c.change_body.result c.change_body.new.self.seen (changed_to c.args.oid c.args.body x) (asked c.args.oid x)
    c.change_body.ensures.changed c.change_body.ensures.asked
    (changed_sound x c.args.oid c.self.invariant c.args.body (rw c.self.view_is c.requires.allowed)
    (rw c.self.view_is c.requires.changeable) (rw c.self.view_is c.requires.fits))
    (asked_sound x c.args.oid c.self.invariant)
