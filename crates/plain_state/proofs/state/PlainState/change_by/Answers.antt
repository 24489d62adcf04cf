use Rattle.plain_state.specs.Parts.{asked}
use Rattle.plain_state.specs.Writes.{updated_to}
use Rattle.plain_state.proofs.OneStep.{updated_sound, asked_sound, either_sound}
use Rattle.plain_state.proofs.state.PlainState.change_by.Goals as goal

pub invariant_of-self : goal.invariant_of-self
invariant_of-self c =
    let x = c.self.inside.parts.seen in
    either_sound c.change_by.result c.change_by.new.self.seen (updated_to c.args.oid c.args.update c.args.body x) (asked c.args.oid x)
    c.change_by.ensures.changed c.change_by.ensures.asked
    (updated_sound x c.args.oid c.self.invariant c.args.update c.args.body (rw c.self.view_is c.requires.allowed)
    (rw c.self.view_is c.requires.update) (rw c.self.view_is c.requires.fits))
    (asked_sound x c.args.oid c.self.invariant)
