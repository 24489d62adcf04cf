use Rattle.gem_image.specs.Image.{contents_of}
use Rattle.plain_state.specs.Writes.{added}
use Rattle.plain_state.proofs.OneStep.{added_sound, either_sound}
use Rattle.plain_state.proofs.state.PlainState.add.Goals as goal

pub invariant_of-self : goal.invariant_of-self
invariant_of-self c =
    let x = c.self.inside.parts.seen in
    either_sound c.add.result c.add.new.self.seen (added (contents_of c.args.object) x) x
    c.add.ensures.added c.add.ensures.unchanged
    (added_sound x (contents_of c.args.object) c.self.invariant (rw c.self.view_is c.requires.name)
    c.requires.limits (rw c.self.view_is c.requires.fits)) c.self.invariant
