use Rattle.gem_image.specs.Image.{contents_of}
use Rattle.plain_state.specs.AtHand.{over}
use Rattle.plain_state.proofs.AtHand.{spots_put}
use Rattle.plain_state.proofs.shown.Shown.put.Goals as goal

pub invariant_of-self-2 : goal.invariant_of-self-2
invariant_of-self-2 c = rw c.in_ok-at.ensures.put
    (spots_put (over c.self.inside.place c.self.inside.view c.self.inside.changes) c.self.inside.hand c.keep.new.self
    c.args.number c.in_ok-at.at (contents_of c.args.object) c.self.invariant c.keep.ensures)
