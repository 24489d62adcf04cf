use Rattle.gem_image.specs.Image.{contents_of}
use Rattle.plain_state.proofs.Updated.{changes_updated}
use Rattle.plain_state.proofs.entry.Entry.update.Goals as goal

pub invariant_of-self-2 : goal.invariant_of-self-2
invariant_of-self-2 c = c.bytes_after-self-inside.ensures c.self.inside.object.body
    (changes_updated c.in-Some.change c.args.update (contents_of c.self.inside.object) (contents_of c.take_update.new.object)
    (rw c.in-Some.is at c.body_updated.ensures) c.in_ok-taken.ensures.updated)
    c.self.invariant
