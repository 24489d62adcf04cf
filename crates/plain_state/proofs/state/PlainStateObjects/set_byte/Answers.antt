use Rattle.std.proofs.Common.{subst}
use Rattle.gem_object.specs.Edits.{with_byte}
use Rattle.plain_state.specs.Room.{SeenWithRoom}
use Rattle.running_objects.specs.Acted.{Edited}
use Rattle.plain_state.proofs.Sound.{edited_or_same}
use Rattle.plain_state.proofs.state.PlainStateObjects.set_byte.Goals as goal

pub invariant_of-self : goal.invariant_of-self
invariant_of-self c = edited_or_same c.args.oid (with_byte c.args.at c.args.byte) c.self.inside.parts.seen
    c.set_byte.new.self.seen c.set_byte.result c.self.invariant c.set_byte.ensures.edited c.set_byte.ensures.absent

pub returns : goal.returns
returns c = subst (λ (s : SeenWithRoom). Edited c.args.oid (with_byte c.args.at c.args.byte) s.seen c.set_byte.result c.set_byte.new.self.seen)
    c.self.view_is c.set_byte.ensures.edited
