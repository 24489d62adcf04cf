use Rattle.std.proofs.Common.{subst}
use Rattle.gem_object.specs.Edits.{with_value_at}
use Rattle.plain_state.specs.Room.{SeenWithRoom}
use Rattle.running_objects.specs.Acted.{Edited}
use Rattle.plain_state.proofs.Sound.{edited_or_same}
use Rattle.plain_state.proofs.state.PlainStateObjects.put_at.Goals as goal

pub invariant_of-self : goal.invariant_of-self
invariant_of-self c = edited_or_same c.args.oid (with_value_at c.args.key c.args.value) c.self.inside.parts.seen
    c.put_at.new.self.seen c.put_at.result c.self.invariant c.put_at.ensures.edited c.put_at.ensures.absent

pub returns : goal.returns
returns c = subst (λ (s : SeenWithRoom). Edited c.args.oid (with_value_at c.args.key c.args.value) s.seen c.put_at.result c.put_at.new.self.seen)
    c.self.view_is c.put_at.ensures.edited
