use Rattle.running_objects.specs.Seen.{Seen}
use Rattle.running_objects.specs.Acted.{Edited}
use Rattle.look_up_cache.specs.Memory.{founds}
use Rattle.gem_object.specs.Edits.{with_value_at}
use Rattle.look_up_cache.proofs.Keeps.{as_seen, edit_known}
use Rattle.look_up_cache.proofs.Edits.{with_value_at_lasts}
use Rattle.look_up_cache.proofs.objects.KnownObjectsObjects.put_at.Goals as goal

pub invariant_of-self : goal.invariant_of-self
invariant_of-self g c = edit_known g.T.MethodCodeKept.is_of c.self.inside.memory
    (g.O.Objects.seen c.self.inside.objects) (g.O.Objects.seen c.put_at-result.new.self)
    c.args.oid (with_value_at c.args.key c.args.value) (with_value_at_lasts c.args.key c.args.value) c.self.inside.holds c.is_there-held.result c.still-self-inside.result
    c.put_at-result.result c.is_there-held.ensures.held c.is_there-held.ensures.there c.still-self-inside.ensures c.put_at-result.ensures c.self.invariant

pub returns : goal.returns
returns g c = as_seen g.O.Objects.seen (λ (before : Seen). Edited c.args.oid (with_value_at c.args.key c.args.value) before c.put_at-result.result
    (g.O.Objects.seen c.put_at-result.new.self)) c.self.inside.objects (founds c.self.inside.memory.methods.items)
    c.args.self.now c.self.view_is c.put_at-result.ensures
