use Rattle.running_objects.specs.gem_world.Access.{a_read}
use Rattle.running_objects.specs.Seen.{Seen}
use Rattle.running_objects.specs.Acted.{Reached}
use Rattle.look_up_cache.specs.Memory.{founds}
use Rattle.look_up_cache.proofs.Keeps.{access_known, known_receivers, as_seen}
use Rattle.look_up_cache.proofs.AfterReads.{reached_known, still_ok}
use Rattle.look_up_cache.proofs.objects.KnownObjectsObjects.read.Goals as goal

pub invariant_of-self : goal.invariant_of-self
invariant_of-self g c =
    reached_known g.T.MethodCodeKept.is_of a_read c.args.oid c.still-self-inside.result c.self.inside.memory
    c.remember_read.new.memory (g.O.Objects.seen c.self.inside.objects) (g.O.Objects.seen c.read-result.new.self)
    c.read-result.result c.read-result.ensures
    (still_ok c.self.inside.holds c.still-self-inside.result c.read-result.result c.still-self-inside.ensures)
    (access_known g.T.MethodCodeKept.is_of c.self.inside.memory (g.O.Objects.seen c.self.inside.objects)
    (g.O.Objects.seen c.read-result.new.self) a_read c.args.oid c.self.inside.holds c.still-self-inside.result
    c.read-result.result c.still-self-inside.ensures c.read-result.ensures c.self.invariant)
    (c.remember_read.ensures.holds (g.O.Objects.seen c.self.inside.objects)) c.remember_read.ensures.methods

pub returns-then-is_calm : goal.returns-then-is_calm
returns-then-is_calm g c = as_seen g.O.Objects.seen (λ (seen : Seen). Reached a_read c.args.oid seen seen)
    c.self.inside.objects (founds c.self.inside.memory.methods.items) c.args.self.now c.self.view_is
    (c.is_calm.ensures (g.O.Objects.seen c.self.inside.objects)
    (known_receivers g.T.MethodCodeKept.is_of c.self.inside.holds c.self.inside.memory
    (g.O.Objects.seen c.self.inside.objects) c.self.invariant c.if-self.true) c.if-is_calm.true)
