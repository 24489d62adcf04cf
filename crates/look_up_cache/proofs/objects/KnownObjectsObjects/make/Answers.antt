use Rattle.running_objects.specs.Seen.{Seen}
use Rattle.running_objects.specs.Acted.{Made}
use Rattle.look_up_cache.specs.Memory.{founds}
use Rattle.look_up_cache.proofs.Keeps.{as_seen, made_known}
use Rattle.look_up_cache.proofs.objects.KnownObjectsObjects.make.Goals as goal

pub invariant_of-self : goal.invariant_of-self
invariant_of-self g c = made_known g.T.MethodCodeKept.is_of c.self.inside.memory
    (g.O.Objects.seen c.self.inside.objects) (g.O.Objects.seen c.make-result.new.self)
    c.args.objects.items c.sound.ensures c.self.inside.holds c.still-self-inside.result c.make-result.result c.still-self-inside.ensures c.make-result.ensures c.self.invariant

pub returns : goal.returns
returns g c = as_seen g.O.Objects.seen (λ (before : Seen). Made c.args.objects.items before c.make-result.result
    (g.O.Objects.seen c.make-result.new.self)) c.self.inside.objects (founds c.self.inside.memory.methods.items)
    c.args.self.now c.self.view_is c.make-result.ensures
