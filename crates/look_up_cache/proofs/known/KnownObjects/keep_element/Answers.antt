use Rattle.std.proofs.Common.{sym, subst}
use Rattle.running_objects.specs.Seen.{Seen}
use Rattle.look_up_cache.specs.Table.{AllHeld}
use Rattle.look_up_cache.specs.Memory.{Holds, IsCoded}
use Rattle.look_up_cache.proofs.Keeps.{where_still}
use Rattle.look_up_cache.proofs.known.KnownObjects.keep_element.Goals as goal

pub invariant_of-self : goal.invariant_of-self
invariant_of-self g c =
    let seen : Seen = g.O.Objects.seen c.self.inside.objects in
    record {
      holds = where_still c.self.inside.holds (Holds c.self.inside.memory seen) (Holds c.remember_element.new.memory seen)
          (c.remember_element.ensures.holds seen) c.self.invariant.holds;
      coded = subst (λ methods. AllHeld (IsCoded g.T.MethodCodeKept.is_of) methods) (sym c.remember_element.ensures.methods)
          c.self.invariant.coded;
    }
