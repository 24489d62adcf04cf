use Rattle.std.proofs.Common.{sym, subst}
use Rattle.running_objects.specs.Seen.{Seen}
use Rattle.look_up_cache.specs.Memory.{IsKnown}
use Rattle.look_up_cache.proofs.Keeps.{chunk_known}
use Rattle.look_up_cache.proofs.objects.KnownObjectsRunsChunks.begin_chunk.Goals as goal

pub invariant_of-self : goal.invariant_of-self
invariant_of-self g c =
    subst (λ (seen : Seen). IsKnown g.T.MethodCodeKept.is_of c.self.inside.holds c.self.inside.memory seen)
    (sym c.begin_chunk.ensures)
    (chunk_known g.T.MethodCodeKept.is_of c.self.inside.holds c.self.inside.memory
    (g.O.Objects.seen c.self.inside.objects) c.self.invariant)
