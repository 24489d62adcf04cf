use Rattle.look_up_cache.specs.Memory.{IsCoded}
use Rattle.look_up_cache.proofs.Places.{none_in_empty, none_held}
use Rattle.look_up_cache.proofs.known.KnownObjects.new.Goals as goal

pub invariant_of-result : goal.invariant_of-result
invariant_of-result g c = record {
  holds = tt;
  coded = none_held (IsCoded g.T.MethodCodeKept.is_of) c.empty-memory.result.methods.items
      (none_in_empty c.empty-memory.result.methods.items c.empty-memory.ensures.methods);
}
