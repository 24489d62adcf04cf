use Rattle.look_up_cache.specs.Memory.{founds}
use Rattle.look_up_cache.proofs.Again.{code_known, as_founds}
use Rattle.look_up_cache.proofs.known.KnownObjects.code.Goals as goal

pub returns : goal.returns
returns g c = code_known g.T.MethodCodeKept.is_of c.self.inside.memory.methods.items c.args.at c.in_ok-held_at.field-0.now
    c.args.self.now.1 c.as_ref.result
    (as_founds c.self.inside.objects (founds c.self.inside.memory.methods.items) c.args.self.now c.self.view_is)
    c.in_ok-held_at.ensures c.as_ref.ensures.value c.self.invariant.coded
