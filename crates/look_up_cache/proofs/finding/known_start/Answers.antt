use Rattle.std.proofs.Common.{sym, subst, IfSome}
use Rattle.gem_object.specs.declared.value.Value.{Value}
use Rattle.look_up_cache.specs.Memory.{start_at, BeginsFor}
use Rattle.look_up_cache.proofs.finding.known_start.Goals as goal

pub returns-in-Ref : goal.returns-in-Ref
returns-in-Ref g c = λ seen holds.
    subst (λ (r : Value). IfSome c.object_start.result (λ start. BeginsFor r (start_at start) seen)) (sym c.in-Ref.is)
    (c.object_start.ensures seen holds.receivers)
