use Rattle.std.proofs.Common.{subst}
use Rattle.gem_object.specs.declared.value.Value.{Value}
use Rattle.look_up_cache.specs.Memory.{start_at, BeginsFor}
use Rattle.look_up_cache.proofs.finding.remember_receiver.Goals as goal

pub returns-in-Ref : goal.returns-in-Ref
returns-in-Ref c = λ seen begins all. c.meet_object.ensures seen
    (subst (λ (r : Value). BeginsFor r (start_at c.args.start.now) seen) c.in-Ref.is begins) all
