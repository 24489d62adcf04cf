use Rattle.running_objects.specs.Seen.{Seen}
use Rattle.look_up_cache.specs.Memory.{founds, Holds}
use Rattle.look_up_cache.specs.Operators.{IntegersAnswer}
use Rattle.look_up_cache.proofs.Again.{where_true}
use Rattle.look_up_cache.proofs.Keeps.{as_seen}
use Rattle.look_up_cache.proofs.Operators.{integers_answer}
use Rattle.look_up_cache.proofs.known.KnownObjects.answers_integers.Goals as goal

pub returns-then-self : goal.returns-then-self
returns-then-self g c = λ yes.
    let seen : Seen = g.O.Objects.seen c.self.inside.objects in
    as_seen g.O.Objects.seen (λ (seen : Seen). IntegersAnswer c.args.operator seen) c.self.inside.objects
    (founds c.self.inside.memory.methods.items) c.args.self.now c.self.view_is
    (integers_answer c.args.operator seen (c.is_answered.ensures yes seen
    (where_true c.self.inside.holds (Holds c.self.inside.memory seen) c.if-self.true c.self.invariant.holds).operators))
