use Rattle.std.proofs.Common.{List, subst}
use Rattle.gem_clock.specs.Pairs.{Knows}
use Rattle.gem_meaning.specs.Events.{Event}
use Rattle.script_run.proofs.Telling.{told_among}
use Rattle.script_run.proofs.together.tell.Goals as goal

pub returns-clause-told : goal.returns-clause-told
returns-clause-told g c = λ place sessions ended.
    told_among g.N.Named.clock g.N.Named.opened c.args.settled.now sessions place c.args.end
    (subst (λ (all : List Event). Knows c.args.end.stamp.author c.args.end.stamp.list all) c.meet.ensures.same c.meet.ensures.met) ended
