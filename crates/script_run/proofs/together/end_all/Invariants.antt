use Rattle.std.specs.Vec.{vec_capacity}
use Rattle.script_run.specs.Workers.{HasEndedAt}
use Rattle.script_run.proofs.Filling.{Filling}
use Rattle.script_run.proofs.together.end_all.Given as goal

abbrev pub invariant-loop-started : goal.invariant-loop-started
invariant-loop-started g l = Filling (HasEndedAt g.N.Named.clock g.N.Named.opened l.fn.sessions) l.fn.all.items l.yielded
    l.started-iterator.rest.items l.ended.items (vec_capacity l.ended)
