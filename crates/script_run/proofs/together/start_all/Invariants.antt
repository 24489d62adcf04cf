use Rattle.std.specs.Vec.{vec_capacity}
use Rattle.script_run.specs.Workers.{IsStartedAt}
use Rattle.script_run.proofs.Filling.{Filling}
use Rattle.script_run.proofs.together.start_all.Given as goal

abbrev pub invariant-loop-stamp : goal.invariant-loop-stamp
invariant-loop-stamp g l = Filling (IsStartedAt g.N.Named.clock g.N.Named.opened l.fn.sessions) l.fn.stamps.items l.yielded
    l.stamp-iterator.rest.items l.all.items (vec_capacity l.all)
