use Rattle.std.proofs.Common.{◌≡◌}
use Rattle.std.specs.Vec.{vec_capacity}
use Rattle.script_run.specs.Workers.{HasToldAt, told_all}
use Rattle.script_run.proofs.Filling.{Filling}
use Rattle.script_run.proofs.together.gather.Given as goal

abbrev pub invariant-loop-end : goal.invariant-loop-end
invariant-loop-end g l = record {
  same : l.settled ≡ l.fn.settled;
  filling : Filling (HasToldAt (told_all g.N.Named.opened l.fn.settled) l.fn.sessions) l.fn.ended.items l.yielded
      l.end-iterator.rest.items l.transcripts.items (vec_capacity l.transcripts);
}
