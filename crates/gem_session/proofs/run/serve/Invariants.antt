use Rattle.std.proofs.Common.{◌≡◌}
use Rattle.stone_core.specs.Port.{GoesOn}
use Rattle.gem_session.proofs.Serving.{HasServed}
use Rattle.gem_session.proofs.run.serve.Given as goal

abbrev pub invariant-loop-command : goal.invariant-loop-command
invariant-loop-command g l = record {
  port : GoesOn l.fn.running.session (g.P.StonePort.state l.fn.port) (g.P.StonePort.state l.port);
  counted : l.number ≡ l.command-index;
  served : HasServed (g.P.StonePort.state l.fn.port).told.opened (g.P.StonePort.state l.fn.port).told.events
      (g.P.StonePort.state l.port).told.events l.command-items l.command-index l.fn.running l.running l.replies.items;
}
