use Rattle.gem_session.proofs.Checks.{checked}
use Rattle.gem_session.proofs.session.Session.checkpoint.Goals as goal

pub returns-clause-replied : goal.returns-clause-replied
returns-clause-replied g c =
    rw c.check_line.ensures
    (checked (g.P.StonePort.state c.args.port.now) (g.P.StonePort.state c.checkpoint-answer.new.self) c.args.number c.args.self.now c.requires.comes
    c.checkpoint-answer.result c.checkpoint-answer.ensures.says)
