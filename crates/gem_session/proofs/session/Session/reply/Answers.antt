use Rattle.std.proofs.Common.{◌∙◌, sym, subst}
use Rattle.gem_session.specs.Running.{RepliedBy}
use Rattle.gem_session.proofs.Others.{goes_on_none}
use Rattle.gem_session.proofs.Steps.{ran}
use Rattle.gem_session.proofs.CutShort.{gave_up}
use Rattle.gem_session.proofs.session.Session.reply.Goals as goal

pub returns-then-is_run-clause-replied : goal.returns-then-is_run-clause-replied
returns-then-is_run-clause-replied g c =
    let t = (g.P.StonePort.state c.args.port.now).told in
    ran t.opened t.events _ _ _ _ _ (sym c.is_run.ensures ∙ c.if-is_run.true) c.requires.comes.command c.requires.comes.stands c.run.ensures

pub returns-then-is_run-clause-port : goal.returns-then-is_run-clause-port
returns-then-is_run-clause-port g c = goes_on_none _ _ c.requires.comes.consistent

pub returns-clause-replied : goal.returns-clause-replied
returns-clause-replied g c =
    subst (λ lines. RepliedBy (g.P.StonePort.state c.args.port.now) (g.P.StonePort.state c.reply_line.new.port) c.args.number c.args.self.now c.args.command.now lines c.reply_line.new.self)
    (sym c.of.ensures) c.in_ok-line.ensures.replied

pub returns-in_err-line-clause-fell_short : goal.returns-in_err-line-clause-fell_short
returns-in_err-line-clause-fell_short g c = gave_up _ c.in_err-line.ensures.fell_short
