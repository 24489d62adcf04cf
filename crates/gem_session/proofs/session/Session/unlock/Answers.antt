use Rattle.gem_session.proofs.LockSteps.{unlock_told, unlock_answered}
use Rattle.gem_session.proofs.Others.{nobody_came}
use Rattle.gem_session.proofs.CutShort.{gave_up}
use Rattle.gem_session.proofs.session.Session.unlock.Goals as goal

pub returns-in-Replies-clause-replied : goal.returns-in-Replies-clause-replied
returns-in-Replies-clause-replied g c =
    unlock_told (g.P.StonePort.state c.args.port.now) c.args.number c.args.self.now c.args.name.now c.requires.comes _ (rw c.view.ensures at c.in_ok-line.ensures) _ c.in-Replies.is

pub returns-in-Asks-clause-replied : goal.returns-in-Asks-clause-replied
returns-in-Asks-clause-replied g c =
    rw c.unlock_line.ensures
    (unlock_answered (g.P.StonePort.state c.args.port.now) c.args.number c.args.self.now c.args.name.now c.requires.comes _ (rw c.view.ensures at c.in_ok-line.ensures) (g.P.StonePort.state c.unlock-held.new.self) _ _ c.in-Asks.is
    c.unlock-held.ensures.says)

pub returns-in_err-line-clause-starved : goal.returns-in_err-line-clause-starved
returns-in_err-line-clause-starved g c = gave_up _ (nobody_came _ _)
