use Rattle.std.proofs.Common.{◌∙◌, sym}
use Rattle.gem_session.proofs.LockSteps.{lock_told, lock_may_be_asked, lock_lost, lock_answered}
use Rattle.gem_session.proofs.Others.{nobody_came}
use Rattle.gem_session.proofs.CutShort.{gave_up}
use Rattle.gem_session.proofs.session.Session.lock.Goals as goal

pub lock-answer-requires-clause-there : goal.lock-answer-requires-clause-there
lock-answer-requires-clause-there g c =
    lock_may_be_asked (g.P.StonePort.state c.args.port.now) c.args.number c.args.self.now c.args.write c.args.name.now c.requires.comes
    c.kind_asked-kind.result c.kind_asked-kind.ensures _ (rw c.view.ensures at c.in_ok-line.ensures) c.images_are_sound.ensures.stays _ c.in-Asks.is
    (sym c.may_ask.ensures ∙ c.if-may_ask.true)

pub returns-in-Replies-clause-replied : goal.returns-in-Replies-clause-replied
returns-in-Replies-clause-replied g c =
    lock_told (g.P.StonePort.state c.args.port.now) c.args.number c.args.self.now c.args.write c.args.name.now c.requires.comes
    c.kind_asked-kind.result c.kind_asked-kind.ensures _ (rw c.view.ensures at c.in_ok-line.ensures) _ c.in-Replies.is

pub returns-then-may_ask-clause-replied : goal.returns-then-may_ask-clause-replied
returns-then-may_ask-clause-replied g c =
    rw c.lock_line.ensures
    (lock_answered (g.P.StonePort.state c.args.port.now) c.args.number c.args.self.now c.args.write c.args.name.now c.requires.comes
    c.kind_asked-kind.result c.kind_asked-kind.ensures _ (rw c.view.ensures at c.in_ok-line.ensures) (g.P.StonePort.state c.lock-answer.new.self) _ _ c.in-Asks.is
    c.lock-answer.ensures.says)

pub returns-clause-replied : goal.returns-clause-replied
returns-clause-replied g c =
    rw c.in_ok-clone.ensures.cases
    (lock_lost (g.P.StonePort.state c.args.port.now) c.args.number c.args.self.now c.args.write c.args.name.now c.requires.comes
    c.kind_asked-kind.result c.kind_asked-kind.ensures _ (rw c.view.ensures at c.in_ok-line.ensures) _ (sym c.may_ask.ensures ∙ c.if-may_ask.false))

pub returns-in_err-line-clause-starved : goal.returns-in_err-line-clause-starved
returns-in_err-line-clause-starved g c = gave_up _ (nobody_came _ _)

pub returns-in_err-clone-clause-starved : goal.returns-in_err-clone-clause-starved
returns-in_err-clone-clause-starved g c = gave_up _ (nobody_came _ _)
