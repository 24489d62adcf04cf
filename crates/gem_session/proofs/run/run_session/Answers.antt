use Rattle.std.proofs.Common.{sym, subst, length}
use Rattle.stone_core.specs.Port.{LogoutSays}
use Rattle.gem_session.specs.Running.{WasCutShort}
use Rattle.gem_session.proofs.Others.{goes_on_twice}
use Rattle.gem_session.proofs.Unlocked.{left_holds_none}
use Rattle.gem_session.proofs.CutShort.{gave_up, cut_nowhere}
use Rattle.gem_session.proofs.run.run_session.Goals as goal

pub returns-in_default-clause-port : goal.returns-in_default-clause-port
returns-in_default-clause-port g c = goes_on_twice _ _ _ _ c.all_replies.ensures.port c.logout.ensures.port

pub returns-in_default-clause-unlocked : goal.returns-in_default-clause-unlocked
returns-in_default-clause-unlocked g c =
    let p = g.P.StonePort.state c.all_replies.new.port in
    let q = g.P.StonePort.state c.logout.new.self in
    left_holds_none q.told.opened p.told.events q.told.events c.args.session
    (subst (λ o. LogoutSays o p.told.events q.told.events c.args.session) (sym c.logout.ensures.port.opened) c.logout.ensures.says)

pub returns-in_default-clause-cut_short : goal.returns-in_default-clause-cut_short
returns-in_default-clause-cut_short g c =
    let p = (g.P.StonePort.state c.args.port.now).told in
    let q = (g.P.StonePort.state c.all_replies.new.port).told in
    let r = (g.P.StonePort.state c.logout.new.self).told in
    subst (λ o. WasCutShort (record { opened = o; events = r.events }) c.args.session (length p.events) c.args.script.now)
    (sym c.logout.ensures.port.opened) (c.in_default.ensures.cut_short r.events c.logout.ensures.says)

pub returns-in_err-clone-clause-cut_short : goal.returns-in_err-clone-clause-cut_short
returns-in_err-clone-clause-cut_short g c =
    gave_up _ (cut_nowhere (g.P.StonePort.state c.all_replies.new.port).told c.args.session _ c.args.script.now _ c.in-Ok.ensures.says)
