use Rattle.std.proofs.Common.{◌≡◌, ◌∙◌, sym, ap, subst, ℕ, Some, None, false, length}
use Rattle.gem_record.specs.declared.mode.Mode.TheVariants.{Full}
use Rattle.gem_meaning.specs.Names.{user_in}
use Rattle.gem_meaning.specs.Session.{Says}
use Rattle.stone_core.specs.Port.{GoesOn, BeginSays}
use Rattle.gem_session.specs.declared.session.Session.{Session}
use Rattle.gem_session.specs.Running.{HoldsNone, Arrives, IsToBeCutShort}
use Rattle.gem_session.proofs.Others.{longer}
use Rattle.gem_session.proofs.Logins.{fresh_still, sound_at_login, has_logged_in, saw_less, refused_when}
use Rattle.gem_session.proofs.Serving.{goes_on_as}
use Rattle.gem_session.proofs.Unlocked.{fresh_holds_none}
use Rattle.gem_session.proofs.CutShort.{gave_up, cut_unbegun, cut_saw_less, cut_as}
use Rattle.gem_session.proofs.run.all_replies.Goals as goal

pub login-requires : goal.login-requires
login-requires g c =
    let p = g.P.StonePort.state c.args.port.now in
    let q = g.P.StonePort.state c.begin.new.self in
    let begun = c.in_ok-begun.begun in
    sound_at_login p q c.args.session c.args.serial begun.image begun.number c.in-Some.user c.args.script.now c.requires.arrives c.in_ok-begun.ensures.begun
    (subst (λ n. user_in begun.image n ≡ Some c.in-Some.user) c.user.ensures (sym c.in_ok-user.ensures ∙ c.in-Some.is))

pub serve-requires-clause-logged_in : goal.serve-requires-clause-logged_in
serve-requires-clause-logged_in g c =
    let p = g.P.StonePort.state c.args.port.now in
    let q = g.P.StonePort.state c.begin.new.self in
    let begun = c.in_ok-begun.begun in
    let session = ap (λ (s : Session). s.session) c.in_ok-running-in-Some.ensures.fields in
    has_logged_in p q c.args.serial begun.image begun.number c.in-Some.user c.args.script.now c.in_ok-running-in-Some.running
    (subst (λ (n : ℕ). GoesOn n p q) (sym session) c.begin.ensures.port)
    (subst (λ (n : ℕ). Arrives p n c.args.serial c.args.script.now) (sym session) c.requires.arrives)
    (subst (λ (n : ℕ). BeginSays p.told.opened n p.told.events q.told.events begun.image begun.number) (sym session) c.in_ok-begun.ensures.begun)
    (subst (λ n. user_in begun.image n ≡ Some c.in-Some.user) c.user.ensures (sym c.in_ok-user.ensures ∙ c.in-Some.is))
    c.in_ok-running-in-Some.ensures.seen c.in_ok-running-in-Some.ensures.sound
    (c.in_ok-running-in-Some.ensures.fields ∙ ap (λ (n : ℕ). record {
      session = n;
      serial = c.args.serial;
      number = begun.number;
      mode = Full;
      transaction = 1;
      first_command = 1;
      spoiled = false;
      image = begun.image;
      view = c.in_ok-running-in-Some.running.view;
      cache = c.in_ok-running-in-Some.running.cache;
    }) (sym session))

pub returns-in_ok-replies-in-Some-clause-port : goal.returns-in_ok-replies-in-Some-clause-port
returns-in_ok-replies-in-Some-clause-port g c =
    goes_on_as _ _ _ _ _ (ap (λ (s : Session). s.session) c.in_ok-running-in-Some.ensures.fields) c.begin.ensures.port c.serve.ensures.port

pub returns-in_err-replies-in-Some-clause-port : goal.returns-in_err-replies-in-Some-clause-port
returns-in_err-replies-in-Some-clause-port g c =
    goes_on_as _ _ _ _ _ (ap (λ (s : Session). s.session) c.in_ok-running-in-Some.ensures.fields) c.begin.ensures.port c.serve.ensures.port

pub returns-in_ok-replies-in-Some-clause-says : goal.returns-in_ok-replies-in-Some-clause-says
returns-in_ok-replies-in-Some-clause-says g c =
    let p = g.P.StonePort.state c.args.port.now in
    let q = g.P.StonePort.state c.begin.new.self in
    let now = (g.P.StonePort.state c.serve.new.port).told in
    let rs = c.in_ok-replies-in-Some.replies.items in
    let session = ap (λ (s : Session). s.session) c.in_ok-running-in-Some.ensures.fields in
    saw_less now c.args.session (length q.told.events) (length p.told.events) c.args.script.now rs (longer p.told.events q.told.events c.begin.ensures.port.extends)
    (subst (λ (n : ℕ). Says now n (length q.told.events) c.args.script.now rs) session c.in_ok-replies-in-Some.ensures.says)

pub returns-in_ok-replies-in-Some-clause-unlocked : goal.returns-in_ok-replies-in-Some-clause-unlocked
returns-in_ok-replies-in-Some-clause-unlocked g c =
    let session = ap (λ (s : Session). s.session) c.in_ok-running-in-Some.ensures.fields in
    subst (λ (n : ℕ). HoldsNone (g.P.StonePort.state c.serve.new.port).told n) session c.in_ok-replies-in-Some.ensures.unlocked

pub returns-in_ok-replies-in-None-clause-says : goal.returns-in_ok-replies-in-None-clause-says
returns-in_ok-replies-in-None-clause-says g c =
    let p = g.P.StonePort.state c.args.port.now in
    let q = g.P.StonePort.state c.begin.new.self in
    let begun = c.in_ok-begun.begun in
    refused_when p q c.args.session c.args.serial begun.image begun.number c.args.script.now _ c.begin.ensures.port c.requires.arrives c.in_ok-begun.ensures.begun
    (subst (λ n. user_in begun.image n ≡ None) c.user.ensures (sym c.in_ok-user.ensures ∙ c.in-None.is)) c.in_ok-replies-in-None.ensures

pub returns-in_ok-replies-in-None-clause-unlocked : goal.returns-in_ok-replies-in-None-clause-unlocked
returns-in_ok-replies-in-None-clause-unlocked g c =
    let p = g.P.StonePort.state c.args.port.now in
    let q = g.P.StonePort.state c.begin.new.self in
    fresh_holds_none q.told c.args.session
    (fresh_still p.told.opened c.args.session p.told.events q.told.events _ _ c.requires.arrives.fresh c.in_ok-begun.ensures.begun)

pub returns-in_err-begun-clause-cut_short : goal.returns-in_err-begun-clause-cut_short
returns-in_err-begun-clause-cut_short g c =
    let t = (g.P.StonePort.state c.args.port.now).told in
    let now = (g.P.StonePort.state c.begin.new.self).told in
    gave_up _ (cut_as t now c.args.session (length t.events) c.args.script.now c.begin.ensures.port.opened
    (cut_unbegun t c.args.session c.args.script.now now.events c.requires.arrives.of_script c.requires.arrives.fresh c.in_err-begun.ensures.starved))

pub returns-in_err-user-clause-cut_short : goal.returns-in_err-user-clause-cut_short
returns-in_err-user-clause-cut_short g c =
    let t = (g.P.StonePort.state c.args.port.now).told in
    let now = (g.P.StonePort.state c.begin.new.self).told in
    gave_up _ (cut_as t now c.args.session (length t.events) c.args.script.now c.begin.ensures.port.opened
    (cut_unbegun t c.args.session c.args.script.now now.events c.requires.arrives.of_script c.requires.arrives.fresh c.in_ok-begun.ensures.begun.others_came))

pub returns-in_err-running-in-Some-clause-cut_short : goal.returns-in_err-running-in-Some-clause-cut_short
returns-in_err-running-in-Some-clause-cut_short g c =
    let t = (g.P.StonePort.state c.args.port.now).told in
    let now = (g.P.StonePort.state c.begin.new.self).told in
    gave_up _ (cut_as t now c.args.session (length t.events) c.args.script.now c.begin.ensures.port.opened
    (cut_unbegun t c.args.session c.args.script.now now.events c.requires.arrives.of_script c.requires.arrives.fresh c.in_ok-begun.ensures.begun.others_came))

pub returns-in_err-replies-in-None-clause-cut_short : goal.returns-in_err-replies-in-None-clause-cut_short
returns-in_err-replies-in-None-clause-cut_short g c =
    let t = (g.P.StonePort.state c.args.port.now).told in
    let now = (g.P.StonePort.state c.begin.new.self).told in
    gave_up _ (cut_as t now c.args.session (length t.events) c.args.script.now c.begin.ensures.port.opened
    (cut_unbegun t c.args.session c.args.script.now now.events c.requires.arrives.of_script c.requires.arrives.fresh c.in_ok-begun.ensures.begun.others_came))

pub returns-in_err-replies-in-Some-clause-cut_short : goal.returns-in_err-replies-in-Some-clause-cut_short
returns-in_err-replies-in-Some-clause-cut_short g c =
    let p = (g.P.StonePort.state c.args.port.now).told in
    let q = (g.P.StonePort.state c.begin.new.self).told in
    let now = (g.P.StonePort.state c.serve.new.port).told in
    let session = ap (λ (s : Session). s.session) c.in_ok-running-in-Some.ensures.fields in
    gave_up _ (cut_saw_less now c.args.session (length q.events) (length p.events) c.args.script.now (longer p.events q.events c.begin.ensures.port.extends)
    (subst (λ (n : ℕ). IsToBeCutShort now n (length q.events) c.args.script.now) session c.in_err-replies-in-Some.ensures.cut_short))
