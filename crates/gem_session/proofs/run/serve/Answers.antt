use Rattle.std.proofs.Common.{◌≡◌, ◌∙◌, ◌+◌, ◌++◌, ◌∷◌, [], refl, sym, ap, subst, ℕ, take, length, arith}
use Rattle.std.specs.List.{prefix_len}
use Rattle.std.proofs.lemmas.Option.{slice_get_read}
use Rattle.gem_replies.specs.declared.reply.Line.TheVariants.{Login, Logout}
use Rattle.gem_meaning.specs.Session.{reply_with, replies_with, until_logout, Says}
use Rattle.stone_core.specs.Port.{LogoutSays}
use Rattle.gem_session.specs.Answer.{lines_of}
use Rattle.gem_session.specs.Running.{goes_on, Replied, FallsShort}
use Rattle.gem_session.proofs.Others.{nobody_came, goes_on_none}
use Rattle.gem_session.proofs.Serving.{HasServed, front_of, goes_on_at, comes_next, goes_on_as, nothing_served, one_served, all_served}
use Rattle.gem_session.proofs.Unlocked.{left_holds_none}
use Rattle.gem_session.proofs.CutShort.{gave_up, cut_unbegun, cut_in, cut_telling, replied_done, cut_at_end, cut_as}
use Rattle.gem_session.proofs.run.serve.Goals as goal

pub loop-command-init : goal.loop-command-init
loop-command-init g c = record {
  port = goes_on_none _ _ c.requires.consistent;
  counted = refl;
  served = nothing_served (g.P.StonePort.state c.args.port.now).told c.args.script.now _ c.args.running _ c.requires.logged_in
      (c.in_ok-push.ensures.items ∙ ap (λ rs. rs ++ reply_with 0 (Login c.args.running.number) ∷ []) c.new-replies.ensures.items);
}

pub reply-requires-clause-comes : goal.reply-requires-clause-comes
reply-requires-clause-comes g c =
    let i = c.loop-command.invariant in
    let b = c.before_logout-command-items in
    comes_next (g.P.StonePort.state c.args.port.now) (g.P.StonePort.state c.loop-command.port) c.args.script.now c.commands.result.now b.result.now
    c.loop-command.command-index c.loop-command.number c.args.running c.loop-command.running c.loop-command.replies.items c.command-item.result
    c.requires.serves c.requires.opened c.requires.logged_in i.port i.counted i.served c.commands.ensures.commands
    (rw c.commands.ensures.commands c.commands.ensures.limits.count)
    (front_of _ _ b.ensures.prefix) c.loop-command-test.true b.ensures.shorter c.command-item.is

pub reply-requires-clause-goes_on : goal.reply-requires-clause-goes_on
reply-requires-clause-goes_on g c =
    let b = c.before_logout-command-items in
    goes_on_at c.commands.result.now b.result.now c.loop-command.command-index c.command-item.result b.ensures.prefix c.loop-command-test.true c.command-item.is

pub returns-in_err-answer-clause-port : goal.returns-in_err-answer-clause-port
returns-in_err-answer-clause-port g c =
    goes_on_as _ _ _ _ _ c.loop-command.invariant.served.of_session c.loop-command.invariant.port c.reply.ensures.port

pub returns-in_err-push-2-clause-port : goal.returns-in_err-push-2-clause-port
returns-in_err-push-2-clause-port g c =
    goes_on_as _ _ _ _ _ c.loop-command.invariant.served.of_session c.loop-command.invariant.port c.reply.ensures.port

pub loop-command-preserved : goal.loop-command-preserved
loop-command-preserved g c =
    let i = c.loop-command.invariant in
    let body = c.before_logout-command-items.result.now in
    let o = (g.P.StonePort.state c.args.port.now).told.opened in
    let before = (g.P.StonePort.state c.loop-command.port).told.events in
    let after = (g.P.StonePort.state c.reply.new.port).told.events in
    let lines = lines_of c.in_ok-answer.answer in
    let item = slice_get_read body (length body) c.loop-command.command-index c.command-item.result refl c.loop-command-test.true c.command-item.is in
    let replied : Replied o (c.loop-command.command-index + 1) before after c.loop-command.running c.command-item.result lines c.reply.new.self =
    subst (λ (n : ℕ). Replied o (n + 1) before after c.loop-command.running c.command-item.result lines c.reply.new.self) i.counted
    (subst (λ x. Replied x (c.loop-command.number + 1) before after c.loop-command.running c.command-item.result lines c.reply.new.self) i.port.opened c.in_ok-answer.ensures.replied) in
    let served = one_served o (g.P.StonePort.state c.args.port.now).told.events before after body c.loop-command.command-index c.args.running c.loop-command.running c.reply.new.self
    c.loop-command.replies.items c.command-item.result lines item c.loop-command-test.true i.served c.reply.ensures.port.extends replied in
    record {
      port = goes_on_as _ _ _ _ _ i.served.of_session i.port c.reply.ensures.port;
      counted = omega (arith, i.counted);
      served = subst (λ rs. HasServed o (g.P.StonePort.state c.args.port.now).told.events after body (c.loop-command.command-index + 1) c.args.running c.reply.new.self rs)
          (sym (c.in_ok-push-2.ensures ∙ ap (λ (n : ℕ). c.loop-command.replies.items ++ replies_with (n + 1) lines) i.counted)) served;
    }

pub returns-clause-says : goal.returns-clause-says
returns-clause-says g c =
    let i = c.loop-command.invariant in
    let t = (g.P.StonePort.state c.args.port.now).told in
    let events = (g.P.StonePort.state c.loop-command.port).told.events in
    let now = (g.P.StonePort.state c.logout.new.self).told in
    let body = c.before_logout-command-items.result.now in
    let until = ap until_logout (sym c.commands.ensures.commands) ∙ c.before_logout-command-items.ensures.until in
    let opened = c.logout.ensures.port.opened ∙ i.port.opened in
    let now_is : now ≡ record { opened = t.opened; events = now.events } = ap (λ o. record { opened = o; events = now.events }) opened in
    let left : LogoutSays t.opened events now.events c.args.running.session =
    subst (λ (n : ℕ). LogoutSays t.opened events now.events n) i.served.of_session
    (subst (λ o. LogoutSays o events now.events c.loop-command.running.session) i.port.opened c.logout.ensures.says) in
    let says = all_served t events now.events c.args.script.now body c.loop-command.command-index c.args.running c.loop-command.running c.loop-command.replies.items now
    c.requires.logged_in until c.loop-command-test.false i.port.extends left now_is i.served in
    subst (λ rs. Says now c.args.running.session (length t.events) c.args.script.now rs)
    (sym (c.in_ok-push-3.ensures.items ∙ ap (λ (n : ℕ). c.loop-command.replies.items ++ reply_with (n + 1) Logout ∷ []) i.counted)) says

pub returns-in_err-push-3-clause-port : goal.returns-in_err-push-3-clause-port
returns-in_err-push-3-clause-port g c =
    goes_on_as _ _ _ _ _ c.loop-command.invariant.served.of_session c.loop-command.invariant.port c.logout.ensures.port

pub returns-clause-port : goal.returns-clause-port
returns-clause-port g c =
    goes_on_as _ _ _ _ _ c.loop-command.invariant.served.of_session c.loop-command.invariant.port c.logout.ensures.port

pub returns-clause-unlocked : goal.returns-clause-unlocked
returns-clause-unlocked g c =
    let before = (g.P.StonePort.state c.loop-command.port).told in
    let now = (g.P.StonePort.state c.logout.new.self).told in
    left_holds_none now.opened before.events now.events c.args.running.session
    (subst (λ (n : ℕ). LogoutSays now.opened before.events now.events n) c.loop-command.invariant.served.of_session
    (subst (λ o. LogoutSays o before.events now.events c.loop-command.running.session) (sym c.logout.ensures.port.opened) c.logout.ensures.says))

pub returns-in_err-push-clause-cut_short : goal.returns-in_err-push-clause-cut_short
returns-in_err-push-clause-cut_short g c =
    let t = (g.P.StonePort.state c.args.port.now).told in
    let l = c.requires.logged_in in
    gave_up _ (cut_unbegun t c.args.running.session c.args.script.now t.events l.of_script l.fresh (nobody_came _ t.events))

pub returns-in_err-answer-clause-cut_short : goal.returns-in_err-answer-clause-cut_short
returns-in_err-answer-clause-cut_short g c =
    let i = c.loop-command.invariant in
    let b = c.before_logout-command-items in
    let t = (g.P.StonePort.state c.args.port.now).told in
    let before = (g.P.StonePort.state c.loop-command.port).told.events in
    let now = (g.P.StonePort.state c.reply.new.port).told in
    let body = b.result.now in
    let item = slice_get_read body (length body) c.loop-command.command-index c.command-item.result refl c.loop-command-test.true c.command-item.is in
    let fell : FallsShort t.opened (c.loop-command.command-index + 1) before now.events c.loop-command.running c.command-item.result =
    subst (λ (n : ℕ). FallsShort t.opened (n + 1) before now.events c.loop-command.running c.command-item.result) i.counted
    (subst (λ x. FallsShort x (c.loop-command.number + 1) before now.events c.loop-command.running c.command-item.result) i.port.opened c.in_err-answer.ensures.fell_short) in
    gave_up _ (cut_as t now c.args.running.session (length t.events) c.args.script.now (c.reply.ensures.port.opened ∙ i.port.opened)
    (cut_in t before now.events c.args.script.now body c.loop-command.command-index c.args.running c.loop-command.running c.loop-command.replies.items c.command-item.result
    c.requires.logged_in (b.ensures.prefix ∙ ap (λ xs. take (prefix_len goes_on xs) xs) c.commands.ensures.commands) item c.loop-command-test.true i.port.extends i.served
    c.reply.ensures.port.extends fell))

pub returns-in_err-push-2-clause-cut_short : goal.returns-in_err-push-2-clause-cut_short
returns-in_err-push-2-clause-cut_short g c =
    let i = c.loop-command.invariant in
    let b = c.before_logout-command-items in
    let t = (g.P.StonePort.state c.args.port.now).told in
    let before = (g.P.StonePort.state c.loop-command.port).told.events in
    let now = (g.P.StonePort.state c.reply.new.port).told in
    let body = b.result.now in
    let lines = lines_of c.in_ok-answer.answer in
    let item = slice_get_read body (length body) c.loop-command.command-index c.command-item.result refl c.loop-command-test.true c.command-item.is in
    let replied : Replied t.opened (c.loop-command.command-index + 1) before now.events c.loop-command.running c.command-item.result lines c.reply.new.self =
    subst (λ (n : ℕ). Replied t.opened (n + 1) before now.events c.loop-command.running c.command-item.result lines c.reply.new.self) i.counted
    (subst (λ x. Replied x (c.loop-command.number + 1) before now.events c.loop-command.running c.command-item.result lines c.reply.new.self) i.port.opened c.in_ok-answer.ensures.replied) in
    gave_up _ (cut_as t now c.args.running.session (length t.events) c.args.script.now (c.reply.ensures.port.opened ∙ i.port.opened)
    (cut_telling t before now.events c.args.script.now body c.loop-command.command-index c.args.running c.loop-command.running c.loop-command.replies.items c.command-item.result
    c.requires.logged_in (b.ensures.prefix ∙ ap (λ xs. take (prefix_len goes_on xs) xs) c.commands.ensures.commands) item c.loop-command-test.true i.port.extends i.served
    c.reply.ensures.port.extends (replied_done replied)))

pub returns-in_err-push-3-clause-cut_short : goal.returns-in_err-push-3-clause-cut_short
returns-in_err-push-3-clause-cut_short g c =
    let i = c.loop-command.invariant in
    let b = c.before_logout-command-items in
    let t = (g.P.StonePort.state c.args.port.now).told in
    let events = (g.P.StonePort.state c.loop-command.port).told.events in
    let now = (g.P.StonePort.state c.logout.new.self).told in
    let left : LogoutSays t.opened events now.events c.args.running.session =
    subst (λ (n : ℕ). LogoutSays t.opened events now.events n) i.served.of_session
    (subst (λ o. LogoutSays o events now.events c.loop-command.running.session) i.port.opened c.logout.ensures.says) in
    gave_up _ (cut_as t now c.args.running.session (length t.events) c.args.script.now (c.logout.ensures.port.opened ∙ i.port.opened)
    (cut_at_end t events now.events c.args.script.now b.result.now c.loop-command.command-index c.args.running c.loop-command.running c.loop-command.replies.items
    c.requires.logged_in (b.ensures.prefix ∙ ap (λ xs. take (prefix_len goes_on xs) xs) c.commands.ensures.commands) c.loop-command-test.false i.port.extends i.served left))
