use Rattle.std.proofs.Common.{◌∙◌, [], ◌∷◌, Some, sym, ap, subst, inl}
use Rattle.std.proofs.lemmas.Result.{on_err_weaker}
use Rattle.gem_replies.specs.declared.reply.Line.TheVariants.{Mode as ModeLine}
use Rattle.shell_words.specs.declared.script.Command.{Command}
use Rattle.shell_words.specs.declared.script.Command.TheVariants.{Mode as SetMode}
use Rattle.gem_record.specs.declared.mode.Mode.{Mode}
use Rattle.gem_session.specs.Running.{Replied}
use Rattle.gem_session.proofs.Steps.{mode_replied}
use Rattle.gem_session.proofs.session.Session.reply_line.Goals as goal

pub returns-in-Mode-clause-replied : goal.returns-in-Mode-clause-replied
returns-in-Mode-clause-replied g c =
    let t = (g.P.StonePort.state c.args.port.now).told in
    let s = c.args.self.now in
    let line = ModeLine c.in-Mode.full in
    subst (λ (command : Command). Replied t.opened c.args.number t.events t.events s command (line ∷ []) (record s { mode = c.mode_of-self.result })) (sym c.in-Mode.is)
    (subst (λ (mode : Mode). Replied t.opened c.args.number t.events t.events s (SetMode c.in-Mode.full) (line ∷ []) (record s { mode = mode })) (sym c.mode_of-self.ensures)
    (mode_replied t.opened t.events c.args.number s c.in-Mode.full (c.requires.comes.command ∙ ap Some c.in-Mode.is) c.requires.comes.stands))

pub returns-in-Abort-clause-fell_short : goal.returns-in-Abort-clause-fell_short
returns-in-Abort-clause-fell_short g c = on_err_weaker _ inl c.abort.ensures.starved

pub returns-in-Lock-clause-fell_short : goal.returns-in-Lock-clause-fell_short
returns-in-Lock-clause-fell_short g c = on_err_weaker _ inl c.lock.ensures.starved

pub returns-in-Unlock-clause-fell_short : goal.returns-in-Unlock-clause-fell_short
returns-in-Unlock-clause-fell_short g c = on_err_weaker _ inl c.unlock.ensures.starved
