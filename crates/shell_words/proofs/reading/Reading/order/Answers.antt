use Rattle.std.proofs.Common.{rules, ◌≡◌, true, false, refl, arith, sym, ◌∙◌}
use Rattle.shell_words.specs.Script.{is_logout}
use Rattle.shell_words.proofs.Drafts.{more_commands, sessions_with, ordered_reading, closed_sessions, ended_reading}
use Rattle.shell_words.proofs.reading.Reading.order.Goals as goal

pub returns-in_ok-close-clause-sessions : goal.returns-in_ok-close-clause-sessions
returns-in_ok-close-clause-sessions c =
    closed_sessions c.close.new.self _ c.in_ok-close.ensures.sessions c.in_ok-close.ensures.current
    ∙ sessions_with c.args.self.now c.in-Some.draft c.args.command (sym c.in-Some.ensures.value) c.in_ok-push.ensures.items

pub returns-in_ok-close-clause-reading : goal.returns-in_ok-close-clause-reading
returns-in_ok-close-clause-reading c =
    let ends : is_logout c.args.command ≡ true = search rules in
    ended_reading c.args.self.now c.close.new.self c.in-Some.draft c.args.command c.requires.reading (sym c.in-Some.ensures.value) c.in_ok-push.ensures.items ends
    c.in_ok-close.ensures.sessions c.in_ok-close.ensures.current

pub returns-else-ends-clause-sessions : goal.returns-else-ends-clause-sessions
returns-else-ends-clause-sessions c =
    sessions_with c.args.self.now c.in-Some.draft c.args.command (sym c.in-Some.ensures.value) c.in_ok-push.ensures.items

pub returns-else-ends-clause-reading : goal.returns-else-ends-clause-reading
returns-else-ends-clause-reading c =
    let goes_on : is_logout c.args.command ≡ false = search rules in
    let some = c.requires.some in
    ordered_reading c.args.self.now _ c.in-Some.draft _ c.args.command c.requires.reading (sym c.in-Some.ensures.value) refl c.in_ok-push.ensures.items
    c.requires.short (omega (arith, some)) goes_on refl refl

pub close-requires-clause-draft : goal.close-requires-clause-draft
close-requires-clause-draft c =
    let some = c.requires.some in
    more_commands c.args.self.now c.in-Some.draft _ c.args.command c.requires.reading (sym c.in-Some.ensures.value) refl c.in_ok-push.ensures.items c.requires.short (omega (arith, some))
