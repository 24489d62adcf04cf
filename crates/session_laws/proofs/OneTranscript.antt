-- What a session says is what its replay gives: equal points give equal replies.
use Rattle.std.proofs.Common.{◌≡◌, ◌∙◌, refl, sym, ap, ap₂, subst, ℕ, ◌+◌, false, Option, Some, None, List, [], ◌∷◌, ◌++◌, length, take}
use Rattle.std.specs.List.{AllByRecursion}
use Rattle.gem_meaning.specs.gem_replies.declared.reply.Line.{Line}
use Rattle.gem_meaning.specs.gem_replies.declared.reply.Line.TheVariants.{NoUser, Login}
use Rattle.gem_meaning.specs.gem_replies.declared.reply.Reply.{Reply}
use Rattle.gem_meaning.specs.shell_words.Script.{SessionCommands}
use Rattle.gem_meaning.specs.shell_words.declared.script.Command.{Command}
use Rattle.gem_meaning.specs.Events.{Told}
use Rattle.gem_meaning.specs.State.{SessionState, CommandPlace, place_between, first_transaction}
use Rattle.gem_meaning.specs.Session.{CommandsSay, SaysOf, Says, until_logout, reply_with, replies_with, not_logged_in}
use Rattle.gem_meaning.specs.Legal.{WasServed}
use Rattle.history_laws.proofs.Turns.{all_front, all_back}
use Rattle.session_laws.specs.Points.{points_after, points_by, points_of, FailsBetweenNone}
use Rattle.session_laws.proofs.Replay.{number_after, replay_command, replay_commands, replay_login, user_at, replay}
use Rattle.session_laws.proofs.ReplayCommands.{IsCommandReplay, WereServed, command_is}

-- the lines of one command's replies
lines_had : (number : ℕ) (lines : List Line) (more : List Reply)
    → AllByRecursion WasServed (replies_with number lines ++ more) → WereServed lines
lines_had number lines more had =
    let all : AllByRecursion WasServed (replies_with number lines) =
    all_front WasServed (replies_with number lines) more had in
    (λ short. (rw short at all).0.0 refl, λ fault. (rw fault at all).0.1 refl)

-- A session's commands, from a point on.
commands_are : (t : Told) (number p q : ℕ) (s : SessionState) (cs : List Command) (rs : List Reply)
    (says : CommandsSay t number p q s cs rs) → s.spoiled ≡ false → AllByRecursion WasServed rs
    → FailsBetweenNone t (p ∷ points_after t number p q s cs rs says)
    → rs ≡ replay_commands t number p s cs (points_after t number p q s cs rs says)
commands_are t number p q s [] rs says clean had fails = says.0
commands_are t number p q s (c ∷ cs) rs says clean had fails =
    let had_here : AllByRecursion WasServed (replies_with number says.lines ++ says.more) =
    subst (AllByRecursion WasServed) says.replies had in
    let at : CommandPlace = place_between t number p says.point in
    let one : IsCommandReplay says.lines says.next (replay_command at s c) =
    command_is at s c says.lines says.next fails.0 clean
    (lines_had number says.lines says.more had_here) says.says in
    let points : List ℕ =
    points_after t (number + 1) says.point q says.next cs says.more says.rest in
    let rest : says.more ≡ replay_commands t (number + 1) says.point says.next cs points =
    commands_are t (number + 1) says.point q says.next cs says.more says.rest one.unspoiled
    (all_back WasServed (replies_with number says.lines) says.more had_here) fails.1 in
    says.replies
    ∙ ap₂ (λ (ls : List Line) (replies : List Reply). replies_with number ls ++ replies)
    one.lines_are
    (rest ∙ ap (λ (n : SessionState). replay_commands t (number + 1) says.point n cs points)
    one.next_is)

-- A session, by the object of its user.
login_is : (user : Option ℕ) (t : Told) (session point view : ℕ) (script : SessionCommands)
    (rs : List Reply) (says : SaysOf user t session point view (until_logout script.commands) rs)
    → user_at t script point ≡ user → view ≡ number_after t.opened (take point t.events)
    → AllByRecursion WasServed rs
    → FailsBetweenNone t
    (points_by user t session point view (until_logout script.commands) rs says)
    → rs ≡ replay t session script
    (points_by user t session point view (until_logout script.commands) rs says)
login_is (Some user) t session point view script rs says user_is view_is had fails =
    let cs : List Command = until_logout script.commands in
    let first : ℕ → SessionState = first_transaction session user in
    let points : List ℕ = points_after t 1 point says.end (first view) cs says.replies says.says in
    let said : says.replies ≡ replay_commands t 1 point (first view) cs points =
    commands_are t 1 point says.end (first view) cs says.replies says.says refl
    (subst (AllByRecursion WasServed) says.login had).1 fails in
    says.login
    ∙ ap (λ (more : List Reply). reply_with 0 (Login view) ∷ more) said
    ∙ ap (λ (v : ℕ). reply_with 0 (Login v) ∷ replay_commands t 1 point (first v) cs points) view_is
    ∙ ap (λ (u : Option ℕ). replay_login u t session point cs points) (sym user_is)
login_is None t session point view script rs says user_is view_is had fails =
    let cs : List Command = until_logout script.commands in
    says.refused
    ∙ ap (λ (v : ℕ). reply_with 0 (NoUser v) ∷ not_logged_in 1 (length cs)) view_is
    ∙ ap (λ (u : Option ℕ). replay_login u t session point cs []) (sym user_is)

session_is : (t : Told) (session seen : ℕ) (script : SessionCommands) (rs : List Reply)
    (says : Says t session seen script rs) → AllByRecursion WasServed rs
    → FailsBetweenNone t (points_of says) → rs ≡ replay t session script (points_of says)
session_is t session seen script rs says =
    login_is (user_at t script says.point) t session says.point says.view script rs says.says refl
    says.sees.1

pub one_transcript : (t : Told) (session seen seen' : ℕ) (script : SessionCommands)
    (rs rs' : List Reply) (says : Says t session seen script rs)
    (says' : Says t session seen' script rs') → points_of says ≡ points_of says'
    → FailsBetweenNone t (points_of says)
    → AllByRecursion WasServed rs → AllByRecursion WasServed rs' → rs ≡ rs'
one_transcript t session seen seen' script rs rs' says says' same fails had had' =
    session_is t session seen script rs says had fails
    ∙ ap (replay t session script) same
    ∙ sym (session_is t session seen' script rs' says' had'
    (subst (FailsBetweenNone t) same fails))
