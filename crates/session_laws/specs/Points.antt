-- How many of all events a session had seen when it gave its replies.
use Rattle.std.specs.Prelude.{◌≡◌, ℕ, ◌+◌, List, [], ◌∷◌, take, Option, Some, None}
use Rattle.gem_meaning.specs.gem_replies.declared.reply.Reply.{Reply}
use Rattle.gem_meaning.specs.shell_words.Script.{SessionCommands}
use Rattle.gem_meaning.specs.shell_words.declared.script.Command.{Command}
use Rattle.gem_meaning.specs.Names.{user_in}
use Rattle.gem_meaning.specs.Events.{Told, after_events, halts_in}
use Rattle.gem_meaning.specs.State.{SessionState, first_transaction}
use Rattle.gem_meaning.specs.Session.{CommandsSay, until_logout, SaysOf, Says}

-- the points after each of these commands
abbrev pub points_after : (t : Told) (number p q : ℕ) (s : SessionState) (cs : List Command)
    (rs : List Reply) → CommandsSay t number p q s cs rs → List ℕ
points_after t number p q s [] rs says = []
points_after t number p q s (c ∷ cs) rs says = says.point
    ∷ points_after t (number + 1) says.point q says.next cs says.more says.rest

-- the point of the login and, where the image has such a user, those after each command
abbrev pub points_by : (user : Option ℕ) (t : Told) (session point view : ℕ) (cs : List Command)
    (rs : List Reply) → SaysOf user t session point view cs rs → List ℕ
points_by (Some user) t session point view cs rs says =
    let first : SessionState = first_transaction session user view in
    point ∷ points_after t 1 point says.end first cs says.replies says.says
points_by None t session point view cs rs says = point ∷ []

-- The points of a session: how many of all events it had seen when it replied to its login, and
-- then to each of its commands.
abbrev pub points_of : {t : Told} {session seen : ℕ} {script : SessionCommands} {rs : List Reply}
    → Says t session seen script rs → List ℕ
points_of {t} {session} {seen} {script} {rs} says =
    points_by (user_in (after_events t.opened (take says.point t.events)).image script.user) t
    session says.point says.view (until_logout script.commands) rs says.says

-- The disk fails between none of these points and the next.
abbrev pub FailsBetweenNone : Told → List ℕ → Type 0
FailsBetweenNone t [] = Unit {0}
FailsBetweenNone t (p ∷ []) = Unit {0}
FailsBetweenNone t (p ∷ (q ∷ points)) =
    (halts_in (take p t.events) ≡ halts_in (take q t.events)) × FailsBetweenNone t (q ∷ points)
