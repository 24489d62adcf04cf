-- A session's turn: from its stamp, over what others did meanwhile, to its next stamp.
use Rattle.std.proofs.Common.{◌≡◌, ◌∙◌, sym, ap, ap₂, subst, ℕ, ◌==◌, true, false, List, []}
use Rattle.std.proofs.lemmas.Bool.{eqb-true, and_parts}
use Rattle.gem_clock.specs.Pairs.{Knows}
use Rattle.gem_clock.specs.Shown.{StampView}
use Rattle.gem_meaning.specs.declared.event.What.{What}
use Rattle.gem_meaning.specs.Opened.{Opened}
use Rattle.gem_meaning.specs.Events.{Event, Told, events_of, OthersCame}
use Rattle.stone_core.specs.Port.{alone_with, GoesOn}
use Rattle.stone_core.specs.Stone.{is_session}
use Rattle.stone_core.proofs.Others.{goes_on_shared}
use Rattle.stone_shared.specs.Shared.{told_at, is_served, port_at}

-- the session is the stamp's
pub is_author : (o : Opened) (author session : ℕ) → is_served author o session ≡ true → session ≡ author
is_author o author session served =
    eqb-true session author (and_parts (session == author) (is_session o.script session) served).0

-- and one of the script
pub is_of_script : (o : Opened) (author session : ℕ) → is_served author o session ≡ true → is_session o.script session ≡ true
is_of_script o author session served =
    (and_parts (session == author) (is_session o.script session) served).1

-- what came between two turns of a session is of others
pub came_at : (o : Opened) (stamp : StampView What) (session : ℕ) (list events : List Event)
    → is_served stamp.author o session ≡ true → Knows stamp.author stamp.list list → list ≡ events
    → OthersCame session stamp.list events
came_at o stamp session list events served knows is = (
  knows.rest,
  subst (λ (n : ℕ). events_of n knows.rest ≡ []) (sym (is_author o stamp.author session served)) knows.own,
  sym is ∙ knows.front,
)

-- A call of the Stone, as one of the port on the stamp.
pub goes_on_at : (o : Opened) (session : ℕ) (before after : StampView What) (t u : Told) → t.opened ≡ o
    → u.events ≡ after.list → OthersCame session before.list t.events → after.author ≡ before.author
    → GoesOn session (alone_with t) (alone_with u) → GoesOn session (port_at o before) (port_at o after)
goes_on_at o session before after t u opened list came author on =
    let same : record { told = u; serves = is_served before.author u.opened; alone = false } ≡ port_at o after =
    ap₂ (λ (q : Opened) (es : List Event). record {
      told = record { opened = q; events = es };
      serves = is_served before.author q;
      alone = false;
    }) (on.opened ∙ opened) list
    ∙ ap (λ (n : ℕ). record { told = told_at o after; serves = is_served n o; alone = false }) (sym author) in
    subst (GoesOn session (port_at o before)) same
    (goes_on_shared (is_served before.author) session (told_at o before) t u opened came on)
