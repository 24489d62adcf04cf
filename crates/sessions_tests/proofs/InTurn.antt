-- Sessions on one Stone, one after another.
use Rattle.std.proofs.Common.{◌≡◌, ◌≢◌, ◌∙◌, ℕ, ◌+◌, ◌<◌, [], refl, ap, arith}
use Rattle.gem_meaning.specs.Events.{Told, events_of}

-- The first sessions, so many, have run, and no other one has made an event.
pub record HaveRun (start now : Told) (count : ℕ) : Type 0 where
  pub opened : now.opened ≡ start.opened
  pub unbegun : (session : ℕ) → count < session → events_of session now.events ≡ []

pub none_has_run : (now : Told) → now.events ≡ [] → HaveRun now now 0
none_has_run now none = record {
  opened = refl;
  unbegun = λ session later. ap (events_of session) none;
}

later_one : (session count : ℕ) → count + 1 < session → session ≢ count + 1
later_one session count later is = absurd (omega (arith, later, is))

-- one session more has run
pub one_session : (start before after : Told) (count : ℕ) → HaveRun start before count
    → after.opened ≡ before.opened
    → ((other : ℕ) → other ≢ count + 1 → events_of other after.events ≡ events_of other before.events)
    → HaveRun start after (count + 1)
one_session start before after count ran same alone = record {
  opened = same ∙ ran.opened;
  unbegun = λ session later. alone session (later_one session count later)
      ∙ ran.unbegun session (omega (arith, later));
}
