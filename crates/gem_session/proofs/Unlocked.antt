-- A session that has left holds no lock, and one without an event never held one.
use Rattle.std.proofs.Common.{◌≡◌, ◌∙◌, refl, sym, ap, ℕ, ◌==◌, Bool, true, false, true≢false, IsTrue, is_some, Option, None, List, [], ◌∷◌, ◌++◌, append-nil}
use Rattle.std.specs.List.{fold}
use Rattle.std.specs.FinMap.{get-empty}
use Rattle.std.proofs.lemmas.Bool.{false≢true, eq-eqb}
use Rattle.lock_table.specs.declared.lock.LockKind.{LockKind}
use Rattle.lock_table.specs.Locks.{holding_cmp, holding, kind_held}
use Rattle.lock_table.proofs.Changes.{held_others, dropped_others, left_this, left_others}
use Rattle.gem_meaning.specs.declared.event.What.TheVariants.{Placed, Held, Dropped, Left, Checked, Halted}
use Rattle.gem_meaning.specs.Opened.{Opened}
use Rattle.gem_meaning.specs.Events.{Event, Told, Standing, after_event, before_events, after_events, events_of}
use Rattle.gem_meaning.specs.Serial.{HoldsSome}
use Rattle.gem_meaning.specs.Locks.{leaving}
use Rattle.stone_core.specs.Port.{LogoutSays}
use Rattle.gem_session.specs.Running.{HoldsNone}
use Rattle.history_laws.proofs.Views.{after_one_more, after_more}
use Rattle.gem_session.proofs.Apart.{not_taken}

other_kind : (o : Opened) (s : Standing) (event : Event) (session oid : ℕ) → (event.0 == session) ≡ false
    → kind_held (after_event o s event).locks session oid ≡ kind_held s.locks session oid
other_kind o s (author, Placed e) session oid other = refl
other_kind o s (author, Held at kind) session oid other = held_others s.locks author at kind session oid
    (λ same. absurd (true≢false (sym (eq-eqb author session (sym same)) ∙ other)))
other_kind o s (author, Dropped at) session oid other = dropped_others s.locks author at session oid
    (λ same. absurd (true≢false (sym (eq-eqb author session (sym same)) ∙ other)))
other_kind o s (author, Left) session oid other = left_others s.locks author oid session oid
    (λ same. true≢false (sym (eq-eqb author session (sym same)) ∙ other))
other_kind o s (author, Checked) session oid other = refl
other_kind o s (author, Halted number entry) session oid other = refl

kinds_from : (o : Opened) (s : Standing) (events : List Event) (session oid : ℕ) → events_of session events ≡ []
    → kind_held (fold (after_event o) s events).locks session oid ≡ kind_held s.locks session oid
kinds_from o s [] session oid none = refl
kinds_from o s (event ∷ events) session oid none =
    let both = not_taken (event.0 == session) event (events_of session events) none in
    kinds_from o (after_event o s event) events session oid both.1 ∙ other_kind o s event session oid both.0

nothing_held : (o : Opened) (events : List Event) (session oid : ℕ) → events_of session events ≡ []
    → kind_held (after_events o events).locks session oid ≡ None
unfolding after_events
nothing_held o events session oid none =
    kinds_from o (before_events o) events session oid none ∙ get-empty holding_cmp (holding session oid)

-- a session without an event holds no lock
pub fresh_holds_none : (t : Told) (session : ℕ) → events_of session t.events ≡ [] → HoldsNone t session
fresh_holds_none t session none (oid, some) =
    false≢true (sym (ap (λ (kind : Option LockKind). is_some kind) (nothing_held t.opened t.events session oid none)) ∙ some)

-- nor does one when others' events have come
pub holds_none_still : (o : Opened) (events others : List Event) (session : ℕ) → events_of session others ≡ [] →
    HoldsNone (record { opened = o; events = events }) session → HoldsNone (record { opened = o; events = events ++ others }) session
holds_none_still o events others session own none (oid, some) =
    none (
      oid,
      ap (λ (kind : Option LockKind). is_some kind) (sym (ap (λ (s : Standing). kind_held s.locks session oid) (after_more o events others)
          ∙ kinds_from o (after_events o events) others session oid own)) ∙ some,
    )

left_none : (o : Opened) (events : List Event) (session oid : ℕ) → kind_held (after_events o (events ++ (session, Left) ∷ [])).locks session oid ≡ None
left_none o events session oid =
    ap (λ (s : Standing). kind_held s.locks session oid) (after_one_more o events (session, Left))
    ∙ left_this (after_events o events).locks session oid

by_holds : (o : Opened) (before after : List Event) (session : ℕ) (holds : Bool) → after ≡ before ++ leaving holds session
    → (HoldsSome (after_events o before) session → IsTrue holds) → HoldsNone (record { opened = o; events = after }) session
by_holds o before after session true is exactly (oid, some) =
    false≢true (sym (ap (λ (kind : Option LockKind). is_some kind)
    (ap (λ (es : List Event). kind_held (after_events o es).locks session oid) is ∙ left_none o before session oid)) ∙ some)
by_holds o before after session false is exactly (oid, some) =
    false≢true (exactly (oid, ap (λ (es : List Event). is_some (kind_held (after_events o es).locks session oid)) (sym (is ∙ append-nil before)) ∙ some))

-- one that has logged out holds none
pub left_holds_none : (o : Opened) (before after : List Event) (session : ℕ) → LogoutSays o before after session
    → HoldsNone (record { opened = o; events = after }) session
left_holds_none o before after session says =
    by_holds o (before ++ says.others) after session says.holds says.events says.exactly.1
