-- The counters after the names that a session's commits drew, and the last event of a serial order.
use Rattle.std.proofs.Common.{◌≡◌, ◌∙◌, refl, sym, ap, subst, ℕ, ◌==◌, false, true≢false, List, [], ◌∷◌, ◌++◌, Option, append_assoc, append-nil}
use Rattle.std.specs.Ordering.{nat_cmp}
use Rattle.std.specs.FinMap.{get-empty}
use Rattle.std.specs.Option.{unwrap_or}
use Rattle.std.specs.List.{fold}
use Rattle.std.proofs.lemmas.Bool.{eq-eqb}
use Rattle.gem_image.proofs.radix_pages_lemmas.Tables.{get-insert_same, get-insert_other}
use Rattle.gem_record.specs.declared.record.Entry.{Entry}
use Rattle.gem_meaning.specs.gem_language.Transaction.{Transaction}
use Rattle.gem_meaning.specs.declared.event.What.TheVariants.{Placed, Held, Dropped, Left, Checked, Halted}
use Rattle.gem_meaning.specs.Opened.{Opened}
use Rattle.gem_meaning.specs.Events.{Event, Standing, next_counter, run_at_place, run_on_view, after_event, before_events, after_events, events_of}
use Rattle.gem_meaning.specs.Serial.{IsSerialEvent, IsSerialFrom, IsSerial}
use Rattle.history_laws.proofs.Views.{after_one_more, after_more}
use Rattle.gem_session.proofs.Apart.{not_taken}

-- an event of another session leaves the session's counter as it is
other_event : (o : Opened) (s : Standing) (event : Event) (session : ℕ) → (event.0 == session) ≡ false
    → next_counter (after_event o s event) session ≡ next_counter s session
other_event o s (author, Placed e) session other =
    ap (λ (found : Option ℕ). unwrap_or found 1) (get-insert_other s.drawn author (run_at_place o s e).world.next session
    (λ same. true≢false (sym (eq-eqb author session (sym same)) ∙ other)))
other_event o s (author, Held oid kind) session other = refl
other_event o s (author, Dropped oid) session other = refl
other_event o s (author, Left) session other = refl
other_event o s (author, Checked) session other = refl
other_event o s (author, Halted number entry) session other = refl

others_from : (o : Opened) (s : Standing) (events : List Event) (session : ℕ) → events_of session events ≡ []
    → next_counter (fold (after_event o) s events) session ≡ next_counter s session
others_from o s [] session none = refl
others_from o s (event ∷ events) session none =
    let both = not_taken (event.0 == session) event (events_of session events) none in
    others_from o (after_event o s event) events session both.1 ∙ other_event o s event session both.0

-- the session's counter stays when events of others come
pub next_of_others : (o : Opened) (before more : List Event) (session : ℕ) → events_of session more ≡ []
    → next_counter (after_events o (before ++ more)) session ≡ next_counter (after_events o before) session
next_of_others o before more session none =
    ap (λ (s : Standing). next_counter s session) (after_more o before more)
    ∙ others_from o (after_events o before) more session none

-- a session without an event has drawn no name
pub next_of_fresh : (o : Opened) (events : List Event) (session : ℕ) → events_of session events ≡ []
    → next_counter (after_events o events) session ≡ 1
unfolding after_events
next_of_fresh o events session none =
    others_from o (before_events o) events session none
    ∙ ap (λ (found : Option ℕ). unwrap_or found 1) (get-empty nat_cmp session)

-- the last event of a serial order fits what stood before it
last_from : (o : Opened) (before events : List Event) (event : Event) → IsSerialFrom o before (events ++ event ∷ [])
    → IsSerialEvent o (before ++ events) event
last_from o before [] event serial =
    subst (λ es. IsSerialEvent o es event) (sym (append-nil before)) serial.0
last_from o before (e ∷ es) event serial =
    subst (λ xs. IsSerialEvent o xs event) (append_assoc before (e ∷ []) es)
    (last_from o (before ++ e ∷ []) es event serial.1)

pub last_is_serial : (o : Opened) (before : List Event) (event : Event)
    → IsSerial (record { opened = o; events = before ++ event ∷ [] }) → IsSerialEvent o before event
unfolding IsSerial
last_is_serial o before event serial = last_from o [] before event serial

-- After its commit was placed, the session's next name comes after those that the run on its view
-- drew.
pub next_of_placed : (o : Opened) (before : List Event) (session : ℕ) (e : Entry)
    → IsSerial (record { opened = o; events = before ++ (session, Placed e) ∷ [] })
    → next_counter (after_events o (before ++ (session, Placed e) ∷ [])) session
    ≡ (run_on_view o (after_events o before) e).world.next
next_of_placed o before session e serial =
    let placed = last_is_serial o before (session, Placed e) serial in
    let s = after_events o before in
    ap (λ (x : Standing). next_counter x session) (after_one_more o before (session, Placed e))
    ∙ ap (λ (found : Option ℕ). unwrap_or found 1) (get-insert_same s.drawn session (run_at_place o s e).world.next session refl)
    ∙ ap (λ (run : Transaction). run.world.next) placed.same
