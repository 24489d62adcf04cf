-- What holds of a record whatever other sessions do.
use Rattle.std.proofs.Common.{◌≡◌, ℕ, ◌≤◌, false, true≢false, inl, inr, List, [], ◌∷◌, ◌++◌, IsSome, refl, sym, ap, subst, ◌∙◌, arith, ◌==◌}
use Rattle.std.specs.List.{AllByRecursion, fold}
use Rattle.std.specs.FinMap.{get}
use Rattle.std.proofs.lemmas.Bool.{eq-eqb}
use Rattle.gem_meaning.specs.gem_image.Image.{objects_in}
use Rattle.gem_meaning.specs.gem_sound.Parts.{user_at}
use Rattle.gem_meaning.specs.gem_record.History.{entry_of}
use Rattle.gem_meaning.specs.gem_record.declared.record.TxnRecord.{TxnRecord}
use Rattle.gem_meaning.specs.gem_record.declared.record.Entry.{Entry}
use Rattle.gem_meaning.specs.declared.event.What.TheVariants.{Placed, Held, Dropped, Left, Checked, Halted}
use Rattle.gem_meaning.specs.Opened.{Opened, run_at, record_on}
use Rattle.gem_meaning.specs.Events.{Event, Told, Standing, told_more, next_counter, run_at_place, run_on_view, record_on_view, after_event, after_events, events_of}
use Rattle.gem_meaning.specs.Serial.{EndedBefore, MayBeginAt, IsRecorded}
use Rattle.history_laws.proofs.Views.{after_more, views_stay, number_stays}
use Rattle.history_laws.proofs.Turns.{not_taken}
use Rattle.history_laws.proofs.Histories.{IsCounterNow, counter_after}

-- events of other sessions name none of the session's commands
pub apart_of_others : (session first : ℕ) (es : List Event) → events_of session es ≡ []
    → AllByRecursion (EndedBefore session first) es
apart_of_others session first [] none = tt
apart_of_others session first ((author, Placed e) ∷ es) none =
    let both = not_taken (author == session) (author, Placed e) (events_of session es) none in (
      λ is. absurd (true≢false (sym (eq-eqb author session is) ∙ both.0)),
      apart_of_others session first es both.1,
    )
apart_of_others session first ((author, Held oid kind) ∷ es) none = (
  tt,
  apart_of_others session first es
      (not_taken (author == session) (author, Held oid kind) (events_of session es) none).1,
)
apart_of_others session first ((author, Dropped oid) ∷ es) none = (
  tt,
  apart_of_others session first es
      (not_taken (author == session) (author, Dropped oid) (events_of session es) none).1,
)
apart_of_others session first ((author, Left) ∷ es) none = (
  tt,
  apart_of_others session first es
      (not_taken (author == session) (author, Left) (events_of session es) none).1,
)
apart_of_others session first ((author, Checked) ∷ es) none = (
  tt,
  apart_of_others session first es
      (not_taken (author == session) (author, Checked) (events_of session es) none).1,
)
apart_of_others session first ((author, Halted number entry) ∷ es) none = (
  tt,
  apart_of_others session first es
      (not_taken (author == session) (author, Halted number entry) (events_of session es) none).1,
)

pub apart_both : (session first : ℕ) (es fs : List Event)
    → AllByRecursion (EndedBefore session first) es → AllByRecursion (EndedBefore session first) fs
    → AllByRecursion (EndedBefore session first) (es ++ fs)
apart_both session first [] fs es_apart fs_apart = fs_apart
apart_both session first (e ∷ es) fs es_apart fs_apart =
    (es_apart.0, apart_both session first es fs es_apart.1 fs_apart)

-- a later command comes after them, too
pub apart_later : (session first later : ℕ) (es : List Event) → first ≤ later
    → AllByRecursion (EndedBefore session first) es → AllByRecursion (EndedBefore session later) es
apart_later session first later [] le apart = tt
apart_later session first later ((author, Placed e) ∷ es) le apart =
    (λ is. let lt = apart.0 is in omega (arith, lt, le), apart_later session first later es le apart.1)
apart_later session first later ((author, Held oid kind) ∷ es) le apart =
    (tt, apart_later session first later es le apart.1)
apart_later session first later ((author, Dropped oid) ∷ es) le apart =
    (tt, apart_later session first later es le apart.1)
apart_later session first later ((author, Left) ∷ es) le apart =
    (tt, apart_later session first later es le apart.1)
apart_later session first later ((author, Checked) ∷ es) le apart =
    (tt, apart_later session first later es le apart.1)
apart_later session first later ((author, Halted number entry) ∷ es) le apart =
    (tt, apart_later session first later es le apart.1)

-- ---- the names that a session has drawn

counter_by : (o : Opened) (s : Standing) (author : ℕ) (e : Entry) (session : ℕ)
    → (author == session) ≡ false
    → IsCounterNow (get s.drawn session) (get (after_event o s (author, Placed e)).drawn session)
    author session (run_at_place o s e).world.next
    → next_counter (after_event o s (author, Placed e)) session ≡ next_counter s session
counter_by o s author e session apart (inl now) =
    absurd (true≢false (sym (eq-eqb author session (sym now.1)) ∙ apart))
counter_by o s author e session apart (inr now) = now.0

counter_stays : (o : Opened) (s : Standing) (event : Event) (session : ℕ)
    → (event.0 == session) ≡ false
    → next_counter (after_event o s event) session ≡ next_counter s session
counter_stays o s (author, Placed e) session apart =
    counter_by o s author e session apart (counter_after o s author e session)
counter_stays o s (author, Held oid kind) session apart = refl
counter_stays o s (author, Dropped oid) session apart = refl
counter_stays o s (author, Left) session apart = refl
counter_stays o s (author, Checked) session apart = refl
counter_stays o s (author, Halted number entry) session apart = refl

counter_from : (o : Opened) (s : Standing) (es : List Event) (session : ℕ) → events_of session es ≡ []
    → next_counter (fold (after_event o) s es) session ≡ next_counter s session
counter_from o s [] session none = refl
counter_from o s (event ∷ es) session none =
    let both = not_taken (event.0 == session) event (events_of session es) none in
    counter_from o (after_event o s event) es session both.1 ∙ counter_stays o s event session both.0

-- the names that others draw aren't a session's
pub counters_stay : (o : Opened) (before more : List Event) (session : ℕ) → events_of session more ≡ []
    → next_counter (after_events o (before ++ more)) session
    ≡ next_counter (after_events o before) session
counters_stay o before more session none =
    ap (λ s. next_counter s session) (after_more o before more)
    ∙ counter_from o (after_events o before) more session none

-- ---- records

pub begins_later : (o : Opened) (before more : List Event) (e : Entry)
    → events_of e.session more ≡ [] → MayBeginAt o (after_events o before) e
    → MayBeginAt o (after_events o (before ++ more)) e
begins_later o before more e none begins = record {
  from = begins.from;
  to = let grows = number_stays o before more in let to = begins.to in omega (arith, grows, to);
  user = subst (λ image. IsSome (user_at (objects_in image) e.user))
      (sym (views_stay o before more e.view begins.from begins.to)) begins.user;
  names = subst (λ next. next ≤ e.first_name) (sym (counters_stay o before more e.session none))
      begins.names;
  names_end = begins.names_end;
}

-- what a transaction gives on its view stays when events come
pub run_stays : (o : Opened) (before more : List Event) (e : Entry) → o.number ≤ e.view
    → e.view ≤ (after_events o before).number
    → run_on_view o (after_events o (before ++ more)) e ≡ run_on_view o (after_events o before) e
unfolding run_on_view
run_stays o before more e from to = ap (λ i. run_at o e i i) (views_stay o before more e.view from to)

pub record_stays : (o : Opened) (before more : List Event) (e : Entry) → o.number ≤ e.view
    → e.view ≤ (after_events o before).number
    → record_on_view o (after_events o (before ++ more)) e ≡ record_on_view o (after_events o before) e
record_stays o before more e from to = ap (record_on o e) (views_stay o before more e.view from to)

-- a record holds whatever others do
pub records_stay : (t : Told) (more : List Event) (done : TxnRecord) → events_of done.session more ≡ []
    → IsRecorded t done → IsRecorded (told_more t more) done
records_stay t more done none recorded = record {
  of_script = recorded.of_script;
  begins = begins_later t.opened t.events more (entry_of done) none recorded.begins;
  apart = apart_both done.session done.first_command t.events more recorded.apart
      (apart_of_others done.session done.first_command more none);
  is = recorded.is ∙ sym (record_stays t.opened t.events more (entry_of done)
      recorded.begins.from recorded.begins.to);
}
