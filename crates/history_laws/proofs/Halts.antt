-- Histories in which the disk fails, and what is stored after events.
use Rattle.std.proofs.Common.{◌≡◌, ℕ, List, [], ◌∷◌, ◌++◌, length, Option, Some, None, refl, sym, ap, subst, ◌∙◌, append-nil, arith}
use Rattle.std.specs.List.{AllByRecursion, fold}
use Rattle.std.proofs.lemmas.List.Elements.{filter_map-append}
use Rattle.gem_meaning.specs.gem_image.Image.{IsImage}
use Rattle.gem_meaning.specs.gem_sound.Sound.{IsSoundImage}
use Rattle.gem_meaning.specs.gem_record.Stored.{Stored}
use Rattle.gem_meaning.specs.gem_record.declared.record.Entry.{Entry}
use Rattle.gem_meaning.specs.declared.event.What.TheVariants.{Placed, Held, Dropped, Left, Checked, Halted}
use Rattle.gem_meaning.specs.Opened.{Opened}
use Rattle.gem_meaning.specs.Events.{Event, Told, Standing, after_event, before_events, after_events, standing, halt_of, halts_in, IsRunning, HasHaltedAt}
use Rattle.gem_meaning.specs.After.{stored_with, stored_from, stored_after}
use Rattle.gem_meaning.specs.Serial.{IsSerialEvent, IsSerialFrom, IsSerial, CanServe}
use Rattle.history_laws.specs.Halts.{IsOfLocks}
use Rattle.history_laws.proofs.Commits.{CommitsKeep}
use Rattle.history_laws.proofs.Sound.{AllSound}
use Rattle.history_laws.proofs.Histories.{all_sound, placed_sound}
use Rattle.history_laws.proofs.OneMore.{serial_front, serial_back}
use Rattle.history_laws.proofs.Views.{after_one_more, after_more, image_now, number_at_least}

-- ---- whether the disk has failed

pub halts_more : (before more : List Event) → halts_in (before ++ more) ≡ halts_in before ++ halts_in more
halts_more before more = filter_map-append (λ event. halt_of event.1) before more

empty_front : {A : Type 0} (xs ys : List A) → xs ++ ys ≡ [] → xs ≡ []
empty_front [] ys none = refl
empty_front (x ∷ xs) ys none = absurd (omega (arith, ap length none))

-- a front of events runs, where they run
pub runs_front : (before more : List Event) → IsRunning (before ++ more) → IsRunning before
runs_front before more running =
    empty_front (halts_in before) (halts_in more) (sym (halts_more before more) ∙ running)

-- events that halt nothing change nothing of this
pub halts_same : (before more : List Event) → halts_in more ≡ [] → halts_in (before ++ more) ≡ halts_in before
halts_same before more none =
    halts_more before more ∙ (ap (λ more. halts_in before ++ more) none ∙ append-nil (halts_in before))

-- the first failure
pub halts_first : (before : List Event) (session number : ℕ) (entry : Option Entry) → IsRunning before
    → HasHaltedAt (before ++ (session, Halted number entry) ∷ []) number
halts_first before session number entry running =
    halts_more before ((session, Halted number entry) ∷ []) ∙ ap (λ ns. ns ++ number ∷ []) running

filled : {A : Type 0} (xs : List A) (x : A) (ys : List A) → xs ++ x ∷ ys ≡ [] → ⊥
filled [] x ys none = omega (arith, ap length none)
filled (y ∷ xs) x ys none = omega (arith, ap length none)

-- events with a failure among them don't run
not_running : (before : List Event) (session number : ℕ) (entry : Option Entry)
    → IsRunning (before ++ (session, Halted number entry) ∷ []) → ⊥
not_running before session number entry running = filled (halts_in before) number []
    (sym (halts_more before ((session, Halted number entry) ∷ [])) ∙ running)

-- ---- what comes after it

locks_from : (o : Opened) (before more : List Event) → (IsRunning before → ⊥) → IsSerialFrom o before more
    → AllByRecursion IsOfLocks more
locks_from o before [] halted serial = tt
locks_from o before ((session, Placed e) ∷ more) halted serial = absurd (halted serial.0.running)
locks_from o before ((session, Held oid kind) ∷ more) halted serial = (
  tt,
  locks_from o (before ++ (session, Held oid kind) ∷ []) more
      (λ running. halted (runs_front before ((session, Held oid kind) ∷ []) running)) serial.1,
)
locks_from o before ((session, Dropped oid) ∷ more) halted serial = (
  tt,
  locks_from o (before ++ (session, Dropped oid) ∷ []) more
      (λ running. halted (runs_front before ((session, Dropped oid) ∷ []) running)) serial.1,
)
locks_from o before ((session, Left) ∷ more) halted serial = (
  tt,
  locks_from o (before ++ (session, Left) ∷ []) more
      (λ running. halted (runs_front before ((session, Left) ∷ []) running)) serial.1,
)
locks_from o before ((session, Checked) ∷ more) halted serial = absurd (halted serial.0)
locks_from o before ((session, Halted number (Some e)) ∷ more) halted serial =
    absurd (halted serial.0.1.running)
locks_from o before ((session, Halted number None) ∷ more) halted serial = absurd (halted serial.0.1)

-- events about locks halt nothing
none_halts : (more : List Event) → AllByRecursion IsOfLocks more → halts_in more ≡ []
none_halts [] all = refl
none_halts ((session, Placed e) ∷ more) all = absurd all.0
none_halts ((session, Held oid kind) ∷ more) all = none_halts more all.1
none_halts ((session, Dropped oid) ∷ more) all = none_halts more all.1
none_halts ((session, Left) ∷ more) all = none_halts more all.1
none_halts ((session, Checked) ∷ more) all = absurd all.0
none_halts ((session, Halted number entry) ∷ more) all = absurd all.0

-- nothing had halted before a failure
ran_before : (o : Opened) (before : List Event) (session number : ℕ) (entry : Option Entry)
    → IsSerialEvent o before (session, Halted number entry) → IsRunning before
ran_before o before session number (Some e) serial = serial.1.running
ran_before o before session number None serial = serial.1

-- the number stays, where events are about locks
number_from : (o : Opened) (s : Standing) (more : List Event) → AllByRecursion IsOfLocks more
    → (fold (after_event o) s more).number ≡ s.number
number_from o s [] all = refl
number_from o s ((session, Placed e) ∷ more) all = absurd all.0
number_from o s ((session, Held oid kind) ∷ more) all =
    number_from o (after_event o s (session, Held oid kind)) more all.1
number_from o s ((session, Dropped oid) ∷ more) all =
    number_from o (after_event o s (session, Dropped oid)) more all.1
number_from o s ((session, Left) ∷ more) all = number_from o (after_event o s (session, Left)) more all.1
number_from o s ((session, Checked) ∷ more) all = absurd all.0
number_from o s ((session, Halted number entry) ∷ more) all = absurd all.0

-- and so does the image
image_from : (o : Opened) (s : Standing) (more : List Event) → AllByRecursion IsOfLocks more
    → (fold (after_event o) s more).image ≡ s.image
image_from o s [] all = refl
image_from o s ((session, Placed e) ∷ more) all = absurd all.0
image_from o s ((session, Held oid kind) ∷ more) all =
    image_from o (after_event o s (session, Held oid kind)) more all.1
image_from o s ((session, Dropped oid) ∷ more) all =
    image_from o (after_event o s (session, Dropped oid)) more all.1
image_from o s ((session, Left) ∷ more) all = image_from o (after_event o s (session, Left)) more all.1
image_from o s ((session, Checked) ∷ more) all = absurd all.0
image_from o s ((session, Halted number entry) ∷ more) all = absurd all.0

module _ (t : Told) (serial : IsSerial t) (before more : List Event) (session number : ℕ)
    (entry : Option Entry) (split : t.events ≡ before ++ (session, Halted number entry) ∷ more) where
  whole : IsSerialFrom t.opened [] (before ++ (session, Halted number entry) ∷ more)
  unfolding IsSerial
  whole = subst (IsSerialFrom t.opened []) split serial

  after_halt : IsSerialEvent t.opened before (session, Halted number entry)
      × IsSerialFrom t.opened (before ++ (session, Halted number entry) ∷ []) more
  after_halt = serial_back t.opened [] before ((session, Halted number entry) ∷ more) whole

  pub front_is_serial : IsSerial (record { opened = t.opened; events = before })
  unfolding IsSerial
  front_is_serial = serial_front t.opened [] before ((session, Halted number entry) ∷ more) whole

  pub locks_alone : AllByRecursion IsOfLocks more
  locks_alone = locks_from t.opened (before ++ (session, Halted number entry) ∷ []) more
      (not_running before session number entry) after_halt.1

  pub image_as_it_was : (standing t).image ≡ (after_events t.opened before).image
  image_as_it_was =
      ap (λ es. (after_events t.opened es).image) split
      ∙ (ap (λ (s : Standing). s.image) (after_more t.opened before ((session, Halted number entry) ∷ more))
      ∙ image_from t.opened (after_events t.opened before) more locks_alone)

  pub number_as_it_was : (standing t).number ≡ (after_events t.opened before).number
  number_as_it_was =
      ap (λ es. (after_events t.opened es).number) split
      ∙ (ap (λ (s : Standing). s.number) (after_more t.opened before ((session, Halted number entry) ∷ more))
      ∙ number_from t.opened (after_events t.opened before) more locks_alone)

  pub halted_once : HasHaltedAt t.events number
  halted_once =
      ap halts_in split
      ∙ (halts_more before ((session, Halted number entry) ∷ more)
      ∙ (ap (λ ns. ns ++ number ∷ halts_in more) (ran_before t.opened before session number entry after_halt.0)
      ∙ ap (λ ns. number ∷ ns) (none_halts more locks_alone)))

-- ---- the commit in flight

flight_sound : (t : Told) → CommitsKeep → CanServe t.opened → IsSerial t → (before more : List Event)
    → (session number : ℕ) (e : Entry) → t.events ≡ before ++ (session, Halted number (Some e)) ∷ more
    → AllSound t.opened (after_events t.opened (before ++ (session, Placed e) ∷ []))
flight_sound t law serves serial before more session number e split =
    let o = t.opened in
    let here = after_halt t serial before more session number (Some e) split in
    subst (AllSound o) (sym (after_one_more o before (session, Placed e)))
    (placed_sound o before session e serves law here.0.1
    (all_sound (record { opened = o; events = before }) law serves
    (front_is_serial t serial before more session number (Some e) split)))

-- the image with it is sound, and can be stored
pub flight_image : (t : Told) → CommitsKeep → CanServe t.opened → IsSerial t → (before more : List Event)
    → (session number : ℕ) (e : Entry) → t.events ≡ before ++ (session, Halted number (Some e)) ∷ more
    → IsImage (after_events t.opened (before ++ (session, Placed e) ∷ [])).image
    × IsSoundImage (after_events t.opened (before ++ (session, Placed e) ∷ [])).image
flight_image t law serves serial before more session number e split =
    let now = after_events t.opened (before ++ (session, Placed e) ∷ []) in
    let all = flight_sound t law serves serial before more session number e split in
    let here = all.images now.number (number_at_least t.opened (before ++ (session, Placed e) ∷ [])) (omega arith) in
    let same = image_now now now.number refl in
    (subst IsImage same here.image, subst IsSoundImage same here.sound)

pub flight_number : (t : Told) → IsSerial t → (before more : List Event) (session number : ℕ) (e : Entry)
    → t.events ≡ before ++ (session, Halted number (Some e)) ∷ more
    → number ≡ (after_events t.opened (before ++ (session, Placed e) ∷ [])).number
flight_number t serial before more session number e split =
    (after_halt t serial before more session number (Some e) split).0.0
    ∙ ap (λ (s : Standing). s.number) (sym (after_one_more t.opened before (session, Placed e)))

-- ---- what is stored

stored_push : (o : Opened) (s : Standing) (stored : Stored) (events : List Event) (event : Event)
    → stored_from o s stored (events ++ event ∷ [])
    ≡ stored_with o (fold (after_event o) s events) (stored_from o s stored events) event
stored_push o s stored [] event = refl
stored_push o s stored (first ∷ rest) event =
    stored_push o (after_event o s first) (stored_with o s stored first) rest event

-- what is stored after one event more
pub stored_more : (o : Opened) (events : List Event) (event : Event)
    → stored_after o (events ++ event ∷ []) ≡ stored_with o (after_events o events) (stored_after o events) event
unfolding stored_after after_events
stored_more o events event = stored_push o (before_events o) o.stored events event

pub stored_first : (o : Opened) → stored_after o [] ≡ o.stored
unfolding stored_after
stored_first o = refl
