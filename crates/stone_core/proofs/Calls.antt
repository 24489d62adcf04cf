-- What the calls of a Stone that is alone say.
use Rattle.std.proofs.Common.{◌≡◌, ◌≢◌, ◌↔◌, ◌==◌, ℕ, Bool, true, false, is_some, IsTrue, IfOk, Result, Ok, Err, List, [], ◌∷◌, ◌++◌, refl, sym, ap, subst, ◌∙◌, arith, append-nil}
use Rattle.std.proofs.lemmas.Bool.Decides.{nat_tests}
use Rattle.std.proofs.lemmas.List.Elements.{filter-append}
use Rattle.gem_image.specs.Image.{Image}
use Rattle.gem_meaning.specs.gem_sound.Sound.{IsSoundImage}
use Rattle.gem_record.specs.declared.record.TxnRecord.{TxnRecord}
use Rattle.lock_table.specs.Locks.{kind_held}
use Rattle.lock_table.specs.declared.lock.LockKind.{LockKind}
use Rattle.gem_meaning.specs.declared.event.What.{What}
use Rattle.gem_meaning.specs.Events.{Event, Told, Standing, told_more, after_events, standing, events_of, NamesAreFree}
use Rattle.gem_meaning.specs.Serial.{IsConsistent, CanServe, HoldsSome}
use Rattle.gem_meaning.specs.Locks.{leaving}
use Rattle.stone_core.specs.declared.port.CommitAnswer.{CommitAnswer}
use Rattle.stone_core.specs.declared.port.CommitAnswer.TheVariants.{Halted as HaltedAt, ReadOnly, Conflicts, LogFull, DiskFault, Placed as PlacedAt, NoMemory}
use Rattle.stone_core.specs.declared.port.CheckAnswer.{CheckAnswer}
use Rattle.stone_core.specs.declared.port.CheckAnswer.TheVariants.{Halted as HaltedAtCheck, Full, DiskFault as DiskFaultAtCheck, Made, NoMemory as NoMemoryForCheck}
use Rattle.stone_core.specs.declared.port.LockAnswer.{LockAnswer}
use Rattle.stone_core.specs.declared.port.LockAnswer.TheVariants.{Granted, Denied, NoMemory as NoMemoryForLock}
use Rattle.std.specs.declared.alloc.AllocError.{AllocError}
use Rattle.stone_core.specs.declared.port.Begun.{Begun}
use Rattle.stone_core.specs.Stone.{is_session}
use Rattle.stone_core.specs.Port.{PortState, BeginSays, CommitSays, LockSays, UnlockSays, CheckSays, LogoutSays, GoesOn, AnswerFits, LockFits, CheckFits, event_of_answer, event_of_lock, event_of_check, dropping}
use Rattle.stone_core.proofs.OneMore.{session_bounds}

-- a Stone that nobody else uses, as a port
abbrev pub alone : Told → PortState
alone t = record { told = t; serves = is_session t.opened.script; alone = true }

-- no other session made one of the events
abbrev pub AreOwn : ℕ → List Event → Type 0
AreOwn session events = (other : ℕ) → other ≢ session → events_of other events ≡ []

not_same : (session other : ℕ) → other ≢ session → (session == other) ≡ false
not_same session other different = grind (arith, nat_tests)

own_one : (session : ℕ) (what : What) → AreOwn session ((session, what) ∷ [])
own_one session what other different = rw (not_same session other different) refl

pub own_answer : (stands : ℕ) (done : TxnRecord) (answer : CommitAnswer)
    → AreOwn done.session (event_of_answer stands done answer)
own_answer stands done (HaltedAt number) other different = refl
own_answer stands done (ReadOnly number) other different = refl
own_answer stands done (Conflicts found) other different = refl
own_answer stands done (LogFull length size) other different = refl
own_answer stands done DiskFault other different = own_one done.session _ other different
own_answer stands done (PlacedAt number) other different = own_one done.session _ other different
own_answer stands done NoMemory other different = refl

pub own_check : (session stands : ℕ) (answer : CheckAnswer) → AreOwn session (event_of_check session stands answer)
own_check session stands (HaltedAtCheck number) other different = refl
own_check session stands (Full pages) other different = refl
own_check session stands DiskFaultAtCheck other different = own_one session _ other different
own_check session stands (Made number) other different = own_one session _ other different
own_check session stands NoMemoryForCheck other different = refl

pub own_lock : (session oid : ℕ) (answer : LockAnswer) → AreOwn session (event_of_lock session oid answer)
own_lock session oid (Granted kind changed) other different = own_one session _ other different
own_lock session oid (Denied holder held) other different = refl
own_lock session oid NoMemoryForLock other different = refl

pub own_dropping : (held : Bool) (session oid : ℕ) → AreOwn session (dropping held session oid)
own_dropping true session oid other different = own_one session _ other different
own_dropping false session oid other different = refl

pub own_leaving : (holds : Bool) (session : ℕ) → AreOwn session (leaving holds session)
own_leaving true session other different = own_one session _ other different
own_leaving false session other different = refl

-- what every call keeps
pub goes_on_alone : (session : ℕ) (before after : Told) (events : List Event) → after ≡ told_more before events
    → AreOwn session events → IsConsistent after → GoesOn session (alone before) (alone after)
goes_on_alone session before after events is own consistent = record {
  opened = ap (λ (t : Told). t.opened) is;
  extends = (events, ap (λ (t : Told). t.events) is);
  serves = λ other served. ap (λ (t : Told). is_session t.opened.script other) is ∙ served;
  alone = λ _. (
    refl,
    λ other different.
        ap (λ (t : Told). events_of other t.events) is
        ∙ filter-append (λ event. event.0 == other) before.events events
        ∙ ap (λ more. events_of other before.events ++ more) (own other different)
        ∙ append-nil (events_of other before.events),
  );
  consistent = consistent;
}

-- the same where nothing came
pub stays_alone : (session : ℕ) (t : Told) → IsConsistent t → GoesOn session (alone t) (alone t)
stays_alone session t consistent =
    goes_on_alone session t t [] (ap (λ es. record t { events = es }) (sym (append-nil t.events))) (λ other different. refl) consistent

module _ (before : Told) where
  own_come : (after : Told) (events : List Event) → after ≡ told_more before events
      → after.events ≡ (before.events ++ []) ++ events
  own_come after events is = ap (λ (t : Told). t.events) is ∙ ap (λ es. es ++ events) (sym (append-nil before.events))

  -- where no others' events came the same stands
  then_stands : (P : Standing → Type 0) → P (standing before) → P (after_events before.opened (before.events ++ []))
  then_stands P holds = subst (λ es. P (after_events before.opened es)) (sym (append-nil before.events)) holds

  module _ (session : ℕ) (opening : CanServe before.opened) (sound : IsSoundImage (standing before).image)
      (free : NamesAreFree before.opened (standing before) session)
      (serves : is_session before.opened.script session ≡ true) where
    begins_alone : (image : Image) (number : ℕ) → image ≡ (standing before).image → number ≡ (standing before).number
        → BeginSays before.opened session before.events before.events image number
    begins_alone image number image_is number_is =
        let bounds = session_bounds before.opened session serves in
        record {
          others_came = ([], refl, sym (append-nil before.events));
          image_is = image_is;
          number_is = number_is;
          sound = subst IsSoundImage (sym image_is) sound;
          serial_bound =
              let serials = opening.serials in
              let first = bounds.0 in
              let last = bounds.1 in
              omega (arith, serials, first, last);
          free = free;
        }

    pub begun_alone : (result : Result Begun AllocError)
        → IfOk result (λ (b : Begun). b.image ≡ (standing before).image)
        → IfOk result (λ (b : Begun). b.number ≡ (standing before).number)
        → IfOk result (λ (b : Begun). BeginSays before.opened session before.events before.events b.image b.number)
    begun_alone (Ok b) image_is number_is = begins_alone b.image b.number image_is number_is
    begun_alone (Err e) image_is number_is = tt

  pub commit_alone : (after : Told) (done : TxnRecord) (answer : CommitAnswer)
      → after ≡ told_more before (event_of_answer (standing before).number done answer)
      → AnswerFits before.opened before.events done answer
      → CommitSays before.opened before.events after.events done answer
  commit_alone after done answer is fits = record {
    others = [];
    are_others = refl;
    events = then_stands (λ s. after.events ≡ (before.events ++ []) ++ event_of_answer s.number done answer)
        (own_come after (event_of_answer (standing before).number done answer) is);
    fits = subst (λ es. AnswerFits before.opened es done answer) (sym (append-nil before.events)) fits;
  }

  pub check_alone : (after : Told) (session : ℕ) (answer : CheckAnswer)
      → after ≡ told_more before (event_of_check session (standing before).number answer)
      → CheckFits before.opened before.events answer
      → CheckSays before.opened before.events after.events session answer
  check_alone after session answer is fits = record {
    others = [];
    are_others = refl;
    events = then_stands (λ s. after.events ≡ (before.events ++ []) ++ event_of_check session s.number answer)
        (own_come after (event_of_check session (standing before).number answer) is);
    fits = subst (λ es. CheckFits before.opened es answer) (sym (append-nil before.events)) fits;
  }

  pub lock_alone : (after : Told) (session oid : ℕ) (asked : LockKind) (answer : LockAnswer)
      → after ≡ told_more before (event_of_lock session oid answer)
      → LockFits (standing before) session oid asked answer
      → LockSays before.opened before.events after.events session oid asked answer
  lock_alone after session oid asked answer is fits = record {
    others = [];
    are_others = refl;
    events = own_come after (event_of_lock session oid answer) is;
    fits = then_stands (λ s. LockFits s session oid asked answer) fits;
  }

  pub unlock_alone : (after : Told) (session oid : ℕ) (held : Bool) → after ≡ told_more before (dropping held session oid)
      → held ≡ is_some (kind_held (standing before).locks session oid)
      → UnlockSays before.opened before.events after.events session oid held
  unlock_alone after session oid held is held_is = record {
    others = [];
    are_others = refl;
    events = own_come after (dropping held session oid) is;
    held_is = then_stands (λ s. held ≡ is_some (kind_held s.locks session oid)) held_is;
  }

  pub logout_alone : (after : Told) (session : ℕ) (holds : Bool) → after ≡ told_more before (leaving holds session)
      → IsTrue holds ↔ HoldsSome (standing before) session
      → LogoutSays before.opened before.events after.events session
  logout_alone after session holds is exactly = record {
    others = [];
    are_others = refl;
    holds = holds;
    events = own_come after (leaving holds session) is;
    exactly = then_stands (λ s. IsTrue holds ↔ HoldsSome s session) exactly;
  }
