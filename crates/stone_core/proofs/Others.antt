-- Calls of a Stone that others use, too: what each says when others' events have come first.
use Rattle.std.proofs.Common.{◌≡◌, ◌≢◌, ◌∙◌, refl, sym, ap, ap₂, subst, ℕ, ◌+◌, ◌<◌, ◌≤◌, Bool, true, false, true≢false, IsSome, is_some, IsTrue, ◌↔◌, List, [], ◌∷◌, ◌++◌, length, take, drop, Result, Ok, Err, IfOk, IfErr, append_assoc, length-append, take_at, drop_at, arith}
use Rattle.std.specs.FinMap.{get}
use Rattle.std.specs.List.{All, fold}
use Rattle.gem_record.specs.gem_image.Image.{Image}
use Rattle.gem_record.specs.declared.record.TxnRecord.{TxnRecord}
use Rattle.lock_table.specs.Locks.{kind_held}
use Rattle.lock_table.specs.declared.lock.LockKind.{LockKind}
use Rattle.gem_meaning.specs.declared.event.What.TheVariants.{Placed, Held, Dropped, Left, Checked, Halted}
use Rattle.gem_meaning.specs.Opened.{Opened}
use Rattle.gem_meaning.specs.Events.{Event, Told, Standing, after_event, after_events, standing, events_of, Extends, OthersCame, told_more}
use Rattle.gem_meaning.specs.Serial.{IsRecorded, HoldsSome}
use Rattle.gem_meaning.specs.Locks.{leaving}
use Rattle.stone_core.specs.declared.port.Begun.{Begun}
use Rattle.stone_core.specs.declared.port.CommitAnswer.{CommitAnswer}
use Rattle.stone_core.specs.declared.port.CheckAnswer.{CheckAnswer}
use Rattle.stone_core.specs.declared.port.LockAnswer.{LockAnswer}
use Rattle.stone_core.specs.Port.{PortState, alone_with, CommitSays, LockSays, UnlockSays, LogoutSays, GoesOn, AnswerFits, LockFits, BeginSays, event_of_answer, event_of_lock, dropping, CheckSays, CheckFits, event_of_check}
use Rattle.history_laws.proofs.Apart.{records_stay}
use Rattle.history_laws.proofs.Locked.{still_there}
use Rattle.history_laws.proofs.Views.{after_more}
use Rattle.history_laws.proofs.Turns.{none_of, nothing_more, own_alone}

-- ---- what came

-- In a call for this session of a Stone that nobody else uses: the events before stay in front, and
-- what comes is the session's own.
pub record Adds (session : ℕ) (before after : List Event) : Type 0 where
  pub within : length before ≤ length after
  pub front : before ≡ take (length before) after
  pub own : All (λ event. event.0 ≡ session) (drop (length before) after)

pub adds : (session : ℕ) (t u : Told) → GoesOn session (alone_with t) (alone_with u)
    → Adds session t.events u.events
adds session t u on =
    let more = on.extends in
    let es = t.events in
    let own : All (λ event. event.0 ≡ session) more.0 =
    own_alone session more.0
    (λ other different. nothing_more other es more.0
    (sym (ap (events_of other) more.1) ∙ (on.alone refl).1 other different)) in
    record {
      within = omega (arith, ap length more.1, length-append es more.0);
      front = sym (ap (take (length es)) more.1 ∙ take_at es more.0 (length es) refl);
      own = subst (All (λ event. event.0 ≡ session))
          (sym (ap (drop (length es)) more.1 ∙ drop_at es more.0 (length es) refl)) own;
    }

extends_by : (session : ℕ) (xs ys : List Event) → OthersCame session xs ys → Extends xs ys
extends_by session xs ys came = (came.0, came.2)

extends_twice : (xs ys zs : List Event) → Extends xs ys → Extends ys zs → Extends xs zs
extends_twice xs ys zs one two =
    (one.0 ++ two.0, two.1 ∙ ap (λ es. es ++ two.0) one.1 ∙ append_assoc xs one.0 two.0)

-- A call of the Stone, after others, as one of a port that serves these sessions.
pub goes_on_shared : (serves : Opened → ℕ → Bool) (session : ℕ) (s t u : Told) → t.opened ≡ s.opened
    → OthersCame session s.events t.events → GoesOn session (alone_with t) (alone_with u)
    → GoesOn session (record { told = s; serves = serves s.opened; alone = false })
    (record { told = u; serves = serves u.opened; alone = false })
goes_on_shared serves session s t u opened came on = record {
  opened = on.opened ∙ opened;
  extends = extends_twice s.events t.events u.events (extends_by session s.events t.events came) on.extends;
  serves = λ other served. ap (λ (o : Opened). serves o other) (on.opened ∙ opened) ∙ served;
  alone = λ is. absurd (true≢false (sym is));
  consistent = on.consistent;
}

-- ---- what it says when others' events came first

later_is : (s t : Told) (session : ℕ) → t.opened ≡ s.opened → (came : OthersCame session s.events t.events)
    → t ≡ told_more s came.0
later_is s t session opened came =
    ap₂ (λ (o : Opened) (es : List Event). record { opened = o; events = es }) opened came.2

-- the record of the session holds when others have come
pub recorded_shared : (s t : Told) (r : TxnRecord) → t.opened ≡ s.opened
    → OthersCame r.session s.events t.events → IsRecorded s r → IsRecorded t r
recorded_shared s t r opened came recorded =
    subst (λ (x : Told). IsRecorded x r) (sym (later_is s t r.session opened came)) (records_stay s came.0 r came.1 recorded)

there_after : (o : Opened) (s : Standing) (more : List Event) (oid : ℕ) → IsSome (get s.image oid)
    → IsSome (get (fold (after_event o) s more).image oid)
there_after o s [] oid there = there
there_after o s (event ∷ more) oid there = there_after o (after_event o s event) more oid (one event)
  where
    one : (e : Event) → IsSome (get (after_event o s e).image oid)
    one (session, Placed e) = still_there o s e oid there
    one (session, Held at kind) = there
    one (session, Dropped at) = there
    one (session, Left) = there
    one (session, Checked) = there
    one (session, Halted number e) = there

-- an object is there when others have come
pub there_shared : (s t : Told) (session oid : ℕ) → t.opened ≡ s.opened → OthersCame session s.events t.events
    → IsSome (get (standing s).image oid) → IsSome (get (standing t).image oid)
there_shared s t session oid opened came there =
    subst (λ (x : Told). IsSome (get (standing x).image oid)) (sym (later_is s t session opened came))
    (subst (λ (x : Standing). IsSome (get x.image oid)) (sym (after_more s.opened s.events came.0))
    (there_after s.opened (standing s) came.0 oid there))

-- ---- what the calls say, after others

module _ (o : Opened) (before between after : List Event) (session : ℕ) (came : OthersCame session before between) where
  none_came : (others : List Event) → events_of session others ≡ [] → events_of session (came.0 ++ others) ≡ []
  none_came others none = none_of session came.0 others came.1 none

  joined : (others : List Event) → between ++ others ≡ before ++ (came.0 ++ others)
  joined others = ap (λ es. es ++ others) came.2 ∙ append_assoc before came.0 others

  came_twice : OthersCame session between after → OthersCame session before after
  came_twice more = (came.0 ++ more.0, none_came more.0 more.1, more.2 ∙ joined more.0)

  begin_after : (image : Image) (number : ℕ) → BeginSays o session between after image number
      → BeginSays o session before after image number
  begin_after image number says = record {
    others_came = came_twice says.others_came;
    image_is = says.image_is;
    number_is = says.number_is;
    sound = says.sound;
    serial_bound = says.serial_bound;
    free = says.free;
  }

  lock_after : (oid : ℕ) (asked : LockKind) (answer : LockAnswer) → LockSays o between after session oid asked answer
      → LockSays o before after session oid asked answer
  lock_after oid asked answer says = record {
    others = came.0 ++ says.others;
    are_others = none_came says.others says.are_others;
    events = says.events ∙ ap (λ es. es ++ event_of_lock session oid answer) (joined says.others);
    fits = subst (λ es. LockFits (after_events o es) session oid asked answer) (joined says.others) says.fits;
  }

  unlock_after : (oid : ℕ) (held : Bool) → UnlockSays o between after session oid held → UnlockSays o before after session oid held
  unlock_after oid held says = record {
    others = came.0 ++ says.others;
    are_others = none_came says.others says.are_others;
    events = says.events ∙ ap (λ es. es ++ dropping held session oid) (joined says.others);
    held_is = subst (λ es. held ≡ is_some (kind_held (after_events o es).locks session oid)) (joined says.others) says.held_is;
  }

  logout_after : LogoutSays o between after session → LogoutSays o before after session
  logout_after says = record {
    others = came.0 ++ says.others;
    are_others = none_came says.others says.are_others;
    holds = says.holds;
    events = says.events ∙ ap (λ es. es ++ leaving says.holds session) (joined says.others);
    exactly = subst (λ es. IsTrue says.holds ↔ HoldsSome (after_events o es) session) (joined says.others) says.exactly;
  }

commit_after : (o : Opened) (before between after : List Event) (r : TxnRecord) (answer : CommitAnswer)
    → OthersCame r.session before between → CommitSays o between after r answer → CommitSays o before after r answer
commit_after o before between after r answer came says =
    let is = joined o before between after r.session came says.others in
    record {
      others = came.0 ++ says.others;
      are_others = none_came o before between after r.session came says.others says.are_others;
      events = says.events ∙ ap (λ es. es ++ event_of_answer (after_events o es).number r answer) is;
      fits = subst (λ es. AnswerFits o es r answer) is says.fits;
    }

check_after : (o : Opened) (before between after : List Event) (session : ℕ) (answer : CheckAnswer)
    → OthersCame session before between → CheckSays o between after session answer → CheckSays o before after session answer
check_after o before between after session answer came says =
    let is = joined o before between after session came says.others in
    record {
      others = came.0 ++ says.others;
      are_others = none_came o before between after session came says.others says.are_others;
      events = says.events ∙ ap (λ es. es ++ event_of_check session (after_events o es).number answer) is;
      fits = subst (λ es. CheckFits o es answer) is says.fits;
    }

module _ (s t u : Told) (opened : t.opened ≡ s.opened) where
  pub commit_shared : (r : TxnRecord) (answer : CommitAnswer) → OthersCame r.session s.events t.events
      → CommitSays t.opened t.events u.events r answer → CommitSays s.opened s.events u.events r answer
  commit_shared r answer came says = commit_after s.opened s.events t.events u.events r answer came
      (subst (λ o. CommitSays o t.events u.events r answer) opened says)

  module _ (session : ℕ) (came : OthersCame session s.events t.events) where
    pub begin_shared : (image : Image) (number : ℕ) → BeginSays t.opened session t.events u.events image number
        → BeginSays s.opened session s.events u.events image number
    begin_shared image number says = begin_after s.opened s.events t.events u.events session came image number
        (subst (λ o. BeginSays o session t.events u.events image number) opened says)

    pub still_others : OthersCame session t.events u.events → OthersCame session s.events u.events
    still_others = came_twice s.opened s.events t.events u.events session came

    pub lock_shared : (oid : ℕ) (asked : LockKind) (answer : LockAnswer) → LockSays t.opened t.events u.events session oid asked answer
        → LockSays s.opened s.events u.events session oid asked answer
    lock_shared oid asked answer says = lock_after s.opened s.events t.events u.events session came oid asked answer
        (subst (λ o. LockSays o t.events u.events session oid asked answer) opened says)

    pub unlock_shared : (oid : ℕ) (held : Bool) → UnlockSays t.opened t.events u.events session oid held
        → UnlockSays s.opened s.events u.events session oid held
    unlock_shared oid held says = unlock_after s.opened s.events t.events u.events session came oid held
        (subst (λ o. UnlockSays o t.events u.events session oid held) opened says)

    pub check_shared : (answer : CheckAnswer) → CheckSays t.opened t.events u.events session answer
        → CheckSays s.opened s.events u.events session answer
    check_shared answer says = check_after s.opened s.events t.events u.events session answer came
        (subst (λ o. CheckSays o t.events u.events session answer) opened says)

    pub logout_shared : LogoutSays t.opened t.events u.events session → LogoutSays s.opened s.events u.events session
    logout_shared says = logout_after s.opened s.events t.events u.events session came
        (subst (λ o. LogoutSays o t.events u.events session) opened says)

-- what a call that begins a transaction says, after others
pub begun_shared : {E : Type 0} (s t u : Told) (session : ℕ) → t.opened ≡ s.opened → OthersCame session s.events t.events
    → (result : Result Begun E)
    → IfOk result (λ begun. BeginSays t.opened session t.events u.events begun.image begun.number)
    → IfOk result (λ begun. BeginSays s.opened session s.events u.events begun.image begun.number)
begun_shared s t u session opened came (Ok begun) says = begin_shared s t u opened session came begun.image begun.number says
begun_shared s t u session opened came (Err ended) says = says

pub starved_shared : {E : Type 0} (s t u : Told) (session : ℕ) → t.opened ≡ s.opened → OthersCame session s.events t.events
    → (result : Result Begun E) → IfErr result (λ ended. OthersCame session t.events u.events)
    → IfErr result (λ ended. OthersCame session s.events u.events)
starved_shared s t u session opened came (Ok begun) others = others
starved_shared s t u session opened came (Err ended) others = still_others s t u opened session came others
