-- What each call of a Stone answers, by the events before and after it. Events of other sessions
-- may come first; then the call's own one. Each answer is judged when the others' events have come.
use Rattle.std.specs.Prelude.{◌≡◌, ◌≢◌, ◌↔◌, ◌<◌, ◌≤◌, ℕ, ◌+◌, Bool, true, IsTrue, List, [], ◌∷◌, ◌++◌, Some, None, is_some}
use Rattle.gem_image.specs.Image.{Image}
use Rattle.gem_meaning.specs.gem_sound.Sound.{IsSoundImage}
use Rattle.gem_record.specs.declared.record.TxnRecord.{TxnRecord}
use Rattle.gem_record.specs.History.{entry_of}
use Rattle.gem_record.specs.Effects.{log_record_size}
use Rattle.gem_record.specs.declared.limits.TheConstants.{LOG_LIMIT, PAGE_LIMIT}
use Rattle.commit_check.specs.Conflicts.{last_change}
use Rattle.lock_table.specs.LockKind.{kind_granted}
use Rattle.lock_table.specs.Locks.{kind_held, denied_for}
use Rattle.lock_table.specs.declared.lock.LockKind.{LockKind}
use Rattle.gem_meaning.specs.declared.event.What.TheVariants.{Placed, Held, Dropped, Checked, Halted}
use Rattle.gem_meaning.specs.Opened.{Opened, session_serial}
use Rattle.gem_meaning.specs.Effect.{IsUnchanged, effect_at}
use Rattle.gem_meaning.specs.Events.{Event, Told, Standing, NamesAreFree, after_events, events_of, Extends, OthersCame, conflicts_at, IsRunning, HasHaltedAt}
use Rattle.gem_meaning.specs.After.{log_after, pages_after}
use Rattle.gem_meaning.specs.Checkpoints.{MayCheck}
use Rattle.gem_meaning.specs.Serial.{HoldsSome, IsConsistent, serial_limit}
use Rattle.gem_meaning.specs.Locks.{leaving}
use Rattle.stone_core.specs.Stone.{is_session}
use Rattle.stone_core.specs.declared.port.CommitAnswer.{CommitAnswer}
use Rattle.stone_core.specs.declared.port.CommitAnswer.TheVariants.{Halted as HaltedAt, ReadOnly, Conflicts, LogFull, DiskFault, Placed as PlacedAt, NoMemory}
use Rattle.stone_core.specs.declared.port.CheckAnswer.{CheckAnswer}
use Rattle.stone_core.specs.declared.port.CheckAnswer.TheVariants.{Halted as HaltedAtCheck, Full, DiskFault as DiskFaultAtCheck, Made, NoMemory as NoMemoryForCheck}
use Rattle.stone_core.specs.declared.port.LockAnswer.{LockAnswer}
use Rattle.stone_core.specs.declared.port.LockAnswer.TheVariants.{Granted, Denied, NoMemory as NoMemoryForLock}

-- ---- the beginning of a transaction

-- Others' events came, and the image and the number are those that stand then. The image is sound,
-- and the session's further names are free in it.
pub record BeginSays (o : Opened) (session : ℕ) (before after : List Event) (image : Image)
    (number : ℕ) : Type 0 where
  pub others_came : OthersCame session before after
  pub image_is : image ≡ (after_events o after).image
  pub number_is : number ≡ (after_events o after).number
  pub sound : IsSoundImage image
  pub serial_bound : session_serial o session < serial_limit
  pub free : NamesAreFree o (after_events o after) session

-- ---- a commit

-- the event that an answer makes, where this number stands
abbrev pub event_of_answer : (stands : ℕ) → TxnRecord → CommitAnswer → List Event
event_of_answer stands done (PlacedAt number) = (done.session, Placed (entry_of done)) ∷ []
event_of_answer stands done DiskFault =
    (done.session, Halted (stands + 1) (Some (entry_of done))) ∷ []
event_of_answer stands done _ = []

-- the bytes in the log of the commit of this record, where this stands
abbrev pub size_at : Standing → TxnRecord → ℕ
size_at s done = log_record_size (record {
  number = s.number + 1;
  objects = effect_at s.image (s.number + 1) done;
})

-- After these events the disk hasn't failed, and the record has something to commit and no
-- conflict.
pub record IsFree (o : Opened) (events : List Event) (done : TxnRecord) : Type 0 where
  pub running : IsRunning events
  pub changed : IsUnchanged done → ⊥
  pub no_conflict : conflicts_at (after_events o events) done ≡ []

-- And it fits into the log.
pub record MayPlace (o : Opened) (events : List Event) (done : TxnRecord) : Type 0 where
  pub free : IsFree o events done
  pub fits : log_after o events + size_at (after_events o events) done ≤ LOG_LIMIT

-- Where the disk had failed that is answered. Where nothing was written or updated, the commit is
-- read only. Otherwise it is refused where it has conflicts at this point; else the log is full
-- where it has no room for the commit's record; and else it is placed, with the next number, or the
-- disk fails. Where something was changed memory may be wanting instead.
abbrev pub AnswerFits : Opened → List Event → TxnRecord → CommitAnswer → Type 0
AnswerFits o events done (HaltedAt number) = HasHaltedAt events number
AnswerFits o events done (ReadOnly number) =
    IsUnchanged done × (number ≡ done.view) × IsRunning events
AnswerFits o events done (Conflicts found) = (IsUnchanged done → ⊥) × (found ≢ [])
    × (found ≡ conflicts_at (after_events o events) done) × IsRunning events
AnswerFits o events done (LogFull length size) = IsFree o events done
    × (length ≡ log_after o events) × (size ≡ size_at (after_events o events) done)
    × (LOG_LIMIT < length + size)
AnswerFits o events done DiskFault = MayPlace o events done
AnswerFits o events done (PlacedAt number) =
    MayPlace o events done × (number ≡ (after_events o events).number + 1)
AnswerFits o events done NoMemory = (IsUnchanged done → ⊥) × IsRunning events

-- What a commit says: others' events came, then the one that its answer makes.
pub record CommitSays (o : Opened) (before after : List Event) (done : TxnRecord)
    (answer : CommitAnswer) : Type 0 where
  pub others : List Event
  pub are_others : events_of done.session others ≡ []
  pub events : after ≡ (before ++ others)
      ++ event_of_answer (after_events o (before ++ others)).number done answer
  pub fits : AnswerFits o (before ++ others) done answer

-- ---- locks

-- the event that an answer to a lock makes
abbrev pub event_of_lock : (session oid : ℕ) → LockAnswer → List Event
event_of_lock session oid (Granted kind changed) = (session, Held oid kind) ∷ []
event_of_lock session oid _ = []

-- A lock is denied exactly where another session's is in the way: then the lowest such session is
-- named, with its kind. Else it is granted, in the greater of the kinds held and asked for, with
-- the number of the last commit that changed the object; or memory is wanting.
abbrev pub LockFits : Standing → (session oid : ℕ) → LockKind → LockAnswer → Type 0
LockFits s session oid asked (Granted kind changed) = (denied_for s.locks session oid asked ≡ None)
    × (kind ≡ kind_granted (kind_held s.locks session oid) asked)
    × (changed ≡ last_change s.image oid)
LockFits s session oid asked (Denied holder held) =
    denied_for s.locks session oid asked ≡ Some (holder, held)
LockFits s session oid asked NoMemoryForLock = denied_for s.locks session oid asked ≡ None

-- What a lock says.
pub record LockSays (o : Opened) (before after : List Event) (session oid : ℕ) (asked : LockKind)
    (answer : LockAnswer) : Type 0 where
  pub others : List Event
  pub are_others : events_of session others ≡ []
  pub events : after ≡ (before ++ others) ++ event_of_lock session oid answer
  pub fits : LockFits (after_events o (before ++ others)) session oid asked answer

-- the event of an unlock, where the session held the object
abbrev pub dropping : (held : Bool) → (session oid : ℕ) → List Event
dropping true session oid = (session, Dropped oid) ∷ []
dropping _ session oid = []

-- What an unlock says: whether the session held the object.
pub record UnlockSays (o : Opened) (before after : List Event) (session oid : ℕ) (held : Bool)
    : Type 0 where
  pub others : List Event
  pub are_others : events_of session others ≡ []
  pub events : after ≡ (before ++ others) ++ dropping held session oid
  pub held_is : held
      ≡ is_some (kind_held (after_events o (before ++ others)).locks session oid)

-- What a logout says: the session leaves, as its own event, exactly where it holds a lock.
pub record LogoutSays (o : Opened) (before after : List Event) (session : ℕ) : Type 0 where
  pub others : List Event
  pub are_others : events_of session others ≡ []
  pub holds : Bool
  pub events : after ≡ (before ++ others) ++ leaving holds session
  pub exactly : IsTrue holds ↔ HoldsSome (after_events o (before ++ others)) session

-- ---- checkpoints

-- the event that an answer to a checkpoint makes, where this number stands
abbrev pub event_of_check : (session stands : ℕ) → CheckAnswer → List Event
event_of_check session stands (Made number) = (session, Checked) ∷ []
event_of_check session stands DiskFaultAtCheck = (session, Halted stands None) ∷ []
event_of_check session stands _ = []

-- Where the disk had failed that is answered. Else the checkpoint is refused where it counts too
-- many pages, and else made, with the number that stands, or the disk fails; or memory is wanting.
abbrev pub CheckFits : Opened → List Event → CheckAnswer → Type 0
CheckFits o events (HaltedAtCheck number) = HasHaltedAt events number
CheckFits o events (Full pages) =
    IsRunning events × (pages ≡ pages_after o events) × (PAGE_LIMIT < pages)
CheckFits o events DiskFaultAtCheck = MayCheck o events
CheckFits o events (Made number) = MayCheck o events × (number ≡ (after_events o events).number)
CheckFits o events NoMemoryForCheck = IsRunning events

-- What a checkpoint says: others' events came, then the one that its answer makes.
pub record CheckSays (o : Opened) (before after : List Event) (session : ℕ) (answer : CheckAnswer)
    : Type 0 where
  pub others : List Event
  pub are_others : events_of session others ≡ []
  pub events : after ≡ (before ++ others)
      ++ event_of_check session (after_events o (before ++ others)).number answer
  pub fits : CheckFits o (before ++ others) answer

-- ---- ports

-- A port as contracts see it: what its Stone was opened with and the events that it has seen, which
-- sessions it serves, and whether nobody else uses the Stone as long as the port is there.
pub record PortState : Type 0 where
  pub told : Told
  pub serves : ℕ → Bool
  pub alone : Bool

-- a port through which its Stone hears of no others, by what the Stone was opened with and its events
abbrev pub alone_with : Told → PortState
alone_with t = record { told = t; serves = is_session t.opened.script; alone = true }

-- A port that is alone stays so, and in a call for this session no other session has a further
-- event.
abbrev pub IsAloneStill : ℕ → PortState → PortState → Type 0
IsAloneStill session before after = before.alone ≡ true → (after.alone ≡ true)
    × ((other : ℕ) → other ≢ session
    → events_of other after.told.events ≡ events_of other before.told.events)

-- What every call for a session keeps: the port is on the same Stone and has seen more events,
-- which are consistent; it serves whom it served; and a port that is alone stays so.
pub record GoesOn (session : ℕ) (before after : PortState) : Type 0 where
  pub opened : after.told.opened ≡ before.told.opened
  pub extends : Extends before.told.events after.told.events
  pub serves : (other : ℕ) → before.serves other ≡ true → after.serves other ≡ true
  pub alone : IsAloneStill session before after
  pub consistent : IsConsistent after.told
