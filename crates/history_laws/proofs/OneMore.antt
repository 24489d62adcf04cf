-- Events stay consistent when one more comes.
use Rattle.std.proofs.Common.{◌≡◌, ℕ, ◌+◌, List, [], ◌∷◌, ◌++◌, Option, Some, None, IsSome, refl, sym, ap, subst, ◌∙◌, append_assoc, append-nil}
use Rattle.std.specs.List.{AllByRecursion}
use Rattle.std.specs.FinMap.{get, get-empty}
use Rattle.std.proofs.lemmas.Bool.{false≢true}
use Rattle.std.proofs.lemmas.Option.{none-some}
use Rattle.std.proofs.lemmas.List.Elements.{filter_map-append}
use Rattle.gem_meaning.specs.gem_record.History.{entry_of}
use Rattle.gem_meaning.specs.gem_record.declared.record.TxnRecord.{TxnRecord}
use Rattle.gem_meaning.specs.gem_record.declared.record.Entry.{Entry}
use Rattle.gem_meaning.specs.lock_table.LockKind.{is_write, kind_granted}
use Rattle.gem_meaning.specs.lock_table.Locks.{LockSet, holding_cmp, holding, kind_held, denied_for}
use Rattle.gem_meaning.specs.lock_table.Locks as locks
use Rattle.gem_meaning.specs.lock_table.Granted.{IsExclusive}
use Rattle.gem_meaning.specs.lock_table.declared.lock.LockKind.{LockKind}
use Rattle.gem_meaning.specs.lock_table.declared.lock.LockKind.TheVariants.{Read, Write}
use Rattle.gem_meaning.proofs.lock_table_lemmas.Denied.{free_from_none, none_from_free}
use Rattle.gem_meaning.proofs.lock_table_lemmas.Exclusive.{exclusive_event}
use Rattle.gem_meaning.specs.declared.event.What.TheVariants.{Placed, Held, Dropped, Left, Checked, Halted}
use Rattle.gem_meaning.specs.Opened.{Opened}
use Rattle.gem_meaning.specs.Effect.{MergesFit}
use Rattle.gem_meaning.specs.Events.{Event, Told, told_more, after_event, before_events, after_events, standing, conflicts_at, placed_entry, entries_of, IsRunning}
use Rattle.gem_meaning.specs.Serial.{IsSerialEvent, IsSerialFrom, IsSerial, IsOfScript, IsConsistent, IsRecorded, HoldsSome, CanServe}
use Rattle.history_laws.proofs.Views.{after_one_more}
use Rattle.history_laws.proofs.Commits.{CommitsKeep}
use Rattle.history_laws.proofs.Placed.{placed_as_recorded}

serial_from : (o : Opened) (before events : List Event) (event : Event) → IsSerialFrom o before events
    → IsSerialEvent o (before ++ events) event → IsSerialFrom o before (events ++ event ∷ [])
serial_from o before [] event serial next =
    (subst (λ es. IsSerialEvent o es event) (append-nil before) next, tt)
serial_from o before (e ∷ es) event serial next = (
  serial.0,
  serial_from o (before ++ e ∷ []) es event serial.1
      (subst (λ es. IsSerialEvent o es event) (sym (append_assoc before (e ∷ []) es)) next),
)

-- events that came before any, and one more
pub serial_push : (o : Opened) (events : List Event) (event : Event) → IsSerialFrom o [] events
    → IsSerialEvent o events event → IsSerialFrom o [] (events ++ event ∷ [])
serial_push o events event serial next = serial_from o [] events event serial next

pub serial_one_more : (t : Told) (event : Event) → IsSerial t → IsSerialEvent t.opened t.events event
    → IsSerial (told_more t (event ∷ []))
unfolding IsSerial
serial_one_more t event serial next = serial_from t.opened [] t.events event serial next

-- the events of a front are serial too
pub serial_front : (o : Opened) (before events more : List Event)
    → IsSerialFrom o before (events ++ more) → IsSerialFrom o before events
serial_front o before [] more serial = tt
serial_front o before (e ∷ es) more serial =
    (serial.0, serial_front o (before ++ e ∷ []) es more serial.1)

-- and those after a front are, where it came before them
pub serial_back : (o : Opened) (before events more : List Event)
    → IsSerialFrom o before (events ++ more) → IsSerialFrom o (before ++ events) more
serial_back o before [] more serial =
    subst (λ es. IsSerialFrom o es more) (sym (append-nil before)) serial
serial_back o before (e ∷ es) more serial =
    subst (λ es. IsSerialFrom o es more) (append_assoc before (e ∷ []) es)
    (serial_back o (before ++ e ∷ []) es more serial.1)

-- the last of serial events is serial after those before it
pub last_is_serial : (o : Opened) (before : List Event) (event : Event)
    → IsSerial (record { opened = o; events = before ++ event ∷ [] }) → IsSerialEvent o before event
unfolding IsSerial
last_is_serial o before event serial = (serial_back o [] before (event ∷ []) serial).0

pub all_one_more : {A : Type 0} (P : A → Type 0) (xs : List A) (x : A) → AllByRecursion P xs → P x
    → AllByRecursion P (xs ++ x ∷ [])
all_one_more P [] x all one = (one, tt)
all_one_more P (y ∷ ys) x all one = (all.0, all_one_more P ys x all.1 one)

-- what stands when one event more has come
pub standing_more : (t : Told) (event : Event)
    → standing (told_more t (event ∷ [])) ≡ after_event t.opened (standing t) event
standing_more t event = after_one_more t.opened t.events event

-- the history when a commit more has been placed
pub entries_more : (events : List Event) (session : ℕ) (e : Entry)
    → entries_of (events ++ (session, Placed e) ∷ []) ≡ entries_of events ++ e ∷ []
entries_more events session e = filter_map-append placed_entry events ((session, Placed e) ∷ [])

-- an event of a session of the script that is serial after these
pub consistent_more : (t : Told) (event : Event) → IsConsistent t → IsOfScript t.opened.script event
    → IsSerialEvent t.opened t.events event → IsConsistent (told_more t (event ∷ []))
consistent_more t event consistent of_script next = record {
  sessions = all_one_more (IsOfScript t.opened.script) t.events event consistent.sessions of_script;
  serial = serial_one_more t event consistent.serial next;
}

-- ---- locks are exclusive

exclusive_more : (o : Opened) (before : List Event) (event : Event) → IsSerialEvent o before event
    → IsExclusive (after_events o before).locks
    → IsExclusive (after_event o (after_events o before) event).locks
exclusive_more o before (session, Placed e) serial exclusive = exclusive
exclusive_more o before (session, Held oid kind) serial exclusive =
    exclusive_event (after_events o before).locks (locks.Held session oid kind)
    (λ holder held. free_from_none (after_events o before).locks session oid kind serial.0 holder held)
    exclusive
exclusive_more o before (session, Dropped oid) serial exclusive =
    exclusive_event (after_events o before).locks (locks.Dropped session oid) tt exclusive
exclusive_more o before (session, Left) serial exclusive =
    exclusive_event (after_events o before).locks (locks.Left session) tt exclusive
exclusive_more o before (session, Checked) serial exclusive = exclusive
exclusive_more o before (session, Halted number entry) serial exclusive = exclusive

exclusive_from : (o : Opened) (before events : List Event) → IsSerialFrom o before events
    → IsExclusive (after_events o before).locks → IsExclusive (after_events o (before ++ events)).locks
exclusive_from o before [] serial exclusive =
    subst (λ es. IsExclusive (after_events o es).locks) (sym (append-nil before)) exclusive
exclusive_from o before (event ∷ events) serial exclusive =
    subst (λ es. IsExclusive (after_events o es).locks) (append_assoc before (event ∷ []) events)
    (exclusive_from o (before ++ event ∷ []) events serial.1
    (subst (λ s. IsExclusive s.locks) (sym (after_one_more o before event))
    (exclusive_more o before event serial.0 exclusive)))

-- nobody holds a lock before the first event
exclusive_first : (o : Opened) → IsExclusive (before_events o).locks
exclusive_first o oid session other kind other_kind apart this that =
    absurd (none-some kind (sym (get-empty holding_cmp (holding session oid)) ∙ this))

-- whoever holds an object to write holds it alone
pub locks_exclusive : (t : Told) → IsSerial t → IsExclusive (standing t).locks
unfolding IsSerial after_events
locks_exclusive t serial = exclusive_from t.opened [] t.events serial (exclusive_first t.opened)

not_read : Write ≡ Read → ⊥
not_read is = false≢true (sym (ap is_write is))

free_by : (held : LockSet) (session oid : ℕ) (asked : LockKind) (own : Option LockKind)
    → kind_held held session oid ≡ own → IsExclusive held → denied_for held session oid asked ≡ None
    → denied_for held session oid (kind_granted own asked) ≡ None
free_by held session oid asked None is exclusive free = free
free_by held session oid asked (Some Read) is exclusive free = free
free_by held session oid asked (Some Write) is exclusive free =
    none_from_free held session oid Write (λ holder kind way.
    not_read (exclusive oid session holder Write kind (λ same. way.other (sym same)) is way.holds).0)

-- what is free for a session in the kind that it asks for is free in the kind that it is granted
pub free_as_granted : (t : Told) (session oid : ℕ) (asked : LockKind) → IsSerial t
    → denied_for (standing t).locks session oid asked ≡ None
    → denied_for (standing t).locks session oid
    (kind_granted (kind_held (standing t).locks session oid) asked) ≡ None
free_as_granted t session oid asked serial free = free_by (standing t).locks session oid asked
    (kind_held (standing t).locks session oid) refl (locks_exclusive t serial) free

-- ---- one event more

-- a commit without conflicts is placed, while the disk hasn't failed
pub placed_more : (t : Told) (done : TxnRecord) → CommitsKeep → CanServe t.opened → IsConsistent t
    → IsRunning t.events → IsRecorded t done → conflicts_at (standing t) done ≡ []
    → MergesFit (standing t).image done
    → IsConsistent (told_more t ((done.session, Placed (entry_of done)) ∷ []))
placed_more t done law serves consistent running recorded none fit =
    consistent_more t (done.session, Placed (entry_of done)) consistent recorded.of_script.session
    (placed_as_recorded t done law serves consistent.serial running recorded none fit)

-- or the disk fails at it
pub halted_more : (t : Told) (done : TxnRecord) → CommitsKeep → CanServe t.opened → IsConsistent t
    → IsRunning t.events → IsRecorded t done → conflicts_at (standing t) done ≡ []
    → MergesFit (standing t).image done
    → IsConsistent (told_more t
    ((done.session, Halted ((standing t).number + 1) (Some (entry_of done))) ∷ []))
halted_more t done law serves consistent running recorded none fit =
    consistent_more t (done.session, Halted ((standing t).number + 1) (Some (entry_of done))) consistent
    recorded.of_script.session
    (refl, placed_as_recorded t done law serves consistent.serial running recorded none fit)

-- a checkpoint is made, while the disk hasn't failed
pub checked_more : (t : Told) (session : ℕ) → IsConsistent t
    → IsOfScript t.opened.script (session, Checked) → IsRunning t.events
    → IsConsistent (told_more t ((session, Checked) ∷ []))
checked_more t session consistent of_script running =
    consistent_more t (session, Checked) consistent of_script running

-- or the disk fails at it
pub check_halted_more : (t : Told) (session : ℕ) → IsConsistent t
    → IsOfScript t.opened.script (session, Halted (standing t).number None) → IsRunning t.events
    → IsConsistent (told_more t ((session, Halted (standing t).number None) ∷ []))
check_halted_more t session consistent of_script running =
    consistent_more t (session, Halted (standing t).number None) consistent of_script (refl, running)

-- a lock that is denied for nobody, on an object that is there, is granted
pub held_more : (t : Told) (session oid : ℕ) (asked kind : LockKind) → IsConsistent t
    → IsOfScript t.opened.script (session, Held oid kind)
    → denied_for (standing t).locks session oid asked ≡ None
    → kind ≡ kind_granted (kind_held (standing t).locks session oid) asked
    → IsSome (get (standing t).image oid)
    → IsConsistent (told_more t ((session, Held oid kind) ∷ []))
held_more t session oid asked kind consistent of_script free is there =
    consistent_more t (session, Held oid kind) consistent of_script (
      subst (λ k. denied_for (standing t).locks session oid k ≡ None) (sym is)
          (free_as_granted t session oid asked consistent.serial free),
      there,
    )

-- a lock that is held is given back
pub dropped_more : (t : Told) (session oid : ℕ) → IsConsistent t
    → IsOfScript t.opened.script (session, Dropped oid)
    → IsSome (kind_held (standing t).locks session oid)
    → IsConsistent (told_more t ((session, Dropped oid) ∷ []))
dropped_more t session oid consistent of_script held =
    consistent_more t (session, Dropped oid) consistent of_script held

-- a session that holds a lock leaves
pub left_more : (t : Told) (session : ℕ) → IsConsistent t → IsOfScript t.opened.script (session, Left)
    → HoldsSome (standing t) session → IsConsistent (told_more t ((session, Left) ∷ []))
left_more t session consistent of_script holds =
    consistent_more t (session, Left) consistent of_script holds

-- before the first event
pub consistent_first : (o : Opened) → IsConsistent (record { opened = o; events = [] })
unfolding IsSerial
consistent_first o = record { sessions = tt; serial = tt }
