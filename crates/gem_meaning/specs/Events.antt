-- What stands after the events of a Stone.
use Rattle.std.specs.Prelude.{◌≡◌, ◌≤◌, ◌<◌, ℕ, ◌+◌, ◌-◌, ◌==◌, List, [], ◌∷◌, ◌++◌, Option, Some, None, get_or}
use Rattle.std.specs.List.{fold, filter, filter_map}
use Rattle.std.specs.Ordering.{nat_cmp}
use Rattle.std.specs.FinMap.{FinMap, get, insert, empty}
use Rattle.std.specs.Option.{unwrap_or}
use Rattle.gem_object.specs.gem_value.Oid.{oid_number}
use Rattle.gem_object.specs.declared.object.Object.{Object}
use Rattle.gem_record.specs.gem_image.Image.{Image, with_objects}
use Rattle.gem_object.specs.gem_value.declared.conflict.Conflict.{Conflict}
use Rattle.gem_record.specs.declared.record.Entry.{Entry}
use Rattle.gem_record.specs.declared.record.TxnRecord.{TxnRecord}
use Rattle.gem_record.specs.declared.mode.Mode.{Mode}
use Rattle.gem_record.specs.declared.mode.Mode.TheVariants.{Full, NoRw}
use Rattle.lock_table.specs.Locks.{LockSet, after_held, after_dropped, after_left}
use Rattle.commit_check.specs.Conflicts.{conflicts_of}
use Rattle.gem_language.specs.object_programs.declared.limits.TheConstants.{COUNTER_LIMIT}
use Rattle.gem_language.specs.Transaction.{Transaction}
use Rattle.gem_record.specs.Record.{record_of}
use Rattle.gem_meaning.specs.declared.event.What.{What}
use Rattle.gem_meaning.specs.declared.event.What.TheVariants.{Placed, Held, Dropped, Left, Checked, Halted}
use Rattle.gem_meaning.specs.Opened.{Opened, session_serial, entry_setting, run_at, record_on}
use Rattle.gem_meaning.specs.Effect.{effect_at}

-- an event: the number of the session that made it, and what it was
abbrev pub Event : Type 0
Event = ℕ × What

-- What a Stone was opened with, and its events since, in order. All else of it follows from these.
pub record Told : Type 0 where
  pub opened : Opened
  pub events : List Event

-- the same, when these events have come, too
abbrev pub told_more : Told → List Event → Told
told_more t more = record t { events = t.events ++ more }

-- What stands after some events.
pub record Standing : Type 0 where
  -- the image
  pub image : Image
  -- the images before each commit, the last one first
  pub earlier : List Image
  -- the number of commits in the image
  pub number : ℕ
  -- the locks that sessions hold
  pub locks : LockSet
  -- for each session that committed, the counter after those of the names that its commits drew
  pub drawn : FinMap nat_cmp ℕ

-- The image with so many commits, up to the number that stands. For a number without an image it is
-- the one that stands.
abbrev pub image_at : Standing → ℕ → Image
image_at s number = get_or (s.image ∷ s.earlier) (s.number - number) s.image

-- the counter after those of the names that the session's commits drew; names count from 1
abbrev pub next_counter : Standing → (session : ℕ) → ℕ
next_counter s session = unwrap_or (get s.drawn session) 1

-- No object has a name of the session's serial from the counter on after those that its commits
-- drew.
abbrev pub NamesAreFree : Opened → Standing → (session : ℕ) → Type 0
NamesAreFree o s session = (counter : ℕ) → next_counter s session ≤ counter
    → counter < COUNTER_LIMIT
    → get s.image (oid_number (session_serial o session) counter) ≡ None

-- Where a transaction in this mode reads ordinary objects, of its place and its view: at its place;
-- without checks of what is only read, as of its view.
abbrev pub ordinary_in : Mode → (place view : Image) → Image
ordinary_in Full place view = place
ordinary_in NoRw place view = view

-- the same where all that stands is there
abbrev pub ordinary_at : Standing → Entry → Image
ordinary_at s e = ordinary_in e.mode s.image (image_at s e.view)

-- the transaction run at its place, which is where all that stands is there, but that
-- reduced-conflict objects are read as of its view, and so are all objects where its mode has it
unfoldable pub run_at_place : Opened → Standing → Entry → Transaction
run_at_place o s e = run_at o e (ordinary_at s e) (image_at s e.view)

-- the transaction run where all stands as at its view
unfoldable pub run_on_view : Opened → Standing → Entry → Transaction
run_on_view o s e = run_at o e (image_at s e.view) (image_at s e.view)

-- the record of the transaction run at its place
unfoldable pub record_at_place : Opened → Standing → Entry → TxnRecord
record_at_place o s e = record_of e (entry_setting o e s.image (image_at s e.view))
    (run_at_place o s e).world

-- the record of the transaction run where all stands as at its view
abbrev pub record_on_view : Opened → Standing → Entry → TxnRecord
record_on_view o s e = record_on o e (image_at s e.view)

-- the effect of a commit: what its transaction, run at this place, changes there
unfoldable pub effect_of : Opened → Standing → Entry → List (ℕ × Object)
effect_of o s e = effect_at s.image (s.number + 1) (record_at_place o s e)

-- A commit sets what its effect says, and its names are drawn. A checkpoint and a failure of the disk
-- change nothing of this. The other events are about locks.
abbrev pub after_event : Opened → Standing → Event → Standing
after_event o s (session, Placed e) = record s {
  image = with_objects s.image (effect_of o s e);
  earlier = s.image ∷ s.earlier;
  number = s.number + 1;
  drawn = insert s.drawn session (run_at_place o s e).world.next;
}
after_event o s (session, Held oid kind) =
    record s { locks = after_held s.locks session oid kind }
after_event o s (session, Dropped oid) = record s { locks = after_dropped s.locks session oid }
after_event o s (session, Left) = record s { locks = after_left s.locks session }
after_event o s (session, Checked) = s
after_event o s (session, Halted number entry) = s

abbrev pub before_events : Opened → Standing
before_events o = record {
  image = o.image;
  earlier = [];
  number = o.number;
  locks = empty;
  drawn = empty;
}

-- what stands after these events, in their order
unfoldable pub after_events : Opened → List Event → Standing
after_events o events = fold (after_event o) (before_events o) events

-- what stands now
abbrev pub standing : Told → Standing
standing t = after_events t.opened t.events

abbrev pub placed_entry : Event → Option Entry
placed_entry (session, Placed e) = Some e
placed_entry (session, _) = None

-- the history: the entries of the commits, in order
abbrev pub entries_of : List Event → List Entry
entries_of events = filter_map placed_entry events

-- the entry of a commit, whether it was placed or was in flight when the disk failed
abbrev pub entry_in : What → Option Entry
entry_in (Placed e) = Some e
entry_in (Halted number entry) = entry
entry_in _ = None

-- the number that was being stored when the disk failed
abbrev pub halt_of : What → Option ℕ
halt_of (Halted number entry) = Some number
halt_of _ = None

-- the numbers of all such events; there is one at most
abbrev pub halts_in : List Event → List ℕ
halts_in events = filter_map (λ (event : Event). halt_of event.1) events

-- the disk hasn't failed
abbrev pub IsRunning : List Event → Type 0
IsRunning events = halts_in events ≡ []

-- the disk failed when this number was being stored
abbrev pub HasHaltedAt : List Event → (number : ℕ) → Type 0
HasHaltedAt events number = halts_in events ≡ number ∷ []

-- the events that a session made
abbrev pub events_of : ℕ → List Event → List Event
events_of session events = filter (λ event. event.0 == session) events

-- only more events came
abbrev pub Extends : List Event → List Event → Type 0
Extends before after = (more : List Event) × (after ≡ before ++ more)

-- only events of other sessions came
abbrev pub OthersCame : ℕ → List Event → List Event → Type 0
OthersCame session before after =
    (others : List Event) × (events_of session others ≡ []) × (after ≡ before ++ others)

-- the conflicts that stand against the commit of this record, where this stands
abbrev pub conflicts_at : Standing → TxnRecord → List Conflict
conflicts_at s done = conflicts_of (record { image = s.image; locks = s.locks }) done
