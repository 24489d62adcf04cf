-- Entries of the history that are transactions of the script, and the serial order: each one did at
-- its place what it did on its view.
use Rattle.std.specs.Prelude.{◌≡◌, ℕ, ◌-◌, ◌≤◌, ◌<◌, ◌^◌, ◌⊎◌, ◌+◌, List, [], ◌∷◌, ◌++◌, length, Option, Some, None, IsSome}
use Rattle.std.specs.List.{AllByRecursion, slice_get}
use Rattle.std.specs.FinMap.{get}
use Rattle.gem_record.specs.gem_image.Image.{IsImage, objects_in}
use Rattle.gem_record.specs.declared.record.Entry.{Entry}
use Rattle.gem_record.specs.declared.record.TxnRecord.{TxnRecord}
use Rattle.gem_record.specs.History.{entry_of}
use Rattle.gem_language.specs.gem_sound.Parts.{user_at}
use Rattle.gem_language.specs.gem_sound.Sound.{IsSoundImage}
use Rattle.lock_table.specs.Locks.{kind_held, denied_for}
use Rattle.commit_check.specs.Conflicts.{last_change}
use Rattle.commit_check.specs.Table.{IsWritten}
use Rattle.gem_language.specs.object_programs.declared.limits.TheConstants.{COUNTER_LIMIT}
use Rattle.shell_words.specs.Script.{SessionCommands}
use Rattle.shell_words.specs.declared.script.Command.{Command}
use Rattle.shell_words.specs.declared.script.Command.TheVariants.{Commit, Abort, Logout}
use Rattle.gem_meaning.specs.declared.event.What.TheVariants.{Placed, Held, Dropped, Left, Checked, Halted}
use Rattle.gem_meaning.specs.Opened.{Opened, base_serial, commands_of, entry_commands, mode_at}
use Rattle.gem_meaning.specs.Effect.{MergesFit}
use Rattle.gem_meaning.specs.Events.{Event, Told, Standing, image_at, next_counter, run_at_place, run_on_view, record_at_place, record_on_view, after_events, standing, conflicts_at, IsRunning}

-- the command is there and may end a transaction: an abort, or a commit, which may also have been
-- refused
abbrev pub EndsTransaction : Option Command → Type 0
EndsTransaction (Some Commit) = Unit {0}
EndsTransaction (Some Abort) = Unit {0}
EndsTransaction _ = ⊥

-- A transaction may go on after this command: after any but an abort and a logout, also after a
-- commit, which may have been refused.
abbrev pub MayGoOn : Command → Type 0
MayGoOn Abort = ⊥
MayGoOn Logout = ⊥
MayGoOn _ = Unit {0}

-- The entry names commands of its session that may be one transaction: they end with a commit, none
-- of them is an abort or a logout, and they begin with the session or after a commit or an abort. Its
-- mode is the session's before that commit. Which number the transaction has is for what the session
-- says.
pub record IsTransaction (script : List SessionCommands) (e : Entry) : Type 0 where
  pub session : (1 ≤ e.session) × (e.session ≤ length script)
  pub first : (e.first_command ≡ 1)
      ⊎ ((2 ≤ e.first_command)
      × EndsTransaction (slice_get (commands_of script e.session) (e.first_command - 2)))
  pub order : e.first_command ≤ e.last_command
  pub last : slice_get (commands_of script e.session) (e.last_command - 1) ≡ Some Commit
  pub whole : AllByRecursion MayGoOn (entry_commands script e)
  pub mode : e.mode ≡ mode_at script e.session e.last_command

-- The entry's transaction may begin where this stands: its view is one that there was, its user is
-- a user there, and its names begin after all that the session's commits have drawn.
pub record MayBeginAt (o : Opened) (s : Standing) (e : Entry) : Type 0 where
  pub from : o.number ≤ e.view
  pub to : e.view ≤ s.number
  pub user : IsSome (user_at (objects_in (image_at s e.view)) e.user)
  pub names : next_counter s e.session ≤ e.first_name
  pub names_end : e.first_name ≤ COUNTER_LIMIT

-- the event isn't of this session, or its transaction ended before this command
abbrev pub EndedBefore : (session first : ℕ) → Event → Type 0
EndedBefore session first (author, Placed e) = author ≡ session → e.last_command < first
EndedBefore session first (author, _) = Unit {0}

-- The entry is a transaction of this session, placed after these events: the disk hasn't failed, it
-- may begin there, no earlier entry of the session names one of its commands, it has no conflict
-- there, what its merges make can be stored, at its place it says and does all that it says and does
-- where all stands as at its view, and what it writes is at its place as it is in its view.
pub record IsPlaced (o : Opened) (before : List Event) (session : ℕ) (e : Entry) : Type 0 where
  pub of_session : e.session ≡ session
  pub of_script : IsTransaction o.script e
  pub running : IsRunning before
  pub begins : MayBeginAt o (after_events o before) e
  pub apart : AllByRecursion (EndedBefore session e.first_command) before
  pub no_conflict : conflicts_at (after_events o before)
      (record_on_view o (after_events o before) e) ≡ []
  pub merges : MergesFit (after_events o before).image
      (record_at_place o (after_events o before) e)
  pub same : run_at_place o (after_events o before) e ≡ run_on_view o (after_events o before) e
  pub unwritten : (oid : ℕ) → IsWritten (record_on_view o (after_events o before) e) oid
      → get (after_events o before).image oid ≡ get (image_at (after_events o before) e.view) oid

-- the session holds a lock
abbrev pub HoldsSome : Standing → (session : ℕ) → Type 0
HoldsSome s session = (oid : ℕ) × IsSome (kind_held s.locks session oid)

-- What has to stand where an event comes: a commit is one that is placed there; a lock was free for
-- the session, and the object was there; one that is given back was held; a session that leaves held
-- some; where a checkpoint is made the disk hasn't failed; nor has it where it fails, and the number
-- is the one that was being stored: that of a commit which might have been placed there, or the one
-- that stands.
abbrev pub IsSerialEvent : Opened → List Event → Event → Type 0
IsSerialEvent o before (session, Placed e) = IsPlaced o before session e
IsSerialEvent o before (session, Held oid kind) = let s = after_events o before in
    (denied_for s.locks session oid kind ≡ None) × IsSome (get s.image oid)
IsSerialEvent o before (session, Dropped oid) =
    IsSome (kind_held (after_events o before).locks session oid)
IsSerialEvent o before (session, Left) = HoldsSome (after_events o before) session
IsSerialEvent o before (session, Checked) = IsRunning before
IsSerialEvent o before (session, Halted number (Some e)) =
    (number ≡ (after_events o before).number + 1) × IsPlaced o before session e
IsSerialEvent o before (session, Halted number None) =
    (number ≡ (after_events o before).number) × IsRunning before

-- the events have a serial order, where these came before them
abbrev pub IsSerialFrom : Opened → (before events : List Event) → Type 0
IsSerialFrom o before [] = Unit {0}
IsSerialFrom o before (event ∷ events) =
    IsSerialEvent o before event × IsSerialFrom o (before ++ event ∷ []) events

-- the commits have a serial order, which is that of the events
unfoldable pub IsSerial : Told → Type 0
IsSerial t = IsSerialFrom t.opened [] t.events

-- the event was made by a session of the script
abbrev pub IsOfScript : List SessionCommands → Event → Type 0
IsOfScript script event = (1 ≤ event.0) × (event.0 ≤ length script)

-- What holds of the events of every Stone: each is of a session of the script, and the commits have
-- a serial order.
pub record IsConsistent (t : Told) : Type 0 where
  pub sessions : AllByRecursion (IsOfScript t.opened.script) t.events
  pub serial : IsSerial t

-- The record is what running its commands gives where all stands as at its view, and no earlier
-- entry of the session names one of them. This is what a session claims of what it commits.
pub record IsRecorded (t : Told) (done : TxnRecord) : Type 0 where
  pub of_script : IsTransaction t.opened.script (entry_of done)
  pub begins : MayBeginAt t.opened (standing t) (entry_of done)
  pub apart : AllByRecursion (EndedBefore done.session done.first_command) t.events
  pub is : done ≡ record_on_view t.opened (standing t) (entry_of done)

-- the most commits in an image that a Stone is opened with: more than a Stone can add are left
-- below 2^64
abbrev pub most_at_opening : ℕ
most_at_opening = 2 ^ 62

-- the end of the serials that names can have
abbrev pub serial_limit : ℕ
serial_limit = 2 ^ 24

-- What a Stone may be opened with: a sound image, which has so many commits that more can be added,
-- and whose objects none but these have changed; and a serial for each session of the script.
pub record CanServe (o : Opened) : Type 0 where
  pub image : IsImage o.image
  pub sound : IsSoundImage o.image
  pub number : o.number ≤ most_at_opening
  pub changed : (oid : ℕ) → last_change o.image oid ≤ o.number
  pub serials : base_serial o + length o.script ≤ serial_limit
