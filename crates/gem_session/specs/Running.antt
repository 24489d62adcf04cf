-- What the fields of a running session stand for, and what each of its commands does to them.
use Rattle.std.specs.Prelude.{◌≡◌, ℕ, ◌+◌, ◌-◌, ◌≤◌, ◌<◌, ◌⊎◌, Bool, true, false, not, ◌||◌, nat_le, List, [], ◌∷◌, length, take, Some, IsSome, is_some}
use Rattle.std.specs.List.{AllByRecursion, slice_get}
use Rattle.std.specs.FinMap.{get}
use Rattle.shell_words.specs.Script.{SessionCommands, is_logout}
use Rattle.shell_words.specs.declared.script.Command.{Command}
use Rattle.shell_words.specs.declared.limits.TheConstants.{COMMAND_LIMIT}
use Rattle.gem_image.specs.Image.{objects_in}
use Rattle.gem_sound.specs.Parts.{user_at}
use Rattle.gem_replies.specs.declared.reply.Line.{Line}
use Rattle.gem_replies.specs.declared.reply.Line.TheVariants.{NoMemory, Unchanged, Refused, Committed, Locked, Denied, NotHeld, Unlocked, Halted as HaltedLine, LogFull as LogFullLine, DiskFault as DiskFaultLine, ExtentFull, Checkpoint}
use Rattle.gem_replies.specs.declared.reply.Reply.{Reply}
use Rattle.gem_replies.specs.declared.reply.Transcript.{Transcript}
use Rattle.running_objects.specs.Seen.{IsSoundState, Keeps, with_whole_budget}
use Rattle.gem_meaning.specs.Commands.{object_command}
use Rattle.gem_meaning.specs.Opened.{Opened, session_serial, commands_of, entry_commands, mode_at}
use Rattle.gem_meaning.specs.Names.{user_in}
use Rattle.gem_meaning.specs.Events.{Event, Told, image_at, next_counter, standing, after_events, events_of, OthersCame}
use Rattle.gem_meaning.specs.Serial.{EndsTransaction, MayGoOn, EndedBefore, HoldsSome, CanServe, IsConsistent}
use Rattle.gem_meaning.specs.State.{SessionState, first_transaction, entry_to, run_so_far}
use Rattle.gem_meaning.specs.Runs.{setting_of}
use Rattle.gem_meaning.specs.Commits.{SeesNumber}
use Rattle.gem_meaning.specs.Session.{CommandSays, until_logout, SaysOf, Says}
use Rattle.stone_core.specs.Port.{PortState, LogoutSays}
use Rattle.stone_core.specs.declared.port.CommitAnswer.{CommitAnswer}
use Rattle.stone_core.specs.declared.port.CommitAnswer.TheVariants.{Halted, ReadOnly, Conflicts, LogFull, DiskFault, Placed, NoMemory as ShortOfMemory}
use Rattle.stone_core.specs.declared.port.CheckAnswer.{CheckAnswer}
use Rattle.stone_core.specs.declared.port.CheckAnswer.TheVariants.{Halted as HaltedAtCheck, Full, DiskFault as DiskFaultAtCheck, Made, NoMemory as NoMemoryForCheck}
use Rattle.stone_core.specs.declared.port.LockAnswer.{LockAnswer}
use Rattle.stone_core.specs.declared.port.LockAnswer.TheVariants.{Granted, Denied as DeniedBy, NoMemory as NoMemoryForLock}
use Rattle.lock_table.specs.declared.lock.LockKind.{LockKind}
use Rattle.gem_session.specs.Answer.{lines_of, MeantBy}
use Rattle.gem_session.specs.declared.answer.Answer.{Answer}
use Rattle.gem_session.specs.declared.session.Session.{Session}

-- the number of a command of a script, from 1
abbrev pub IsCommandNumber : ℕ → Type 0
IsCommandNumber number = (1 ≤ number) × (number < COMMAND_LIMIT)

-- the session goes on after any command but a logout
abbrev pub goes_on : Command → Bool
goes_on command = not (is_logout command)

-- whether a commit that was answered so ends its transaction
abbrev pub ends_transaction : CommitAnswer → Bool
ends_transaction (ReadOnly number) = true
ends_transaction (Placed number) = true
ends_transaction _ = false

-- the reply to a commit that was answered so, with this view after it
abbrev pub commit_line : CommitAnswer → ℕ → Line
commit_line (Halted number) view = HaltedLine number
commit_line (ReadOnly number) view = Unchanged number view
commit_line (Conflicts found) view = Refused found
commit_line (LogFull length size) view = LogFullLine length size
commit_line DiskFault view = DiskFaultLine
commit_line (Placed number) view = Committed number view
commit_line ShortOfMemory view = NoMemory

-- the reply to a checkpoint that was answered so
abbrev pub check_line : CheckAnswer → Line
check_line (HaltedAtCheck number) = HaltedLine number
check_line (Full pages) = ExtentFull pages
check_line DiskFaultAtCheck = DiskFaultLine
check_line (Made number) = Checkpoint number
check_line NoMemoryForCheck = NoMemory

-- the reply to a lock that was asked for in this kind and answered so, at this view
abbrev pub lock_line : LockAnswer → (asked : LockKind) → (oid view : ℕ) → Line
lock_line (Granted kind changed) asked oid view = Locked kind oid (nat_le changed view)
lock_line (DeniedBy holder held) asked oid view = Denied asked oid holder held
lock_line NoMemoryForLock asked oid view = NoMemory

-- the reply to an unlock, by whether the session held the object
abbrev pub unlock_line : (held : Bool) → (oid : ℕ) → Line
unlock_line true oid = Unlocked oid
unlock_line false oid = NotHeld oid

-- Whether the Stone may be asked about an object on which the user has a right and that wasn't made
-- in the transaction: it is there. Of a spoiled transaction it is seen in the image.
abbrev pub may_ask : Session → (oid : ℕ) → Bool
may_ask s oid = not s.spoiled || is_some (get s.image oid)

-- what a session carries
abbrev pub session_state : Session → SessionState
session_state s = record {
  session = s.session;
  user = s.view.state.seen.setting.user;
  view = s.number;
  mode = s.mode;
  transaction = s.transaction;
  first_command = s.first_command;
  first_name = s.view.state.seen.setting.first;
  next_name = s.view.state.seen.world.next;
  spoiled = s.spoiled;
}

-- the commands of the session's transaction before the command with this number
abbrev pub commands_before : Opened → ℕ → SessionState → List Command
commands_before o number s = entry_commands o.script (entry_to (number - 1) s)

-- a transaction of the session may begin with this command
abbrev pub MayBegin : Opened → (session number : ℕ) → Type 0
MayBegin o session number = (number ≡ 1)
    ⊎ ((2 ≤ number) × EndsTransaction (slice_get (commands_of o.script session) (number - 2)))

-- there is such a user where the image with this number stands
abbrev pub HasUser : Told → (number user : ℕ) → Type 0
HasUser t number user = IsSome (user_at (objects_in (image_at (standing t) number)) user)

-- The session stands before the command with this number, in its script's mode: its view is one that
-- there was, with its user, and its transaction runs on it; it goes on, no earlier entry of the
-- session names one of its commands, and its names come after all that the session's commits drew.
-- Its objects are sound, and they are what the transaction so far left, unless it is spoiled.
pub record StandsBefore (t : Told) (number : ℕ) (s : Session) : Type 0 where
  pub session : (1 ≤ s.session) × (s.session ≤ length t.opened.script)
  pub serial : s.serial ≡ session_serial t.opened s.session
  pub from : t.opened.number ≤ s.number
  pub to : s.number ≤ (standing t).number
  pub user : HasUser t s.number s.view.state.seen.setting.user
  pub image : s.image ≡ image_at (standing t) s.number
  pub setting : s.view.state.seen.setting ≡ setting_of t.opened t.events (session_state s)
  pub begins : MayBegin t.opened s.session s.first_command
  pub first : (1 ≤ s.first_command) × (s.first_command ≤ number)
  pub transaction : s.transaction ≤ number
  pub whole : AllByRecursion MayGoOn (commands_before t.opened number (session_state s))
  pub apart : AllByRecursion (EndedBefore s.session s.first_command) t.events
  pub names : next_counter (standing t) s.session ≤ s.view.state.seen.setting.first
  pub drawn : s.view.state.seen.setting.first ≤ s.view.state.seen.world.next
  pub sound : IsSoundState s.view.state.seen
  pub mode : s.mode ≡ mode_at t.opened.script s.session number
  pub world : s.spoiled ≡ false → s.view.state.seen.world
      ≡ (run_so_far t.opened t.events number (session_state s)).world

-- A session comes to a command of the script, with a port that serves it.
pub record ComesTo (p : PortState) (number : ℕ) (s : Session) (c : Command) : Type 0 where
  pub serves : p.serves s.session ≡ true
  pub opened : CanServe p.told.opened
  pub consistent : IsConsistent p.told
  pub stands : StandsBefore p.told number s
  pub numbered : IsCommandNumber number
  pub command : slice_get (commands_of p.told.opened.script s.session) (number - 1) ≡ Some c

-- The transaction of the session has ended with the command of this number, in its script's mode. Its
-- view is one that there was, with its user, and all names that the session's commits drew come
-- before the one that it draws next.
pub record HasEnded (p : PortState) (number : ℕ) (s : Session) : Type 0 where
  pub serves : p.serves s.session ≡ true
  pub opened : CanServe p.told.opened
  pub session : (1 ≤ s.session) × (s.session ≤ length p.told.opened.script)
  pub serial : s.serial ≡ session_serial p.told.opened s.session
  pub numbered : IsCommandNumber number
  pub transaction : s.transaction ≤ number
  pub from : p.told.opened.number ≤ s.number
  pub to : s.number ≤ (standing p.told).number
  pub user : HasUser p.told s.number s.view.state.seen.setting.user
  pub ended : EndsTransaction (slice_get (commands_of p.told.opened.script s.session) (number - 1))
  pub apart : AllByRecursion (EndedBefore s.session (number + 1)) p.told.events
  pub names : next_counter (standing p.told) s.session ≤ s.view.state.seen.world.next
  pub mode : s.mode ≡ mode_at p.told.opened.script s.session (number + 1)
  pub sound : IsSoundState s.view.state.seen

-- A transaction of the session began at the view that stands then. What the session carries is
-- `next` of that view.
pub record Begins (o : Opened) (before after : List Event) (next : ℕ → SessionState)
    (s : Session) : Type 0 where
  pub sees : SeesNumber o s.session before after s.number
  pub carries : session_state s ≡ next s.number
  pub stands : StandsBefore (record { opened = o; events = after }) s.first_command s

-- A chunk or a method found no memory: the transaction is spoiled.
abbrev pub RanShort : Session → List Line → Session → Type 0
RanShort s lines s' =
    (lines ≡ NoMemory ∷ []) × (s' ≡ record s { spoiled = true; view = s'.view; cache = s'.cache })

-- It ran: it answered and left the objects as it means.
abbrev pub RanWhole : Command → Session → List Line → Session → Type 0
RanWhole c s lines s' = MeantBy (object_command c) s.view.state.seen lines s'.view.state.seen
    × (s' ≡ record s { view = s'.view; cache = s'.cache })

-- what a chunk or a method does to a session, with this answer
abbrev pub Ran : Command → Session → Answer → Session → Type 0
Ran c s answer s' = Keeps (with_whole_budget s.view.state.seen) s'.view.state.seen
    × (RanShort s (lines_of answer) s' ⊎ RanWhole c s (lines_of answer) s')

-- The session replied to a command, and stands before the next one.
pub record Replied (o : Opened) (number : ℕ) (before after : List Event) (s : Session) (c : Command)
    (lines : List Line) (s' : Session) : Type 0 where
  pub of_session : s'.session ≡ s.session
  pub says : CommandSays (record { opened = o; number = number; before = before; after = after })
      (session_state s) c lines (session_state s')
  pub stands : StandsBefore (record { opened = o; events = after }) (number + 1) s'

-- what a session replied between these states of its port
abbrev pub RepliedBy : (p q : PortState) → (number : ℕ) → Session → Command → List Line → Session
    → Type 0
RepliedBy p q number s c lines s' =
    Replied p.told.opened number p.told.events q.told.events s c lines s'

-- the session holds no lock
abbrev pub HoldsNone : Told → (session : ℕ) → Type 0
HoldsNone t session = HoldsSome (standing t) session → ⊥

-- A session may come to a port that serves it: the Stone was opened with what can be served, the
-- session is of its script, with this serial in its names, and has made no event.
pub record Arrives (p : PortState) (session serial : ℕ) (script : SessionCommands) : Type 0 where
  pub serves : p.serves session ≡ true
  pub opened : CanServe p.told.opened
  pub fresh : events_of session p.told.events ≡ []
  pub range : (1 ≤ session) × (session ≤ length p.told.opened.script)
  pub serial_is : serial ≡ session_serial p.told.opened session
  pub of_script : slice_get p.told.opened.script (session - 1) ≡ Some script

-- The transcript of a session that began when so many events had come: its login saw all these, and
-- perhaps further ones of others.
pub record IsTranscriptSince (t : Told) (session seen : ℕ) (script : SessionCommands)
    (transcript : Transcript) : Type 0 where
  pub session_is : transcript.session ≡ session
  pub user_is : transcript.user ≡ script.user
  pub says : Says t session seen script transcript.replies

-- The session of the script's user has just logged in: it has made no event, and its first
-- transaction stands at what stands now.
pub record HasLoggedIn (t : Told) (script : SessionCommands) (s : Session) : Type 0 where
  pub of_script : slice_get t.opened.script (s.session - 1) ≡ Some script
  pub user : user_in (standing t).image script.user ≡ Some s.view.state.seen.setting.user
  pub fresh : events_of s.session t.events ≡ []
  pub view : s.number ≡ (standing t).number
  pub carries : session_state s ≡ first_transaction s.session s.view.state.seen.setting.user s.number
  pub stands : StandsBefore t 1 s

-- ---- where memory runs out

-- The command was done, by the events that came, as with a reply that the session would have given.
pub record IsDone (o : Opened) (number : ℕ) (before after : List Event) (s : Session) (c : Command)
    : Type 0 where
  pub lines : List Line
  pub next : SessionState
  pub of_session : next.session ≡ s.session
  pub says : CommandSays (record { opened = o; number = number; before = before; after = after })
      (session_state s) c lines next

-- what became of a command for whose reply there was no memory: nothing, or it was done
abbrev pub FallsShort : Opened → (number : ℕ) → (before after : List Event) → Session → Command
    → Type 0
FallsShort o number before after s c =
    OthersCame s.session before after ⊎ IsDone o number before after s c

-- the same between these states of the session's port
abbrev pub FallsShortBy : (p q : PortState) → (number : ℕ) → Session → Command → Type 0
FallsShortBy p q number s c = FallsShort p.told.opened number p.told.events q.told.events s c

-- What a session did for which memory ran out, by all events: it logged in, as one does that
-- began when the first `seen` events had come, did the first `count` of its commands, each as with
-- a reply that it might have given, and logged out. It made no other event.
pub record WasCutShort (t : Told) (session seen : ℕ) (script : SessionCommands) : Type 0 where
  pub of_script : slice_get t.opened.script (session - 1) ≡ Some script
  pub count : ℕ
  pub replies : List Reply
  pub point : ℕ
  pub view : ℕ
  pub saw : seen ≤ point
  pub within : point ≤ length t.events
  pub sees : SeesNumber t.opened session [] (take point t.events) view
  pub says : SaysOf (user_in (after_events t.opened (take point t.events)).image script.user)
      t session point view (until_logout (take count script.commands)) replies

-- It will have been cut short when it is logged out, whatever others do until then.
abbrev pub IsToBeCutShort : Told → (session seen : ℕ) → SessionCommands → Type 0
IsToBeCutShort t session seen script = (after : List Event)
    → LogoutSays t.opened t.events after session
    → WasCutShort (record t { events = after }) session seen script
