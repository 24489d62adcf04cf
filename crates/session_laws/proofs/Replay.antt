-- What a session replies, as a function of the events at its points. One that is never short of
-- memory, and within none of whose commands the disk fails, replies so.
use Rattle.std.specs.Prelude.{ℕ, ◌+◌, ◌==◌, Bool, true, false, List, [], ◌∷◌, ◌++◌, length, take, drop, Option, Some, None, cond}
use Rattle.std.specs.Option.{option_map}
use Rattle.gem_meaning.specs.gem_value.declared.conflict.Conflict.{Conflict}
use Rattle.gem_meaning.specs.lock_table.LockKind.{kind_granted}
use Rattle.gem_meaning.specs.lock_table.Locks.{kind_held, denied_for}
use Rattle.gem_meaning.specs.lock_table.declared.lock.LockKind.{LockKind}
use Rattle.gem_meaning.specs.gem_language.Commands.{Command as ObjectCommand}
use Rattle.gem_meaning.specs.gem_replies.declared.reply.Line.{Line}
use Rattle.gem_meaning.specs.gem_replies.declared.reply.Line.TheVariants.{NoMemory, NoUser, Login, Unchanged, Refused, Committed, Aborted, Denied, Locked, NotHeld, Unlocked, Logout as LoggedOut, Halted, LogFull, ExtentFull, Checkpoint as CheckpointLine, Mode as ModeLine}
use Rattle.gem_meaning.specs.gem_replies.declared.reply.Reply.{Reply}
use Rattle.gem_meaning.specs.shell_words.Script.{SessionCommands}
use Rattle.gem_meaning.specs.shell_words.declared.script.Command.{Command}
use Rattle.gem_meaning.specs.shell_words.declared.script.Command.TheVariants.{Chunk, Method, Commit, Abort, Logout, Lock, Unlock, Checkpoint, Mode}
use Rattle.gem_meaning.specs.Commands.{object_command, mode_of}
use Rattle.gem_meaning.specs.Opened.{Opened}
use Rattle.gem_meaning.specs.Names.{user_in}
use Rattle.gem_meaning.specs.Events.{Event, Told, Standing, after_events, halts_in}
use Rattle.gem_meaning.specs.After.{log_after, pages_after}
use Rattle.gem_meaning.specs.State.{SessionState, CommandPlace, place_between, first_transaction, next_transaction, record_to}
use Rattle.gem_meaning.specs.Runs.{setting_of, world_so_far, lines_in, next_in}
use Rattle.gem_meaning.specs.Commits.{conflicts_found, size_found}
use Rattle.gem_meaning.specs.Locks.{Target, replies as by_itself, asks, unlock_target, lock_target, kind_asked, is_clean}
use Rattle.gem_meaning.specs.Session.{reply_with, replies_with, until_logout, not_logged_in}

-- the number that stands after these events
abbrev pub number_after : Opened → List Event → ℕ
number_after o es = (after_events o es).number

-- what stands after a command
abbrev pub then_at : CommandPlace → Standing
then_at at = after_events at.opened at.after

-- What comes of a command: the lines of its replies, and what the session carries next.
pub record CommandReplay : Type 0 where
  pub lines : List Line
  pub next : SessionState

-- one reply, after which the transaction goes on
abbrev pub replay_plain : Line → SessionState → CommandReplay
replay_plain line s = record { lines = line ∷ []; next = s }

-- one reply, after which the next transaction sees what stands then
abbrev pub replay_next : Line → CommandPlace → SessionState → CommandReplay
replay_next line at s = record {
  lines = line ∷ [];
  next = next_transaction s (then_at at).number at.number;
}

-- ---- the session's own event

-- the events before the first one of this session, if it has one of these
abbrev pub before_own : ℕ → List Event → Option (List Event)
before_own session [] = None
before_own session (e ∷ es) =
    cond (e.0 == session) (Some [])
    (option_map (λ (others : List Event). e ∷ others) (before_own session es))

-- what comes of a command, by the events before its own one, if it has one
abbrev pub by_others : Option (List Event) → (before : List Event) → CommandReplay
    → (List Event → CommandReplay) → CommandReplay
by_others None before without own = without
by_others (Some others) before without own = own (before ++ others)

-- What comes of a command, by whether the session's own event is among those that came within it:
-- where it is, by the events before that one.
abbrev pub by_own : CommandPlace → SessionState → CommandReplay → (List Event → CommandReplay)
    → CommandReplay
by_own at s without own =
    by_others (before_own s.session (drop (length at.before) at.after)) at.before without own

-- ---- each command

-- a chunk or a method
abbrev pub replay_run : CommandPlace → SessionState → ObjectCommand → CommandReplay
replay_run at s command = let setting = setting_of at.opened at.before s in record {
  lines = lines_in command setting (world_so_far at s);
  next = record s { next_name = next_in command setting (world_so_far at s) };
}

abbrev pub replay_object : Option ObjectCommand → CommandPlace → SessionState → CommandReplay
replay_object (Some command) at s = replay_run at s command
replay_object None at s = record { lines = []; next = s }

-- whether two lists have no items
abbrev pub nothing_in : {A B : Type 0} → List A → List B → Bool
nothing_in [] [] = true
nothing_in [] (y ∷ ys) = false
nothing_in (x ∷ xs) ys = false

-- whether the record of the transaction to this command has no change
abbrev pub nothing_done : CommandPlace → SessionState → Bool
nothing_done at s = nothing_in (record_to at.opened at.after at.number s).written
    (record_to at.opened at.after at.number s).updates

-- where the disk had failed that is replied, or else this comes
abbrev pub unless_halted : List ℕ → SessionState → CommandReplay → CommandReplay
unless_halted [] s r = r
unless_halted (number ∷ more) s r = replay_plain (Halted number) s

-- a commit that isn't placed, by whether nothing was changed, and by the conflicts
abbrev pub replay_by : Bool → List Conflict → CommandPlace → SessionState → CommandReplay
replay_by true found at s = replay_next (Unchanged s.view (then_at at).number) at s
replay_by false (conflict ∷ more) at s = replay_plain (Refused (conflict ∷ more)) s
replay_by false [] at s = replay_plain (LogFull (log_after at.opened at.after)
    (size_found at.opened at.after at.number s)) s

abbrev pub replay_unplaced : CommandPlace → SessionState → CommandReplay
replay_unplaced at s = unless_halted (halts_in at.after) s
    (replay_by (nothing_done at s) (conflicts_found at.opened at.after at.number s) at s)

-- one that is placed after these events
abbrev pub replay_placed : CommandPlace → SessionState → List Event → CommandReplay
replay_placed at s before =
    replay_next (Committed (number_after at.opened before + 1) (then_at at).number) at s

abbrev pub replay_commit : CommandPlace → SessionState → CommandReplay
replay_commit at s = by_own at s (replay_unplaced at s) (replay_placed at s)

-- a checkpoint that isn't made, and one that is made after these events
abbrev pub replay_unmade : CommandPlace → SessionState → CommandReplay
replay_unmade at s = unless_halted (halts_in at.after) s
    (replay_plain (ExtentFull (pages_after at.opened at.after)) s)

abbrev pub replay_made : CommandPlace → SessionState → List Event → CommandReplay
replay_made at s before = replay_plain (CheckpointLine (number_after at.opened before)) s

abbrev pub replay_check : CommandPlace → SessionState → CommandReplay
replay_check at s = by_own at s (replay_unmade at s) (replay_made at s)

-- a lock that isn't granted, by who is in its way
abbrev pub replay_denied : Option (ℕ × LockKind) → SessionState → LockKind → (oid : ℕ)
    → CommandReplay
replay_denied (Some (holder, held)) s asked oid = replay_plain (Denied asked oid holder held) s
replay_denied None s asked oid = replay_plain NoMemory s

abbrev pub replay_ungranted : CommandPlace → SessionState → LockKind → (oid : ℕ) → CommandReplay
replay_ungranted at s asked oid =
    replay_denied (denied_for (then_at at).locks s.session oid asked) s asked oid

-- one that is granted after these events
abbrev pub replay_granted : CommandPlace → SessionState → LockKind → (oid : ℕ) → List Event
    → CommandReplay
replay_granted at s asked oid before = let stands = after_events at.opened before in
    replay_plain (Locked (kind_granted (kind_held stands.locks s.session oid) asked) oid
    (is_clean stands s.view oid)) s

abbrev pub replay_lock : CommandPlace → SessionState → LockKind → (oid : ℕ) → CommandReplay
replay_lock at s asked oid =
    by_own at s (replay_ungranted at s asked oid) (replay_granted at s asked oid)

abbrev pub replay_unlock : CommandPlace → SessionState → (oid : ℕ) → CommandReplay
replay_unlock at s oid = by_own at s (replay_plain (NotHeld oid) s)
    (λ (before : List Event). replay_plain (Unlocked oid) s)

-- what comes of a target, by what the Stone says of an object
abbrev pub replay_target : Target → (ℕ → CommandReplay) → SessionState → CommandReplay
replay_target (by_itself line) asked s = replay_plain line s
replay_target (asks oid) asked s = asked oid

-- a line that sets the mode
abbrev pub replay_mode : (full : Bool) → SessionState → CommandReplay
replay_mode full s = record { lines = ModeLine full ∷ []; next = record s { mode = mode_of full } }

abbrev pub replay_command : CommandPlace → SessionState → Command → CommandReplay
replay_command at s (Chunk prints text) = replay_object (object_command (Chunk prints text)) at s
replay_command at s (Method class_side class text) =
    replay_object (object_command (Method class_side class text)) at s
replay_command at s Commit = replay_commit at s
replay_command at s Abort = replay_next (Aborted (then_at at).number) at s
replay_command at s Logout = replay_plain LoggedOut s
replay_command at s (Lock write name) =
    replay_target (lock_target (kind_asked write) name (setting_of at.opened at.before s)
    (world_so_far at s)) (replay_lock at s (kind_asked write)) s
replay_command at s (Unlock name) =
    replay_target (unlock_target name (setting_of at.opened at.before s) (world_so_far at s))
    (replay_unlock at s) s
replay_command at s Checkpoint = replay_check at s
replay_command at s (Mode full) = replay_mode full s

-- ---- a session

-- commands one after another, whose numbers go on from this one, with the point after each
abbrev pub replay_commands : Told → (number p : ℕ) → SessionState → List Command → (points : List ℕ)
    → List Reply
replay_commands t number p s [] points = []
replay_commands t number p s (c ∷ cs) [] = []
replay_commands t number p s (c ∷ cs) (q ∷ points) =
    let r : CommandReplay = replay_command (place_between t number p q) s c in
    replies_with number r.lines ++ replay_commands t (number + 1) q r.next cs points

-- a session whose login saw so many events, by the object of its user
abbrev pub replay_login : Option ℕ → Told → (session point : ℕ) → List Command → (points : List ℕ)
    → List Reply
replay_login (Some user) t session point cs points =
    let view : ℕ = number_after t.opened (take point t.events) in
    reply_with 0 (Login view)
    ∷ replay_commands t 1 point (first_transaction session user view) cs points
replay_login None t session point cs points =
    reply_with 0 (NoUser (number_after t.opened (take point t.events)))
    ∷ not_logged_in 1 (length cs)

-- the user's object in the image that a login sees
abbrev pub user_at : Told → SessionCommands → (point : ℕ) → Option ℕ
user_at t script point =
    user_in (after_events t.opened (take point t.events)).image script.user

-- a session, by its points
abbrev pub replay : Told → (session : ℕ) → SessionCommands → (points : List ℕ) → List Reply
replay t session script [] = []
replay t session script (point ∷ points) =
    replay_login (user_at t script point) t session point (until_logout script.commands) points
