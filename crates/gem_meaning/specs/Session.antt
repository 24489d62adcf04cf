-- What a session says: its replies to each command, by the events that had come before them.
use Rattle.std.specs.Prelude.{◌≡◌, ℕ, Bool, zero, suc, ◌+◌, ◌-◌, ◌≤◌, List, [], ◌∷◌, ◌++◌, length, map, take, drop, Option, Some, None, if◌then◌else◌}
use Rattle.std.specs.List.{slice_get}
use Rattle.gem_replies.specs.declared.reply.Line.{Line}
use Rattle.gem_replies.specs.declared.reply.Line.TheVariants.{NoUser, NotLoggedIn, Login, Logout as LoggedOut, Mode}
use Rattle.gem_replies.specs.declared.reply.Reply.{Reply}
use Rattle.shell_words.specs.Script.{SessionCommands, is_logout}
use Rattle.shell_words.specs.declared.script.Command.{Command}
use Rattle.shell_words.specs.declared.script.Command.TheVariants.{Chunk, Method, Commit, Abort, Logout, Lock, Unlock, Checkpoint, Mode as SetMode}
use Rattle.gem_meaning.specs.Commands.{object_command, mode_of}
use Rattle.gem_meaning.specs.Names.{user_in}
use Rattle.gem_meaning.specs.Events.{Told, after_events, events_of}
use Rattle.gem_meaning.specs.State.{SessionState, CommandPlace, first_transaction, place_between}
use Rattle.gem_meaning.specs.Runs.{RunSays}
use Rattle.gem_meaning.specs.Commits.{SeesNumber, CommitReply, AbortReply}
use Rattle.gem_meaning.specs.Locks.{LockReply, UnlockReply, LogsOut}
use Rattle.gem_meaning.specs.Checkpoints.{CheckReply}

-- there is one reply
abbrev pub OneReply : List Line → (Line → Type 0) → Type 0
OneReply lines IsIt = (line : Line) × (lines ≡ line ∷ []) × IsIt line

-- the reply to a logout
abbrev pub LogoutReply : CommandPlace → SessionState → Line → SessionState → Type 0
LogoutReply at s line s' = (line ≡ LoggedOut) × LogsOut at s × (s' ≡ s)

-- The reply to a line that sets the mode, which doesn't look at the Stone: the line's own words. The
-- mode holds for the transaction that goes on.
abbrev pub ModeReply : CommandPlace → SessionState → (full : Bool) → Line → SessionState → Type 0
ModeReply at s full line s' = (line ≡ Mode full) × (at.after ≡ at.before)
    × (s' ≡ record s { mode = mode_of full })

-- The replies to a command, and what the session carries then.
abbrev pub CommandSays : CommandPlace → SessionState → Command → List Line → SessionState → Type 0
CommandSays at s (Chunk prints text) lines s' =
    RunSays (object_command (Chunk prints text)) at s lines s'
CommandSays at s (Method class_side class text) lines s' =
    RunSays (object_command (Method class_side class text)) at s lines s'
CommandSays at s Commit lines s' = OneReply lines (λ line. CommitReply at s line s')
CommandSays at s Abort lines s' = OneReply lines (λ line. AbortReply at s line s')
CommandSays at s Logout lines s' = OneReply lines (λ line. LogoutReply at s line s')
CommandSays at s (Lock write name) lines s' =
    OneReply lines (λ line. LockReply at s write name line s')
CommandSays at s (Unlock name) lines s' = OneReply lines (λ line. UnlockReply at s name line s')
CommandSays at s Checkpoint lines s' = OneReply lines (λ line. CheckReply at s line s')
CommandSays at s (SetMode full) lines s' = OneReply lines (λ line. ModeReply at s full line s')

-- a reply, with the number of its command
abbrev pub reply_with : ℕ → Line → Reply
reply_with number line = record { command = number; line = line }

-- the replies to one command
abbrev pub replies_with : ℕ → List Line → List Reply
replies_with number lines = map (reply_with number) lines

-- The replies to the command with this number, which begin at point `p` of all events, and those to
-- the commands after it: what these say, from a point on and with what the session carries then, is
-- `Rest`.
pub record SaysOne (t : Told) (number p : ℕ) (s : SessionState) (c : Command) (rs : List Reply)
    (Rest : ℕ → SessionState → List Reply → Type 0) : Type 0 where
  pub point : ℕ
  pub next : SessionState
  pub lines : List Line
  pub more : List Reply
  pub from : p ≤ point
  pub within : point ≤ length t.events
  pub replies : rs ≡ replies_with number lines ++ more
  pub says : CommandSays (place_between t number p point) s c lines next
  pub rest : Rest point next more

-- The replies to commands whose numbers go on from `number`, from point `p` of all events to point
-- `q`.
abbrev pub CommandsSay : Told → (number p q : ℕ) → SessionState → List Command → List Reply → Type 0
CommandsSay t number p q s [] rs = (rs ≡ []) × (p ≡ q)
CommandsSay t number p q s (c ∷ cs) rs =
    SaysOne t number p s c rs (λ point next more. CommandsSay t (number + 1) point q next cs more)

-- the commands up to the first logout, with a logout at the end in any case
abbrev pub until_logout : List Command → List Command
until_logout [] = Logout ∷ []
until_logout (c ∷ cs) = if is_logout c then c ∷ [] else c ∷ until_logout cs

-- the replies to so many commands, whose numbers go on from this one, where nobody is logged in
abbrev pub not_logged_in : (number count : ℕ) → List Reply
not_logged_in number zero = []
not_logged_in number (suc count) = reply_with number NotLoggedIn ∷ not_logged_in (number + 1) count

-- After the login, which saw the first `point` events, the user's session replies to each command.
-- Its own events are those that its replies name: none comes after the last reply.
pub record SaysOfUser (t : Told) (session user point view : ℕ) (commands : List Command)
    (rs : List Reply) : Type 0 where
  pub replies : List Reply
  pub end : ℕ
  pub login : rs ≡ reply_with 0 (Login view) ∷ replies
  pub within : end ≤ length t.events
  pub says : CommandsSay t 1 point end (first_transaction session user view) commands replies
  pub no_more : events_of session (drop end t.events) ≡ []

-- Where the image has no such user, each command is refused, and the session makes no event.
pub record SaysOfNobody (t : Told) (session point view : ℕ) (commands : List Command)
    (rs : List Reply) : Type 0 where
  pub refused : rs ≡ reply_with 0 (NoUser view) ∷ not_logged_in 1 (length commands)
  pub no_more : events_of session (drop point t.events) ≡ []

abbrev pub SaysOf : Option ℕ → Told → (session point view : ℕ) → List Command → List Reply → Type 0
SaysOf (Some user) t session point view commands rs =
    SaysOfUser t session user point view commands rs
SaysOf None t session point view commands rs = SaysOfNobody t session point view commands rs

-- What a session of the script replies, by all events: to its login, which saw the first `point`
-- events, all of other sessions, and then to each command. The first `seen` events had come before
-- the session: its login saw these, and perhaps further ones. What came later, it didn't see.
pub record Says (t : Told) (session seen : ℕ) (script : SessionCommands) (rs : List Reply)
    : Type 0 where
  pub of_script : slice_get t.opened.script (session - 1) ≡ Some script
  pub point : ℕ
  pub view : ℕ
  pub saw : seen ≤ point
  pub within : point ≤ length t.events
  pub sees : SeesNumber t.opened session [] (take point t.events) view
  pub says : SaysOf (user_in (after_events t.opened (take point t.events)).image script.user)
      t session point view (until_logout script.commands) rs
