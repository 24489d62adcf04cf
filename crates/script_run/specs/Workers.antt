-- Sessions that run side by side: how each is started, and what it leaves.
use Rattle.std.specs.Prelude.{◌≡◌, ◌≤◌, ℕ, ◌+◌, List, length, Some, IfOk}
use Rattle.std.specs.List.{slice_get}
use Rattle.shell_words.specs.Script.{SessionCommands}
use Rattle.shell_words.specs.declared.limits.TheConstants.{SESSION_LIMIT}
use Rattle.gem_replies.specs.declared.reply.Transcript.{Transcript}
use Rattle.gem_clock.specs.Shown.{ClockId}
use Rattle.gem_meaning.specs.Opened.{Opened, base_serial}
use Rattle.gem_meaning.specs.Events.{Event, Told}
use Rattle.gem_meaning.specs.Legal.{IsTranscript}
use Rattle.gem_meaning.specs.Serial.{CanServe}
use Rattle.gem_session.specs.Running.{IsTranscriptSince}
use Rattle.stone_shared.specs.Shared.{told_at}
use Rattle.script_run.specs.declared.session.SessionEnd.{SessionEnd}
use Rattle.script_run.specs.declared.session.Started.{Started}
use Rattle.script_run.specs.declared.session.Started.TheVariants.{Running, Here}

-- The session with this number has ended: it gives back its stamp, and by what it had seen it said
-- what its transcript has, if memory sufficed for one.
pub record HasEnded (clock : ClockId) (o : Opened) (session : ℕ) (script : SessionCommands)
    (end : SessionEnd) : Type 0 where
  pub clock_is : end.stamp.clock ≡ clock
  pub author_is : end.stamp.author ≡ session
  pub says : IfOk end.transcript
      (λ transcript. IsTranscriptSince (told_at o end.stamp) session 0 script transcript)

-- The sessions of the script are served over a Stone that was opened so, and the first one's serial
-- is this.
pub record Serves (o : Opened) (base : ℕ) (sessions : List SessionCommands) : Type 0 where
  pub script_is : o.script ≡ sessions
  pub opening : CanServe o
  pub base_is : base ≡ base_serial o
  pub count : length sessions ≤ SESSION_LIMIT

-- each item of a list is so at its place
abbrev pub Each : {X : Type 0} → (ℕ → X → Type 0) → List X → Type 0
Each IsSo xs = (place : ℕ) (x : _) → slice_get xs place ≡ Some x → IsSo place x

-- the session at this place of the script has ended
abbrev pub HasEndedAt : ClockId → Opened → List SessionCommands → ℕ → SessionEnd → Type 0
HasEndedAt clock o sessions place end = (script : SessionCommands) →
    slice_get sessions place ≡ Some script → HasEnded clock o (place + 1) script end

-- the transcript is that of the session at this place
abbrev pub HasToldAt : Told → List SessionCommands → ℕ → Transcript → Type 0
HasToldAt t sessions place transcript = (script : SessionCommands) →
    slice_get sessions place ≡ Some script → IsTranscript t (place + 1) script transcript

-- all that happened to the Stone
abbrev pub told_all : Opened → List Event → Told
told_all o events = record { opened = o; events = events }

module _ {K N : Type 0} where
  -- The session runs in a thread that promises its end, or has ended.
  abbrev pub IsStarted : ClockId → Opened → ℕ → SessionCommands → Started K N → Type 0
  IsStarted clock o session script (Running child) =
      (child.promise.session ≡ session) × (child.promise.script.value ≡ script)
  IsStarted clock o session script (Here end) = HasEnded clock o session script end

  abbrev pub IsStartedAt : ClockId → Opened → List SessionCommands → ℕ → Started K N → Type 0
  IsStartedAt clock o sessions place started = (script : SessionCommands) →
      slice_get sessions place ≡ Some script → IsStarted clock o (place + 1) script started
