-- A legal run: the book of a run, by what the Stone was opened with and all its events.
use Rattle.std.specs.Prelude.{◌≡◌, ◌≢◌, ℕ, ◌+◌, List, [], ◌∷◌}
use Rattle.std.specs.List.{AllByRecursion}
use Rattle.shell_words.specs.Script.{SessionCommands}
use Rattle.gem_replies.specs.declared.reply.Line.TheVariants.{NoMemory, DiskFault}
use Rattle.gem_replies.specs.declared.reply.Reply.{Reply}
use Rattle.gem_replies.specs.declared.reply.RunBook.{RunBook}
use Rattle.gem_replies.specs.declared.reply.Transcript.{Transcript}
use Rattle.gem_meaning.specs.Opened.{base_serial}
use Rattle.gem_meaning.specs.Events.{Told, entries_of}
use Rattle.gem_meaning.specs.Serial.{IsConsistent}
use Rattle.gem_meaning.specs.Session.{Says}

-- the transcript is what the session with this number says, whatever had come before it
pub record IsTranscript (t : Told) (number : ℕ) (session : SessionCommands)
    (transcript : Transcript) : Type 0 where
  pub session_is : transcript.session ≡ number
  pub user_is : transcript.user ≡ session.user
  pub says : Says t number 0 session transcript.replies

-- a transcript for each session, in the order of the script, whose numbers go on from this one
abbrev pub AreTranscripts : Told → ℕ → List SessionCommands → List Transcript → Type 0
AreTranscripts t number [] [] = Unit {0}
AreTranscripts t number (session ∷ sessions) (transcript ∷ transcripts) =
    IsTranscript t number session transcript × AreTranscripts t (number + 1) sessions transcripts
AreTranscripts t number [] (transcript ∷ transcripts) = ⊥
AreTranscripts t number (session ∷ sessions) [] = ⊥

-- A run is legal: the book has the number that the Stone was opened at, its base serial and its
-- history, each transcript is what its session says, every event is of a session of the script, and
-- the commits have a serial order.
pub record IsLegal (t : Told) (book : RunBook) : Type 0 where
  pub first : book.first ≡ t.opened.number
  pub base : book.base ≡ base_serial t.opened
  pub history : book.history ≡ entries_of t.events
  pub transcripts : AreTranscripts t 1 t.opened.script book.transcripts
  pub consistent : IsConsistent t

-- the reply isn't that memory ran out, nor that the disk failed
abbrev pub WasServed : Reply → Type 0
WasServed reply = (reply.line ≢ NoMemory) × (reply.line ≢ DiskFault)

-- no session replied `no memory` or `disk fault`
abbrev pub AlwaysServed : RunBook → Type 0
AlwaysServed book =
    AllByRecursion (λ transcript. AllByRecursion WasServed transcript.replies) book.transcripts
