-- Replies `disk fault`, and the events that tell of a failure of the disk.
use Rattle.std.specs.Prelude.{◌≡◌, ℕ, List, Option, Contains}
use Rattle.gem_meaning.specs.gem_record.declared.record.Entry.{Entry}
use Rattle.gem_meaning.specs.gem_replies.declared.reply.Line.TheVariants.{DiskFault}
use Rattle.gem_meaning.specs.gem_replies.declared.reply.Reply.{Reply}
use Rattle.gem_meaning.specs.gem_replies.declared.reply.RunBook.{RunBook}
use Rattle.gem_meaning.specs.gem_replies.declared.reply.Transcript.{Transcript}
use Rattle.gem_meaning.specs.declared.event.What.TheVariants.{Halted}
use Rattle.gem_meaning.specs.Events.{Event}

-- a reply of the transcript is `disk fault`
abbrev pub TellsFault : Transcript → Type 0
TellsFault transcript =
    (reply : Reply) × Contains transcript.replies reply × (reply.line ≡ DiskFault)

-- a reply of the book is
abbrev pub HasFault : RunBook → Type 0
HasFault book =
    (transcript : Transcript) × Contains book.transcripts transcript × TellsFault transcript

-- an event of the session tells that the disk failed
abbrev pub HasFailedIn : List Event → (session : ℕ) → Type 0
HasFailedIn events session =
    (number : ℕ) × (entry : Option Entry) × Contains events (session, Halted number entry)
