-- How a run over a store is told.
use Rattle.std.specs.Prelude.{◌≡◌, ◌≢◌, ℕ, List, [], Option, None, IfOk, OnErr}
use Rattle.gem_object.specs.texts.Bytes.{Bytes}
use Rattle.stone_store.specs.Whole.{StoreOf}
use Rattle.gem_replies.specs.Report.{report_of}
use Rattle.gem_replies.specs.declared.reply.RunBook.{RunBook}
use Rattle.gem_replies.specs.declared.reply.Transcript.{Transcript}
use Rattle.script_run.specs.declared.run.Ran.{Ran}
use Rattle.gem_server.specs.declared.status.Status.{Status}
use Rattle.gem_server.specs.declared.status.Status.TheVariants.{Done, WriteFault, DiskFault, NoMemory}
use Rattle.gem_server.specs.declared.status.Ended.{Ended}
use Rattle.gem_server.specs.Devices.{Seen, IsUnused}
use Rattle.gem_server.specs.Writing.{HasWritten}

abbrev pub WritesSo : Option ℕ → Seen (Option Bytes) → Bytes → Status → Type 0
WritesSo halted sink report Done = (halted ≡ None) × HasWritten sink report Done
WritesSo halted sink report WriteFault = (halted ≡ None) × HasWritten sink report WriteFault
WritesSo halted sink report DiskFault =
    (halted ≢ None) × ((wrote : Status) × HasWritten sink report wrote)
WritesSo halted sink report _ = ⊥

-- The book with these transcripts was told: that the disk had failed comes before that the sink did.
-- Or there was no memory for the report, and the book has no transcript.
abbrev pub TellsRun : RunBook → List Transcript → Option ℕ → Seen (Option Bytes) → Status → RunBook
    → Type 0
TellsRun book transcripts halted sink NoMemory told = (told ≡ book) × IsUnused sink
TellsRun book transcripts halted sink status told =
    (told ≡ record book { transcripts = transcripts })
    × WritesSo halted sink (report_of told) status

-- The run was told, and its disk, its events and its commits are handed back.
pub record IsFinished {D : Type 0} (first base : ℕ) (ran : Ran (StoreOf D)) (sink : Seen (Option Bytes))
    (ended : Ended D) : Type 0 where
  pub disk_is : ended.disk ≡ ran.closed.keeper.disk
  pub events_are : ended.events ≡ ran.closed.events.items
  pub book : RunBook
  pub book_is : book ≡ record {
    first = first;
    base = base;
    transcripts = [];
    history = ran.closed.history.items;
  }
  pub told : IfOk ran.transcripts (λ transcripts.
      TellsRun book transcripts.items ran.closed.halted sink ended.status ended.book)
  pub starved : OnErr ran.transcripts (TellsRun book [] None sink NoMemory ended.book
      × (ended.status ≡ NoMemory))
