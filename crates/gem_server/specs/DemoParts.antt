-- The parts of a demo, as they come back.
use Rattle.std.specs.Prelude.{Bool, true, false, List}
use Rattle.std.specs.List.{list_all}
use Rattle.gem_object.specs.texts.Bytes.{Bytes}
use Rattle.gem_disk.specs.Disk.{Files, as_read}
use Rattle.gem_replies.specs.declared.reply.Line.{Line}
use Rattle.gem_replies.specs.declared.reply.Line.TheVariants.{NoMemory, DiskFault}
use Rattle.gem_replies.specs.declared.reply.Transcript.{Transcript}
use Rattle.gem_meaning.specs.Opened.{Opened}
use Rattle.gem_server.specs.declared.demo.Part.{Part}
use Rattle.gem_server.specs.Demo.{IsServedOver}

-- The script was served over files that held this, and this is what it left.
pub record IsPart (text : Bytes) (before : Files) (part : Part) : Type 0 where
  pub opened : Opened
  pub served : IsServedOver text before (as_read part.disk.past)
      (record { opened = opened; events = part.events }) part.book

-- whether a line says neither that memory ran out nor that the disk failed
abbrev pub is_served_line : Line → Bool
is_served_line NoMemory = false
is_served_line DiskFault = false
is_served_line _ = true

-- whether no reply of the transcripts says so
abbrev pub are_served : List Transcript → Bool
are_served transcripts = list_all
    (λ transcript. list_all (λ reply. is_served_line reply.line) transcript.replies) transcripts
