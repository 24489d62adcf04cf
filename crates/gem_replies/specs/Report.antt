-- The report of a run, from its book.
use Rattle.std.specs.Prelude.{ℕ, ◌+◌, codes, List, [], ◌∷◌, ◌++◌, length, map}
use Rattle.std.specs.List.{flat_map}
use Rattle.std.specs.Fmt.{decimal}
use Rattle.gem_object.specs.texts.Bytes.{Bytes}
use Rattle.gem_object.specs.texts.Lines.{text_of_lines}
use Rattle.gem_object.specs.gem_value.Oid.{oid_text}
use Rattle.gem_object.specs.gem_value.Conflict.{kind_number}
use Rattle.gem_object.specs.gem_value.declared.conflict.Conflict.{Conflict}
use Rattle.gem_object.specs.gem_value.declared.conflict.ConflictKind.{ConflictKind}
use Rattle.gem_object.specs.gem_value.declared.conflict.ConflictKind.TheVariants.{WriteReadLock, WriteWriteLock}
use Rattle.gem_record.specs.declared.record.Entry.{Entry}
use Rattle.gem_record.specs.declared.mode.Mode.{Mode}
use Rattle.gem_record.specs.declared.mode.Mode.TheVariants.{Full, NoRw}
use Rattle.gem_replies.specs.Line.{reply_text, conflicts_of}
use Rattle.gem_replies.specs.declared.reply.Reply.{Reply}
use Rattle.gem_replies.specs.declared.reply.Transcript.{Transcript}
use Rattle.gem_replies.specs.declared.reply.RunBook.{RunBook}

-- what the number is that is shown with a conflict of this kind
abbrev pub shown_name : ConflictKind → Bytes
shown_name WriteReadLock = codes "session"
shown_name WriteWriteLock = codes "session"
shown_name _ = codes "commit"

-- the line of a conflict
abbrev pub conflict_text : Conflict → Bytes
conflict_text conflict = codes "C" ++ decimal (kind_number conflict.kind)
    ++ codes " object " ++ oid_text conflict.oid
    ++ codes " " ++ shown_name conflict.kind ++ codes " " ++ decimal conflict.shown

-- a reply, and a line for each conflict that it names
abbrev pub reply_lines : Reply → List Bytes
reply_lines reply = (codes "[" ++ decimal reply.command ++ codes "] " ++ reply_text reply.line)
    ∷ map conflict_text (conflicts_of reply.line)

-- a session: its number and its user, and then its replies
abbrev pub transcript_lines : Transcript → List Bytes
transcript_lines transcript =
    (codes "session " ++ decimal transcript.session ++ codes " " ++ transcript.user)
    ∷ flat_map reply_lines transcript.replies

-- what is noted of a commit in this mode: that it wasn't checked for what was only read
abbrev pub mode_note : Mode → Bytes
mode_note Full = []
mode_note NoRw = codes " no_rw_checks"

-- the line of the commit with this number
abbrev pub entry_text : ℕ → Entry → Bytes
entry_text number entry = decimal number ++ codes " session " ++ decimal entry.session
    ++ codes " transaction " ++ decimal entry.transaction ++ codes " view " ++ decimal entry.view
    ++ mode_note entry.mode

-- the lines of commits that are numbered from here on
abbrev pub history_lines : ℕ → List Entry → List Bytes
history_lines number [] = []
history_lines number (entry ∷ entries) =
    entry_text number entry ∷ history_lines (number + 1) entries

-- how many commits the run made, and their lines
abbrev pub commit_lines : ℕ → List Entry → List Bytes
commit_lines first history =
    (codes "commits " ++ decimal (length history)) ∷ history_lines (first + 1) history

-- the sessions in order, and then the commits
abbrev pub report_lines : RunBook → List Bytes
report_lines book =
    flat_map transcript_lines book.transcripts ++ commit_lines book.first book.history

-- the text of the report
abbrev pub report_of : RunBook → Bytes
report_of book = text_of_lines (report_lines book)
