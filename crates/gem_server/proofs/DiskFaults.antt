-- A reply is `disk fault` only where the disk failed, and where the status is.
use Rattle.std.proofs.Common.{◌≡◌, ◌⊎◌, Bool, List, [], Option, refl, subst, inl, inr, arith}
use Rattle.std.specs.List.{Contains}
use Rattle.gem_object.specs.texts.Bytes.{Bytes}
use Rattle.gem_disk.specs.Disk.{Past}
use Rattle.gem_meaning.specs.Events.{Event}
use Rattle.gem_replies.specs.declared.reply.RunBook.{RunBook}
use Rattle.gem_replies.specs.declared.reply.Transcript.{Transcript}
use Rattle.script_run.specs.session_laws.Faults.{HasFault}
use Rattle.script_run.proofs.session_laws_lemmas.Faults.{none_of_running, some_of_halted}
use Rattle.gem_server.specs.declared.status.Status.{Status}
use Rattle.gem_server.specs.declared.status.Status.TheVariants.{Done, Usage, Script, NotStore, SerialsUsed, NotEmpty, ReadFault, DiskFault, WriteFault, NoMemory}
use Rattle.gem_server.specs.Devices.{Seen, HasFailed}
use Rattle.gem_server.specs.Alone.{RanAlone, told_from_kernel}
use Rattle.gem_server.specs.Serving.{HasRun, IsWhyNot, IsBlankBy}
use Rattle.gem_server.specs.DiskFaults.{FaultsHaveCause, FaultsAreTold, NoFaultAlone}

-- a book without a transcript has none
no_transcript : (book : RunBook) → book.transcripts ≡ [] → HasFault book → ⊥
no_transcript book none (transcript, at, tells) =
    let nowhere = subst (λ (ts : List Transcript). Contains ts transcript) none at in
    let within = nowhere.1 in
    absurd (omega (arith, within))

module _ (tells : Bool) (source sink : Seen (Option Bytes)) (disk : Seen Past) (events : List Event)
    (book : RunBook) where
  cause_of_run : (status : Status) → HasRun tells source sink disk status events book → HasFault book
      → (status ≡ DiskFault) × HasFailed disk
  cause_of_run Done has told = absurd (none_of_running (record { opened = has.opened; events = events }) book has.ended.0 has.ended.1 told)
  cause_of_run WriteFault has told = absurd (none_of_running (record { opened = has.opened; events = events }) book has.ended.0 has.ended.1 told)
  cause_of_run DiskFault has told = (refl, has.kept.cause has.ended.1)
  cause_of_run NoMemory has told = absurd (no_transcript book has.ended.0 told)
  cause_of_run Usage has told = absurd has.ended
  cause_of_run (Script line rule) has told = absurd has.ended
  cause_of_run (NotStore flaw) has told = absurd has.ended
  cause_of_run (SerialsUsed base sessions) has told = absurd has.ended
  cause_of_run (NotEmpty extent log) has told = absurd has.ended
  cause_of_run ReadFault has told = absurd has.ended

-- where the sessions didn't run the book has no transcript, whatever it tells of the store
blank_by : (tells : Bool) (source : Seen (Option Bytes)) (disk : Seen Past) (status : Status)
    (why : IsWhyNot tells source disk status) (events : List Event) (book : RunBook)
    → IsBlankBy tells source disk status why events book → book.transcripts ≡ []
blank_by tells source disk (Script line rule) why events book blank = blank.no_transcripts
blank_by tells source disk ReadFault why events book blank = blank.no_transcripts
blank_by tells source disk NoMemory why events book blank = blank.no_transcripts
blank_by tells source disk (NotStore flaw) why events book blank = blank.no_transcripts
blank_by tells source disk (SerialsUsed base sessions) why events book blank = blank.no_transcripts
blank_by tells source disk DiskFault why events book blank = blank.no_transcripts
blank_by tells source disk Done why events book blank = absurd why
blank_by tells source disk Usage why events book blank = absurd why
blank_by tells source disk (NotEmpty extent log) why events book blank = absurd why
blank_by tells source disk WriteFault why events book blank = absurd why

pub faults_have_cause : FaultsHaveCause
faults_have_cause tells source sink disk status events book serves told = elim serves.course [
  | inl none ↦ absurd (no_transcript book (blank_by tells source disk status none.why events book none.blank) told)
  | inr has ↦ cause_of_run tells source sink disk events book status has told
]

pub faults_are_told : FaultsAreTold
faults_are_told tells source sink disk events book has =
    some_of_halted (record { opened = has.opened; events = events }) book has.ended.0 has.ended.1

ran_or_not : (status : Status) → RanAlone status ⊎ (RanAlone status → ⊥)
ran_or_not Done = inl tt
ran_or_not WriteFault = inl tt
ran_or_not _ = inr (λ ran. ran)

pub no_fault_alone : NoFaultAlone
no_fault_alone source sink status events book serves told = elim (ran_or_not status) [
  | inl ran ↦
      let run = (serves.legal_run ran).run in
      none_of_running (told_from_kernel run.script events) book run.run.legal run.run.running told
  | inr not_run ↦ no_transcript book (serves.blank not_run).no_transcripts told
]
