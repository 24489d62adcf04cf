-- What becomes of a script that is to be served over a store.
use Rattle.std.proofs.Common.{◌≡◌, ◌≢◌, ◌⊎◌, ℕ, ◌<◌, ◌≤◌, Bool, true, IsTrue, List, [], Option, Some, None, Result, Ok, Err, IfOk, OnErr, is_some, refl, sym, ap, subst, ◌∙◌, inl, inr, arith}
use Rattle.std.specs.Option.{option_to_list}
use Rattle.gem_io.specs.Faults.{HasRisen}
use Rattle.gem_object.specs.texts.Bytes.{Bytes}
use Rattle.gem_disk.specs.Disk.{Files, Past, as_read, moment}
use Rattle.gem_disk.proofs.Moments.{now_counts}
use Rattle.shell_words.specs.Script.{SessionCommands}
use Rattle.gem_keeper.specs.Found.{Found, StandsFor}
use Rattle.gem_replies.specs.Report.{report_of}
use Rattle.gem_replies.specs.declared.reply.RunBook.{RunBook}
use Rattle.gem_replies.specs.declared.reply.Transcript.{Transcript}
use Rattle.stone_store.specs.declared.parts.Parts.{Parts}
use Rattle.stone_store.specs.Store.{store_of, found_by, found_of}
use Rattle.stone_store.specs.Left.{FilesStandFor, StandsInAll}
use Rattle.stone_store.specs.Opening.{IsFound}
use Rattle.stone_store.specs.Resting.{stored_by, IsStoredIn}
use Rattle.stone_store.specs.Whole.{StoreOf, StoresBy, store_moment, store_stands, store_left}
use Rattle.stone_store.proofs.Opens.{same_store}
use Rattle.gem_meaning.specs.Opened.{Opened, base_serial}
use Rattle.gem_meaning.specs.Events.{Event, Told, entries_of, halts_in, IsRunning, after_events}
use Rattle.gem_meaning.specs.Legal.{IsLegal, AreTranscripts}
use Rattle.gem_meaning.specs.Serial.{IsConsistent}
use Rattle.stone_store.specs.declared.parts.FoundImage.{FoundImage}
use Rattle.stone_core.specs.Kept.{IsKept}
use Rattle.stone_core.specs.Crashes.{MayHaveBeenLeft}
use Rattle.script_run.specs.declared.run.Start.{Start}
use Rattle.script_run.specs.declared.run.Ran.{Ran}
use Rattle.script_run.specs.Run.{opened_by, told_by, HasRunOver}
use Rattle.gem_server.specs.declared.status.Status.{Status}
use Rattle.gem_server.specs.declared.status.Status.TheVariants.{Done, Usage, Script, NotStore, SerialsUsed, NotEmpty, ReadFault, DiskFault, WriteFault, NoMemory}
use Rattle.gem_server.specs.declared.status.Ended.{Ended}
use Rattle.gem_server.specs.declared.opening.Refused.{Refused}
use Rattle.gem_server.specs.Devices.{Seen, seen, HasFailed, IsUnused, IsWritten, IsPartWritten}
use Rattle.gem_server.specs.Writing.{HasWritten}
use Rattle.gem_server.specs.Server.{IsRead, IsBlank, IsBlankOver, GivesScript, GivesNone, TellsOfSource}
use Rattle.gem_server.specs.Course.{IsHonest, Stays, IsKeptOn}
use Rattle.gem_server.specs.Serving.{IsWhyNot, IsBlankBy, HasEnded, ServesStore}
use Rattle.gem_server.specs.Starting.{IsFull, IsStarted, IsRefused, IsWhyRefused, kept_in, is_open}
use Rattle.gem_server.specs.Finishing.{TellsRun, IsFinished}
use Rattle.gem_server.proofs.ScriptRules.{IsSilent, script_read}
use Rattle.gem_server.proofs.Starting.{stays_unused}

-- ---- It doesn't run.

-- Why it doesn't, by the status, and that the events and the book are blank.
record NotRun (tells : Bool) (source : Seen (Option Bytes)) (disk : Seen Past) (status : Status) (events : List Event) (book : RunBook) : Type 0 where
  why : IsWhyNot tells source disk status
  blank : IsBlankBy tells source disk status why events book

not_run : (tells : Bool) (source sink : Seen (Option Bytes)) (disk : Seen Past) (status : Status) (events : List Event) (book : RunBook)
    → IsRead source status → NotRun tells source disk status events book → IsUnused sink → Stays tells disk
    → ServesStore tells source sink disk status events book
not_run tells source sink disk status events book read none unused stays = record {
  read = read;
  course = inl (record { why = none.why; blank = none.blank; unwritten = unused; stays = stays });
  sink_fault_told = λ lt. let quiet = unused.quiet in absurd (omega (arith, lt, quiet));
  later = let quiet = unused.quiet in omega (arith, quiet);
}

not_read : (tells : Bool) (source : Seen (Option Bytes)) (disk : Seen Past) (status : Status) (events : List Event) (book : RunBook)
    → TellsOfSource status → IsBlank events book → NotRun tells source disk status events book
not_read tells source disk (Script line rule) events book of blank = record { why = tt; blank = blank }
not_read tells source disk ReadFault events book of blank = record { why = tt; blank = blank }
not_read tells source disk NoMemory events book of blank = record { why = tt; blank = blank }
not_read tells source disk Done events book of blank = absurd of
not_read tells source disk Usage events book of blank = absurd of
not_read tells source disk WriteFault events book of blank = absurd of
not_read tells source disk (NotStore flaw) events book of blank = absurd of
not_read tells source disk (SerialsUsed base sessions) events book of blank = absurd of
not_read tells source disk (NotEmpty extent log) events book of blank = absurd of
not_read tells source disk DiskFault events book of blank = absurd of

-- the source gave no script
pub store_unread : (tells : Bool) (source sink : Seen (Option Bytes)) (disk : Seen Past) (given status : Status) (events : List Event) (book : RunBook)
    → GivesNone source given → status ≡ given → IsBlank events book → IsUnused sink → disk.after ≡ disk.before
    → ServesStore tells source sink disk status events book
store_unread tells source sink disk given status events book none is blank unused same =
    subst (λ (s : Status). ServesStore tells source sink disk s events book) (sym is)
    (not_run tells source sink disk given events book none.read (not_read tells source disk given events book none.of_source blank) unused (stays_unused tells disk same))

-- the same events and book, with numbers that are the same
blank_so : {number serial first base : ℕ} (events : List Event) (book : RunBook) → IsBlankOver first base events book
    → first ≡ number → base ≡ serial → IsBlankOver number serial events book
blank_so events book blank first_is base_is = record {
  no_events = blank.no_events;
  first = blank.first ∙ first_is;
  base = blank.base ∙ base_is;
  no_transcripts = blank.no_transcripts;
  no_history = blank.no_history;
}

module _ {D : Type 0} (tells : Bool) (past : D → Past) (faults : D → ℕ) (disk : D) (script : List SessionCommands)
    (source sink : Seen (Option Bytes)) where
  full_is : {disk' : D} (base sessions : ℕ) (found : FoundImage) (events : List Event) (book : RunBook) → GivesScript source script
      → IsFull found script base sessions → (IsTrue tells → IsFound (store_of (as_read (past disk))) found)
      → IsBlankOver found.number base events book
      → NotRun tells source (seen past faults disk disk') (SerialsUsed base sessions) events book
  full_is base sessions found events book gives full held blank = record {
    why = record {
      text = gives.text;
      given = gives.gave;
      at_end = gives.at_end;
      script = script;
      reads = gives.reads;
      sessions_are = full.sessions_are;
      opened = found;
      found = held;
      base_is = full.base_is;
      why = full.why;
    };
    blank = blank;
  }

  why_not : (status : Status) (first base : ℕ) (disk' : D) (events : List Event) (book : RunBook) → GivesScript source script
      → IsWhyRefused tells past faults disk script status first base disk' → IsBlankOver first base events book
      → NotRun tells source (seen past faults disk disk') status events book × IsSilent status
  why_not (NotStore flaw) first base disk' events book gives ((first_is, base_is), why) blank =
      (record { why = why; blank = blank_so events book blank first_is base_is }, tt)
  why_not (SerialsUsed from sessions) first base disk' events book gives (found, full, first_is, base_is, held) blank =
      (full_is from sessions found events book gives full held (blank_so events book blank first_is base_is), tt)
  why_not DiskFault first base disk' events book gives ((first_is, base_is), why) blank =
      (record { why = why; blank = blank_so events book blank first_is base_is }, tt)
  why_not NoMemory first base disk' events book gives (first_is, base_is) blank =
      (record { why = tt; blank = blank_so events book blank first_is base_is }, tt)
  why_not Done first base disk' events book gives why blank = absurd why
  why_not Usage first base disk' events book gives why blank = absurd why
  why_not (Script line rule) first base disk' events book gives why blank = absurd why
  why_not (NotEmpty extent log) first base disk' events book gives why blank = absurd why
  why_not ReadFault first base disk' events book gives why blank = absurd why
  why_not WriteFault first base disk' events book gives why blank = absurd why

  -- the store can't be opened for it
  pub store_refused : (refused : Refused D) (ended : Ended D) → GivesScript source script
      → IsRefused tells past faults disk script refused → ended.status ≡ refused.status → ended.disk ≡ refused.disk
      → IsBlankOver refused.first refused.base ended.events ended.book → IsUnused sink
      → ServesStore tells source sink (seen past faults disk ended.disk) ended.status ended.events ended.book
  store_refused refused ended gives is status_is disk_is blank unused =
      let why = why_not refused.status refused.first refused.base refused.disk ended.events ended.book gives is.why blank in
      subst (λ (s : Status). ServesStore tells source sink (seen past faults disk ended.disk) s ended.events ended.book) (sym status_is)
      (subst (λ d. ServesStore tells source sink (seen past faults disk d) refused.status ended.events ended.book) (sym disk_is)
      (not_run tells source sink (seen past faults disk refused.disk) refused.status ended.events ended.book
      (script_read source script refused.status gives why.1) why.0 unused is.stays))

-- ---- It runs.

nothing_stood : (o : Opened) (events : List Event) (left : Option Found) → StandsFor o.image o.number left → MayHaveBeenLeft o events left
unfolding after_events
nothing_stood o events left stands = inl (record { before = []; more = events; split = refl; stands = stands })

module _ {D : Type 0} (tells : Bool) (past : D → Past) (faults : D → ℕ) (disk : D) (script : List SessionCommands) where
  stands_at_first : (start : Start (StoreOf D)) → IsStarted tells past faults disk script start → IsTrue tells
      → FilesStandFor start.image start.number (as_read (past disk))
  stands_at_first start is told =
      subst (StandsFor start.image start.number) (ap found_by (same_store (past disk) (past start.keeper.disk) (is.stays.same told)))
      (is.can_run.stands_for told).reads

  in_all : (start : Start (StoreOf D)) → IsStarted tells past faults disk script start → IsTrue tells → IsHonest (past disk)
      → StandsInAll (past disk) start.image start.number
  in_all start is told honest =
      record { honest = honest.honest; each = honest.each start.image start.number (stands_at_first start is told) }

  kept_on : (start : Start (StoreOf D)) (t : Told) (keeper : StoreOf D) → IsStarted tells past faults disk script start
      → t.opened ≡ opened_by true kept_in start script
      → IsKept kept_in is_open (λ store. faults store.disk) tells (store_moment past) (store_stands past) (store_left past) t start.keeper keeper
      → (IsTrue tells → StoresBy (as_read (past keeper.disk)) keeper.parts)
      → IsKeptOn tells (seen past faults disk keeper.disk) t
  kept_on start t keeper is opened kept stored = record {
    cause = λ halted. subst (λ (n : ℕ). HasRisen n (faults keeper.disk)) is.quiet (kept.cause halted);
    reads = λ told running. (kept.now told running).reads;
    stored = λ told running. subst (IsStoredIn (as_read (past keeper.disk))) (kept.has running)
        (stored_in_files (as_read (past keeper.disk)) keeper.parts (kept.is_ready running) (stored told));
    crash = λ told files left. kept.crash told (found_of files)
        (files, now_counts (moment (past keeper.disk)) (past keeper.disk) files left, refl);
    crash_since = λ told honest files left.
        let run = is.stays.crash_since start.image start.number told (in_all start is told honest) in
        elim ((kept.since told).before (moment (past disk)) (found_of files) run.later (files, left, refl)) [
          | inl earlier ↦ nothing_stood t.opened t.events (found_of files)
              (subst (λ (o : Opened). StandsFor o.image o.number (found_of files)) (sym opened)
              (subst (StandsFor start.image start.number) (sym earlier.2) (run.each earlier.0 earlier.1)))
          | inr fits ↦ fits
        ];
  } where
    stored_in_files : (files : Files) (parts : Option Parts) → is_some parts ≡ true → StoresBy files parts → IsStoredIn files (stored_by parts)
    stored_in_files files None open_so has = absurd cc
    stored_in_files files (Some parts) open_so has = has

-- ---- It is told.

some_halt : (halted : Option ℕ) (events : List Event) → option_to_list halted ≡ halts_in events → halted ≢ None → IsRunning events → ⊥
some_halt None events is some running = some refl
some_halt (Some number) events is some running = let e = is ∙ running in absurd cc

no_halt : (halted : Option ℕ) (events : List Event) → option_to_list halted ≡ halts_in events → halted ≡ None → IsRunning events
no_halt halted events is none = sym is ∙ ap option_to_list none

-- how writing ended, where the disk had failed
cut_or_whole : (sink : Seen (Option Bytes)) (report : Bytes) (wrote : Status) → HasWritten sink report wrote
    → IsWritten sink report ⊎ (HasFailed sink × IsPartWritten sink report)
cut_or_whole sink report Done has = inl has.0
cut_or_whole sink report WriteFault has = inr (has.0, has.1)
cut_or_whole sink report Usage has = absurd has
cut_or_whole sink report (Script line rule) has = absurd has
cut_or_whole sink report (NotStore flaw) has = absurd has
cut_or_whole sink report (SerialsUsed base sessions) has = absurd has
cut_or_whole sink report (NotEmpty extent log) has = absurd has
cut_or_whole sink report ReadFault has = absurd has
cut_or_whole sink report DiskFault has = absurd has
cut_or_whole sink report NoMemory has = absurd has

wrote_later : (sink : Seen (Option Bytes)) (report : Bytes) (wrote : Status) → HasWritten sink report wrote → sink.faults ≤ sink.faults_after
wrote_later sink report Done has = let quiet = has.1 in omega (arith, quiet)
wrote_later sink report WriteFault has = has.2
wrote_later sink report Usage has = absurd has
wrote_later sink report (Script line rule) has = absurd has
wrote_later sink report (NotStore flaw) has = absurd has
wrote_later sink report (SerialsUsed base sessions) has = absurd has
wrote_later sink report (NotEmpty extent log) has = absurd has
wrote_later sink report ReadFault has = absurd has
wrote_later sink report DiskFault has = absurd has
wrote_later sink report NoMemory has = absurd has

-- what the telling of a run gives
pub record IsToldSo (sink : Seen (Option Bytes)) (t : Told) (book : RunBook) (status : Status) (told : RunBook) : Type 0 where
  pub first : told.first ≡ book.first
  pub base : told.base ≡ book.base
  pub history : told.history ≡ book.history
  pub ended : HasEnded sink t told status
  pub silent : IsSilent status
  pub sink_told : sink.faults < sink.faults_after → (status ≡ WriteFault) ⊎ (status ≡ DiskFault)
  pub later : sink.faults ≤ sink.faults_after

module _ (sink : Seen (Option Bytes)) (t : Told) (book : RunBook) (transcripts : List Transcript) (halted : Option ℕ)
    (none : book.transcripts ≡ []) (halts : option_to_list halted ≡ halts_in t.events)
    (legal : IsLegal t (record book { transcripts = transcripts })) where
  told_so : (status : Status) (told : RunBook) → TellsRun book transcripts halted sink status told → IsToldSo sink t book status told
  told_so NoMemory told (same, unused) = record {
    first = ap (λ (b : RunBook). b.first) same;
    base = ap (λ (b : RunBook). b.base) same;
    history = ap (λ (b : RunBook). b.history) same;
    ended = (ap (λ (b : RunBook). b.transcripts) same ∙ none, unused);
    silent = tt;
    sink_told = λ lt. let quiet = unused.quiet in absurd (omega (arith, lt, quiet));
    later = let quiet = unused.quiet in omega (arith, quiet);
  }
  told_so Done told (same, (none_halted, has)) = record {
    first = ap (λ (b : RunBook). b.first) same;
    base = ap (λ (b : RunBook). b.base) same;
    history = ap (λ (b : RunBook). b.history) same;
    ended = (subst (IsLegal t) (sym same) legal, no_halt halted t.events halts none_halted, has.0);
    silent = tt;
    sink_told = λ lt. let quiet = has.1 in absurd (omega (arith, lt, quiet));
    later = let quiet = has.1 in omega (arith, quiet);
  }
  told_so WriteFault told (same, (none_halted, has)) = record {
    first = ap (λ (b : RunBook). b.first) same;
    base = ap (λ (b : RunBook). b.base) same;
    history = ap (λ (b : RunBook). b.history) same;
    ended = (subst (IsLegal t) (sym same) legal, no_halt halted t.events halts none_halted, has.0, has.1);
    silent = tt;
    sink_told = λ lt. inl refl;
    later = has.2;
  }
  told_so DiskFault told (same, (some, (wrote, has))) = record {
    first = ap (λ (b : RunBook). b.first) same;
    base = ap (λ (b : RunBook). b.base) same;
    history = ap (λ (b : RunBook). b.history) same;
    ended = (subst (IsLegal t) (sym same) legal, some_halt halted t.events halts some, cut_or_whole sink (report_of told) wrote has);
    silent = tt;
    sink_told = λ lt. inr refl;
    later = wrote_later sink (report_of told) wrote has;
  }
  told_so Usage told (same, has) = absurd has
  told_so (Script line rule) told (same, has) = absurd has
  told_so (NotStore flaw) told (same, has) = absurd has
  told_so (SerialsUsed base sessions) told (same, has) = absurd has
  told_so (NotEmpty extent log) told (same, has) = absurd has
  told_so ReadFault told (same, has) = absurd has

starved_so : (sink : Seen (Option Bytes)) (t : Told) (book : RunBook) (status : Status) (told : RunBook) → status ≡ NoMemory
    → TellsRun book [] None sink NoMemory told → book.transcripts ≡ [] → IsToldSo sink t book status told
starved_so sink t book status told is (same, unused) none = subst (λ (s : Status). IsToldSo sink t book s told) (sym is) (record {
  first = ap (λ (b : RunBook). b.first) same;
  base = ap (λ (b : RunBook). b.base) same;
  history = ap (λ (b : RunBook). b.history) same;
  ended = (ap (λ (b : RunBook). b.transcripts) same ∙ none, unused);
  silent = tt;
  sink_told = λ lt. let quiet = unused.quiet in absurd (omega (arith, lt, quiet));
  later = let quiet = unused.quiet in omega (arith, quiet);
})

pub told_of : {X E : Type 0} (items : X → List Transcript) (sink : Seen (Option Bytes)) (t : Told) (book : RunBook) (halted : Option ℕ)
    (status : Status) (told : RunBook) (x : Result X E)
    → IfOk x (λ ts. AreTranscripts t 1 t.opened.script (items ts))
    → IfOk x (λ ts. TellsRun book (items ts) halted sink status told)
    → OnErr x (TellsRun book [] None sink NoMemory told × (status ≡ NoMemory))
    → book.first ≡ t.opened.number → book.base ≡ base_serial t.opened → book.history ≡ entries_of t.events → book.transcripts ≡ []
    → option_to_list halted ≡ halts_in t.events → IsConsistent t → IsToldSo sink t book status told
told_of items sink t book halted status told (Ok x) transcripts tells starved first base history none halts consistent =
    told_so sink t book (items x) halted none halts
    (record { first = first; base = base; history = history; transcripts = transcripts; consistent = consistent })
    status told tells
told_of items sink t book halted status told (Err e) transcripts tells starved first base history none halts consistent =
    starved_so sink t book status told starved.1 starved.0 none

module _ {D : Type 0} (tells : Bool) (past : D → Past) (faults : D → ℕ) (disk : D) (script : List SessionCommands)
    (source sink : Seen (Option Bytes)) (start : Start (StoreOf D)) (ran : Ran (StoreOf D)) (ended : Ended D)
    (gives : GivesScript source script) (is : IsStarted tells past faults disk script start)
    (run : HasRunOver kept_in is_open (λ store. faults store.disk) tells (store_moment past) (store_stands past) (store_left past)
    (opened_by true kept_in start script) start.keeper ran)
    (done : IsFinished start.number start.base ran sink ended)
    (stored : IsTrue tells → StoresBy (as_read (past ran.closed.keeper.disk)) ran.closed.keeper.parts) where
  abbrev o : Opened
  o = opened_by true kept_in start script

  abbrev t : Told
  t = told_by o ran

  -- the sessions ran, and that was told
  pub store_ran : IsToldSo sink t done.book ended.status ended.book
      → ServesStore tells source sink (seen past faults disk ended.disk) ended.status ended.events ended.book
  store_ran told = record {
    read = script_read source script ended.status gives told.silent;
    course = inr (record {
      opened = o;
      text = gives.text;
      given = gives.gave;
      at_end = gives.at_end;
      reads = gives.reads;
      opened_on = is.opened_on;
      consistent = subst (λ (es : List Event). IsConsistent (record { opened = o; events = es })) (sym done.events_are) run.consistent;
      first = told.first ∙ ap (λ (b : RunBook). b.first) done.book_is;
      base = told.base ∙ ap (λ (b : RunBook). b.base) done.book_is ∙ is.can_run.base_is;
      history = told.history ∙ ap (λ (b : RunBook). b.history) done.book_is ∙ run.history ∙ ap entries_of (sym done.events_are);
      kept = subst (λ d. IsKeptOn tells (seen past faults disk d) (record { opened = o; events = ended.events })) (sym done.disk_is)
          (subst (λ (es : List Event). IsKeptOn tells (seen past faults disk ran.closed.keeper.disk) (record { opened = o; events = es })) (sym done.events_are)
          (kept_on tells past faults disk script start t ran.closed.keeper is refl run.kept stored));
      ended = subst (λ (es : List Event). HasEnded sink (record { opened = o; events = es }) ended.book ended.status) (sym done.events_are) told.ended;
    });
    sink_fault_told = told.sink_told;
    later = told.later;
  }

  pub store_served : ServesStore tells source sink (seen past faults disk ended.disk) ended.status ended.events ended.book
  store_served = store_ran (told_of (λ transcripts. transcripts.items) sink t done.book ran.closed.halted ended.status ended.book ran.transcripts
      run.transcripts done.told done.starved
      (ap (λ (b : RunBook). b.first) done.book_is) (ap (λ (b : RunBook). b.base) done.book_is ∙ is.can_run.base_is)
      (ap (λ (b : RunBook). b.history) done.book_is ∙ run.history) (ap (λ (b : RunBook). b.transcripts) done.book_is)
      run.halted run.consistent)
