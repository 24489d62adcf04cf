-- What keeps a script from its report where there is no store.
use Rattle.std.proofs.Common.{◌≡◌, ◌⊎◌, ℕ, Option, Some, None, List, ◌++◌, length, refl, ap, sym, subst, ◌∙◌, inl, inr, arith, append-nil, length-append, IfSome}
use Rattle.std.specs.Io.KnownBytes.{Consumes}
use Rattle.gem_object.specs.texts.Bytes.{Bytes}
use Rattle.shell_words.specs.Script.{SessionCommands}
use Rattle.shell_words.specs.ScriptGrammar.{ReadsScript, BreaksRule}
use Rattle.shell_words.proofs.OneAnswer.{never_both}
use Rattle.gem_meaning.specs.Events.{Event}
use Rattle.gem_replies.specs.declared.reply.RunBook.{RunBook}
use Rattle.gem_replies.specs.Report.{report_of}
use Rattle.gem_server.specs.declared.status.Status.{Status}
use Rattle.gem_server.specs.declared.status.Status.TheVariants.{Done, Usage, Script, NotStore, SerialsUsed, NotEmpty, ReadFault, DiskFault, WriteFault, NoMemory}
use Rattle.gem_server.specs.Devices.{Seen, HasFailed, IsUnused}
use Rattle.gem_server.specs.Writing.{HasWritten}
use Rattle.gem_server.specs.Server.{IsWhole, IsRead, IsBlank, GivesScript, GivesNone, TellsOfSource}
use Rattle.gem_server.specs.Alone.{RanAlone, IsOfAlone, IsRun, IsRunOfScript, ServesAlone}
use Rattle.gem_server.proofs.ScriptRules.{script_read}

-- a text that is a script isn't one that was given and breaks a rule
pub no_rule : (text given : Bytes) (left : Option Bytes) (script : List SessionCommands) (line rule : ℕ) → Consumes (Some text) left given → IsWhole left given
    → ReadsScript text script → BreaksRule given line rule → ⊥
no_rule text given None script line rule gave whole reads breaks = absurd gave
no_rule text given (Some rest) script line rule gave (inl end) reads breaks =
    let same : text ≡ given = gave ∙ ap (λ r. given ++ r) end ∙ append-nil given in
    never_both given script line rule (subst (λ (t : Bytes). ReadsScript t script) same reads) breaks
no_rule text given (Some rest) script line rule gave (inr long) reads breaks =
    let short = reads.short in
    omega (arith, long, short, ap length gave, length-append given rest)

completes : (source : Seen (Option Bytes)) (text : Bytes) (script : List SessionCommands) (status : Status) (write : Type 0)
    → source.before ≡ Some text → IsOfAlone status → IsRead source status → (status ≡ WriteFault → write) → ReadsScript text script
    → (HasFailed source → ⊥) → (write → ⊥) → (status ≡ Done) ⊎ (status ≡ NoMemory)
completes source text script Done write tells of read cut reads no_read no_write = inl refl
completes source text script NoMemory write tells of read cut reads no_read no_write = inr refl
completes source text script (Script line rule) write tells of read cut reads no_read no_write =
    absurd (no_rule text read.given source.after script line rule (subst (λ (b : Option Bytes). Consumes b source.after read.given) tells read.gave) (read.whole tt) reads ((read.tells line rule).0 refl).1)
completes source text script ReadFault write tells of read cut reads no_read no_write = absurd (no_read (read.fault refl))
completes source text script WriteFault write tells of read cut reads no_read no_write = absurd (no_write (cut refl))
completes source text script Usage write tells of read cut reads no_read no_write = absurd of
completes source text script (NotStore flaw) write tells of read cut reads no_read no_write = absurd of
completes source text script (SerialsUsed base sessions) write tells of read cut reads no_read no_write = absurd of
completes source text script (NotEmpty extent log) write tells of read cut reads no_read no_write = absurd of
completes source text script DiskFault write tells of read cut reads no_read no_write = absurd of

-- the same where the source may not tell its bytes
completes_told : (source : Seen (Option Bytes)) (left : Option Bytes) (status : Status) (write : Type 0) → source.before ≡ left
    → IsOfAlone status → IsRead source status → (status ≡ WriteFault → write)
    → IfSome left (λ text. (script : List SessionCommands) → ReadsScript text script → (HasFailed source → ⊥) → (write → ⊥) → (status ≡ Done) ⊎ (status ≡ NoMemory))
completes_told source None status write tells of read cut = tt
completes_told source (Some text) status write tells of read cut =
    λ script reads no_read no_write. completes source text script status write tells of read cut reads no_read no_write

-- ---- the three ends

-- a status that tells of the source
abbrev IsUnrun : Status → Type 0
IsUnrun status = (RanAlone status → ⊥) × IsOfAlone status × (status ≡ Done → ⊥) × (status ≡ WriteFault → ⊥)

of_source_unrun : (status : Status) → TellsOfSource status → IsUnrun status
of_source_unrun (Script line rule) of = (λ ran. absurd ran, tt, λ same. absurd cc, λ same. absurd cc)
of_source_unrun ReadFault of = (λ ran. absurd ran, tt, λ same. absurd cc, λ same. absurd cc)
of_source_unrun NoMemory of = (λ ran. absurd ran, tt, λ same. absurd cc, λ same. absurd cc)
of_source_unrun Done of = absurd of
of_source_unrun Usage of = absurd of
of_source_unrun WriteFault of = absurd of
of_source_unrun (NotStore flaw) of = absurd of
of_source_unrun (SerialsUsed base sessions) of = absurd of
of_source_unrun (NotEmpty extent log) of = absurd of
of_source_unrun DiskFault of = absurd of

unrun : (source sink : Seen (Option Bytes)) (status : Status) (events : List Event) (book : RunBook) → IsRead source status
    → IsUnrun status → IsBlank events book → IsUnused sink → ServesAlone source sink status events book
unrun source sink status events book read un blank unused = record {
  of_alone = un.1;
  read = read;
  legal_run = λ ran. absurd (un.0 ran);
  blank = λ none. blank;
  report_written = λ same. absurd (un.2 same);
  part_written = λ same. absurd (un.3 same);
  nothing_written = λ none. unused;
  write_fault = λ same. absurd (un.3 same);
  write_fault_told = λ lt. let quiet = unused.quiet in absurd (omega (arith, lt, quiet));
  later = let quiet = unused.quiet in omega (arith, quiet);
  completes = completes_told source source.before status (HasFailed sink) refl un.1 read (λ same. absurd (un.3 same));
}

-- the source gave no script
pub alone_unread : (source sink : Seen (Option Bytes)) (status status' : Status) (events : List Event) (book : RunBook)
    → GivesNone source status → status' ≡ status → IsBlank events book → IsUnused sink → ServesAlone source sink status' events book
alone_unread source sink status status' events book none is blank unused =
    subst (λ (s : Status). ServesAlone source sink s events book) (sym is)
    (unrun source sink status events book none.read (of_source_unrun status none.of_source) blank unused)

-- there was no memory for its run
pub alone_starved : (source sink : Seen (Option Bytes)) (script : List SessionCommands) (status : Status) (events : List Event) (book : RunBook)
    → GivesScript source script → status ≡ NoMemory → IsBlank events book → IsUnused sink → ServesAlone source sink status events book
alone_starved source sink script status events book gives is blank unused =
    subst (λ (s : Status). ServesAlone source sink s events book) (sym is)
    (unrun source sink NoMemory events book (script_read source script NoMemory gives tt)
    (of_source_unrun NoMemory tt) blank unused)

run_of : (source : Seen (Option Bytes)) (script : List SessionCommands) (events : List Event) (book : RunBook) → GivesScript source script
    → IsRunOfScript script events book → IsRun source.before source.after events book
run_of source script events book gives run = record {
  text = gives.text;
  given = gives.gave;
  ended = gives.at_end;
  run = record { script = script; reads = gives.reads; run = run };
}

-- it ran, and was told
pub alone_told : (source sink : Seen (Option Bytes)) (script : List SessionCommands) (status : Status) (events : List Event) (book : RunBook)
    → GivesScript source script → IsRunOfScript script events book → HasWritten sink (report_of book) status
    → ServesAlone source sink status events book
alone_told source sink script Done events book gives run wrote = record {
  of_alone = tt;
  read = script_read source script Done gives tt;
  legal_run = λ ran. run_of source script events book gives run;
  blank = λ none. absurd (none tt);
  report_written = λ same. wrote.0;
  part_written = λ same. absurd cc;
  nothing_written = λ none. absurd (none tt);
  write_fault = λ same. absurd cc;
  write_fault_told = λ lt. let quiet = wrote.1 in absurd (omega (arith, lt, quiet));
  later = let quiet = wrote.1 in omega (arith, quiet);
  completes = completes_told source source.before Done (HasFailed sink) refl tt (script_read source script Done gives tt) (λ same. absurd cc);
}
alone_told source sink script WriteFault events book gives run wrote = record {
  of_alone = tt;
  read = script_read source script WriteFault gives tt;
  legal_run = λ ran. run_of source script events book gives run;
  blank = λ none. absurd (none tt);
  report_written = λ same. absurd cc;
  part_written = λ same. wrote.1;
  nothing_written = λ none. absurd (none tt);
  write_fault = λ same. wrote.0;
  write_fault_told = λ lt. refl;
  later = wrote.2;
  completes = completes_told source source.before WriteFault (HasFailed sink) refl tt (script_read source script WriteFault gives tt) (λ same. wrote.0);
}
alone_told source sink script Usage events book gives run wrote = absurd wrote
alone_told source sink script (Script line rule) events book gives run wrote = absurd wrote
alone_told source sink script (NotStore flaw) events book gives run wrote = absurd wrote
alone_told source sink script (SerialsUsed base sessions) events book gives run wrote = absurd wrote
alone_told source sink script (NotEmpty extent log) events book gives run wrote = absurd wrote
alone_told source sink script ReadFault events book gives run wrote = absurd wrote
alone_told source sink script DiskFault events book gives run wrote = absurd wrote
alone_told source sink script NoMemory events book gives run wrote = absurd wrote
