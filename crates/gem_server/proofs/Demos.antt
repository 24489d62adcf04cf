-- A generated load, from what each of its scripts leaves to how the call ends.
use Rattle.std.proofs.Common.{◌≡◌, ◌≢◌, ◌⊎◌, ℕ, pos, length, ◌+◌, Bool, true, false, ◌&&◌, List, [], ◌∷◌, Option, Some, None, Result, Ok, Err, IfOk, refl, sym, ap, subst, ◌∙◌, inl, inr, arith}
use Rattle.std.specs.List.{AllByRecursion, list_all}
use Rattle.std.specs.Io.KnownBytes.{Consumes}
use Rattle.gem_object.specs.texts.Bytes.{Bytes}
use Rattle.gem_disk.specs.Disk.{Files, Past, as_read}
use Rattle.gem_image.specs.Image.{Image}
use Rattle.gem_record.specs.Stored.{Stored}
use Rattle.gem_record.specs.declared.record.Entry.{Entry}
use Rattle.kernel_image.specs.Objects.{kernel_image}
use Rattle.shell_words.specs.ScriptGrammar.{ReadsScript}
use Rattle.stone_store.specs.Store.{image_of, number_of}
use Rattle.stone_store.specs.Resting.{IsStoredIn}
use Rattle.stone_store.proofs.Opens.{no_record}
use Rattle.program_words.specs.Asked.{Asked, serve_load}
use Rattle.program_words.specs.WordsGrammar.{ReadsWords}
use Rattle.program_words.proofs.Ranges.{demo_in_range}
use Rattle.load_maker.specs.Scripts.{setup_text, load_text, tally_text}
use Rattle.gem_replies.specs.declared.reply.RunBook.{RunBook}
use Rattle.gem_replies.specs.declared.reply.Line.{Line}
use Rattle.gem_replies.specs.declared.reply.Line.TheVariants.{NoMemory as NoMemoryLine, DiskFault as DiskFaultLine}
use Rattle.gem_replies.specs.declared.reply.Reply.{Reply}
use Rattle.gem_replies.specs.declared.reply.Transcript.{Transcript}
use Rattle.gem_meaning.specs.Legal.{WasServed, AlwaysServed}
use Rattle.gem_server.proofs.SetupOnce.{setup_once}
use Rattle.gem_server.proofs.SetupLeaves.{setup_leaves}
use Rattle.gem_server.proofs.LoadCommits.{load_commits, entries_of_all}
use Rattle.gem_server.proofs.StoreBehind.{IsOver, opened_over}
use Rattle.gem_server.proofs.TallyBehind.{printed_behind}
use Rattle.gem_server.proofs.LogLengths.{log_lengths}
use Rattle.gem_server.specs.Rounds.{IsLoaded, IsSetUp}
use Rattle.gem_meaning.specs.declared.event.What.TheVariants.{Placed}
use Rattle.gem_meaning.specs.Opened.{Opened}
use Rattle.gem_meaning.specs.Events.{Event, Told, after_events}
use Rattle.gem_meaning.specs.After.{stored_after}
use Rattle.gem_server.specs.declared.demo.Part.{Part}
use Rattle.gem_server.specs.declared.status.Status.{Status}
use Rattle.gem_server.specs.declared.status.Status.TheVariants.{Done, Usage, Script, NotStore, SerialsUsed, NotEmpty, ReadFault, DiskFault, WriteFault, NoMemory}
use Rattle.gem_server.specs.Devices.{Seen, IsUnused}
use Rattle.gem_server.specs.Writing.{HasWritten}
use Rattle.gem_server.specs.Server.{IsBlank}
use Rattle.gem_server.specs.Course.{IsOpenedOn}
use Rattle.gem_server.specs.Serving.{HasRun, ServesStore}
use Rattle.gem_server.specs.Demo.{IsLoad, demo_lines, IsServedOver, new_opening, IsServedSetup, IsLoadOver, IsServedLoad, DemosSo, Demos}
use Rattle.gem_server.specs.Completeness.{DemoCompletes}
use Rattle.gem_server.specs.DemoParts.{IsPart, is_served_line, are_served}
use Rattle.gem_server.proofs.StoreCompletes.{ok_is, whole_text}
use Rattle.gem_server.proofs.Making.{nothing_held, empty_store}

-- ---- One script.

module _ (text : Bytes) (source sink : Seen (Option Bytes)) (disk : Seen Past) (events : List Event) (book : RunBook)
    (given : source.before ≡ Some text) where
  -- what a script leaves that was served with `Done`
  pub record IsDone : Type 0 where
    pub opened : Opened
    pub served : IsServedOver text (as_read disk.before) (as_read disk.after) (record { opened = opened; events = events }) book

  has_run : AlwaysServed book → HasRun true source sink disk Done events book → IsDone
  has_run always has =
      let same : text ≡ has.text =
      whole_text text has.text source.after (subst (λ (b : Option Bytes). Consumes b source.after has.text) given has.given) has.at_end in
      record {
        opened = has.opened;
        served = record {
          reads = subst (λ (t : Bytes). ReadsScript t has.opened.script) (sym same) has.reads;
          opened_on = has.opened_on;
          legal = has.ended.0;
          running = has.ended.1;
          always = always;
          stands = has.kept.reads refl has.ended.1;
          stored = has.kept.stored refl has.ended.1;
        };
      }

  pub is_done : ServesStore true source sink disk Done events book → AlwaysServed book → IsDone
  is_done serves always = elim serves.course [
    | inl none ↦ absurd none.why
    | inr has ↦ has_run always has
  ]

both_true : (first second : Bool) → (first && second) ≡ true → (first ≡ true) × (second ≡ true)
both_true true second both = (refl, both)
both_true false second both = absurd cc

-- what was tested of the replies
served_line : (line : Line) → is_served_line line ≡ true → (line ≢ NoMemoryLine) × (line ≢ DiskFaultLine)
served_line line served = (
  λ same. let never : true ≡ false = sym served ∙ ap is_served_line same in absurd cc,
  λ same. let never : true ≡ false = sym served ∙ ap is_served_line same in absurd cc,
)

served_replies : (replies : List Reply) → list_all (λ (reply : Reply). is_served_line reply.line) replies ≡ true
    → AllByRecursion WasServed replies
served_replies [] served = tt
served_replies (reply ∷ replies) served =
    let each = both_true (is_served_line reply.line) (list_all (λ (reply : Reply). is_served_line reply.line) replies) served in
    (served_line reply.line each.0, served_replies replies each.1)

served_transcripts : (transcripts : List Transcript) → are_served transcripts ≡ true
    → AllByRecursion (λ transcript. AllByRecursion WasServed transcript.replies) transcripts
served_transcripts [] served = tt
served_transcripts (transcript ∷ transcripts) served =
    let each = both_true (list_all (λ (reply : Reply). is_served_line reply.line) transcript.replies) (are_served transcripts) served in
    (served_replies transcript.replies each.0, served_transcripts transcripts each.1)

pub always_served : (test : Bool) (book : RunBook) → test ≡ are_served book.transcripts → test ≡ true → AlwaysServed book
always_served test book tells passed = served_transcripts book.transcripts (sym tells ∙ passed)

-- a part that was served whole
pub part_served : {E : Type 0} (result : Result Part E) (text : Bytes) (before : Files) (part : Part)
    → (AlwaysServed part.book → IsPart text before part) → IfOk result (λ it. it ≡ part)
    → IfOk result (λ it. AlwaysServed it.book) → IfOk result (IsPart text before)
part_served (Ok it) text before part is same always =
    subst (IsPart text before) (sym same) (is (subst (λ (p : Part). AlwaysServed p.book) same always))
part_served (Err e) text before part is same always = tt

-- the part that was looked at is the one that was served
pub same_part : {E : Type 0} (result : Result Part E) (text : Bytes) (before : Files) (part : Part) → IsPart text before part
    → IfOk result (λ it. it ≡ part) → IfOk result (IsPart text before)
same_part (Ok it) text before part is same = subst (IsPart text before) (sym same) is
same_part (Err e) text before part is same = tt

-- ---- The set-up.

abbrev no_files : Files
no_files = record { extent = []; log = [] }

new_stored : (stored : Stored) → IsStoredIn no_files stored → stored ≡ record { log_length = 1; root = None }
new_stored stored is =
    let root : is.root ≡ None = ok_is is.root None (sym is.extent) in
    let log_length : stored.log_length ≡ 1 = no_record [] stored.log_length (omega arith) is.log_length in
    let no_root : stored.root ≡ None = rw root at is.root_is in
    λ i. record { log_length = log_length i; root = no_root i }

opened_new : (o : Opened) → IsOpenedOn true no_files o → o ≡ new_opening o.script
opened_new o on =
    let found = on.found refl in
    let held : nothing_held ≡ found.held = ok_is nothing_held found.held (sym (empty_store no_files (refl, refl)) ∙ found.store_is) in
    let image : o.image ≡ kernel_image = found.image_is ∙ ap image_of (sym held) in
    let number : o.number ≡ 0 = found.number_is ∙ ap number_of (sym held) in
    let stored = new_stored o.stored (on.stored refl) in
    let counts = on.counts in
    λ i. record { image = image i; number = number i; script = o.script; stored = stored i; counts_pages = counts i }

setup_served : (part : Part) → IsPart setup_text no_files part
    → (opened : Opened) × IsServedSetup (as_read part.disk.past) (record { opened = opened; events = part.events })
setup_served part is =
    let opened = opened_new is.opened is.served.opened_on in
    let commit = setup_once (record { opened = is.opened; events = part.events }) part.book is.served.legal is.served.always
    is.served.reads (ap (λ (o : Opened). o.image) opened) (ap (λ (o : Opened). o.number) opened)
    (ap (λ (o : Opened). o.stored.log_length) opened) in (
      is.opened,
      record {
        book = part.book;
        served = is.served;
        opened_is = opened;
        session = 1;
        entry = commit.0;
        events_are = commit.1;
      },
    )

-- ---- The load, and the tally.

-- what one commit over a new store leaves
one_stored : (o : Opened) (session : ℕ) (e : Entry) → (stored_after o ((session, Placed e) ∷ [])).root ≡ o.stored.root
unfolding stored_after
one_stored o session e = refl

one_numbered : (o : Opened) (session : ℕ) (e : Entry) → (after_events o ((session, Placed e) ∷ [])).number ≡ o.number + 1
unfolding after_events
one_numbered o session e = refl

module _ (files : Files) (t : Told) (setup : IsServedSetup files t) where
  no_root_stored : (stored_after t.opened t.events).root ≡ None
  no_root_stored = ap (λ (es : List Event). (stored_after t.opened es).root) setup.events_are
      ∙ one_stored t.opened setup.session setup.entry ∙ ap (λ (o : Opened). o.stored.root) setup.opened_is

  first_number : (after_events t.opened t.events).number ≡ 1
  first_number = ap (λ (es : List Event). (after_events t.opened es).number) setup.events_are
      ∙ one_numbered t.opened setup.session setup.entry ∙ ap (λ (o : Opened). o.number + 1) setup.opened_is

  opened_behind : (o : Opened) → IsOpenedOn true files o → IsOver (after_events t.opened t.events).image 1 o
  opened_behind o on = subst (λ (n : ℕ). IsOver (after_events t.opened t.events).image n o) first_number
      (opened_over files (stored_after t.opened t.events) _ _ o setup.served.stored no_root_stored setup.served.stands on)

  -- what a Stone is opened with behind the set-up
  opened_set_up : (o : Opened) → IsOpenedOn true files o → IsSetUp o
  opened_set_up o on =
      let left = setup_leaves t setup.book setup.served.legal setup.served.always setup.served.reads
      (ap (λ (o : Opened). o.image) setup.opened_is) (ap (λ (o : Opened). o.number) setup.opened_is)
      (ap (λ (o : Opened). o.stored.log_length) setup.opened_is) in
      let most = log_lengths files.log (stored_after t.opened t.events).log_length o.stored.log_length setup.served.stored.log_length
      (on.stored refl).log_length in
      let size = left.log in
      record {
        loaded = subst (λ (i : Image). IsLoaded i (pos 0) []) (sym (opened_behind o on).image_is) left.loaded;
        unchanged = on.can_serve.changed;
        short = omega (arith, most, size);
      }

  load_served : (seed sessions rounds : ℕ) (part : Part) (is : IsPart (load_text seed sessions rounds) files part)
      → IsLoad seed sessions rounds
      → IsLoadOver seed sessions rounds t files (as_read part.disk.past) (record { opened = is.opened; events = part.events }) part.book
  load_served seed sessions rounds part is load =
      let over = opened_behind is.opened is.served.opened_on in
      let told : Told = record { opened = is.opened; events = part.events } in
      let commits = load_commits told part.book seed sessions rounds load is.served.legal is.served.always is.served.reads
      (opened_set_up is.opened is.served.opened_on) in
      record {
        served = is.served;
        image_is = over.image_is;
        number_is = over.number_is;
        no_root = over.no_root;
        commits = commits;
        commits_are = ap length is.served.legal.history ∙ entries_of_all part.events commits.only ∙ commits.count;
      }

-- the three of them
pub all_served : (seed sessions rounds : ℕ) (setup loaded tally : Part) → IsPart setup_text no_files setup
    → IsPart (load_text seed sessions rounds) (as_read setup.disk.past) loaded → IsLoad seed sessions rounds
    → IsPart tally_text (as_read loaded.disk.past) tally → IsServedLoad seed sessions rounds loaded.events loaded.book
all_served seed sessions rounds setup loaded tally first load all last =
    let begun = setup_served setup first in
    let told : Told = record { opened = begun.0; events = setup.events } in
    let over = load_served (as_read setup.disk.past) told begun.1 seed sessions rounds loaded load all in
    let behind : Told = record { opened = last.opened; events = tally.events } in
    record {
      after_setup = as_read setup.disk.past;
      setup = told;
      setup_served = begun.1;
      after_load = as_read loaded.disk.past;
      opened = load.opened;
      load_served = over;
      tally_served = record {
        after = as_read tally.disk.past;
        told = behind;
        book = tally.book;
        served = last.served;
        printed = printed_behind seed sessions rounds told (as_read setup.disk.past) (as_read loaded.disk.past)
            (as_read tally.disk.past) (record { opened = load.opened; events = loaded.events }) behind loaded.book
            tally.book all over last.served;
      };
    }

-- ---- Which load was asked for.

abbrev seed_in : Asked → ℕ
seed_in (serve_load seed sessions rounds) = seed
seed_in _ = 0

abbrev sessions_in : Asked → ℕ
sessions_in (serve_load seed sessions rounds) = sessions
sessions_in _ = 0

abbrev rounds_in : Asked → ℕ
rounds_in (serve_load seed sessions rounds) = rounds
rounds_in _ = 0

-- what holds of a load holds of the one that was asked for
pub of_same_load : (P : (seed sessions rounds : ℕ) → Type 0) (seed sessions rounds a b c : ℕ) → serve_load seed sessions rounds ≡ serve_load a b c
    → P seed sessions rounds → P a b c
of_same_load P seed sessions rounds a b c same = subst (λ (asked : Asked). P (seed_in asked) (sessions_in asked) (rounds_in asked)) same

-- the numbers of the words are those of a load
pub load_in_words : (words : List Bytes) (seed sessions rounds : ℕ) → ReadsWords words (serve_load seed sessions rounds)
    → IsLoad seed sessions rounds
load_in_words words seed sessions rounds reads =
    let in_range = demo_in_range words seed sessions rounds reads in
    record { seed_is = in_range.seed_is; sessions_are = in_range.sessions_are; rounds_are = in_range.rounds_are }

-- ---- How it ends.

module _ (seed sessions rounds : ℕ) (sink : Seen (Option Bytes)) (events : List Event) (book : RunBook) where
  pub demo_told : (status : Status) → IsServedLoad seed sessions rounds events book
      → HasWritten sink (demo_lines seed sessions rounds) status → Demos seed sessions rounds sink status events book
  demo_told Done served has = record {
    so = (served, has.0);
    sink_fault_told = λ lt. let quiet = has.1 in absurd (omega (arith, lt, quiet));
    later = let quiet = has.1 in omega (arith, quiet);
  }
  demo_told WriteFault served has =
      record { so = (served, has.0, has.1); sink_fault_told = λ lt. refl; later = has.2 }
  demo_told Usage served has = absurd has
  demo_told (Script line rule) served has = absurd has
  demo_told (NotStore flaw) served has = absurd has
  demo_told (SerialsUsed base sessions) served has = absurd has
  demo_told (NotEmpty extent log) served has = absurd has
  demo_told ReadFault served has = absurd has
  demo_told DiskFault served has = absurd has
  demo_told NoMemory served has = absurd has

  -- it isn't a faulty command line
  pub never_usage : (status : Status) → Demos seed sessions rounds sink status events book → status ≡ Usage → ⊥
  never_usage status demos same = (subst (λ (s : Status). Demos seed sessions rounds sink s events book) same demos).so

  pub demo_starved : (status : Status) → status ≡ NoMemory → IsBlank events book → IsUnused sink
      → Demos seed sessions rounds sink status events book
  demo_starved status is blank unused = subst (λ (s : Status). Demos seed sessions rounds sink s events book) (sym is) (record {
    so = (blank, unused);
    sink_fault_told = λ lt. let quiet = unused.quiet in absurd (omega (arith, lt, quiet));
    later = let quiet = unused.quiet in omega (arith, quiet);
  })

pub demo_completes : DemoCompletes
demo_completes seed sessions rounds sink status events book demos no_write = so status demos.so
  where
    so : (status : Status) → DemosSo seed sessions rounds sink status events book → (status ≡ Done) ⊎ (status ≡ NoMemory)
    so Done has = inl refl
    so NoMemory has = inr refl
    so WriteFault has = absurd (no_write has.1)
    so Usage has = absurd has
    so (Script line rule) has = absurd has
    so (NotStore flaw) has = absurd has
    so (SerialsUsed base sessions) has = absurd has
    so (NotEmpty extent log) has = absurd has
    so ReadFault has = absurd has
    so DiskFault has = absurd has
