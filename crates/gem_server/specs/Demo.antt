-- A generated load that is served between its set-up and its tally, and what is told of it.
use Rattle.std.specs.Prelude.{◌≡◌, ◌++◌, ◌∷◌, [], ◌+◌, ◌*◌, ◌<◌, ◌≤◌, ℕ, true, codes, List, length, Option, None}
use Rattle.std.specs.Fmt.{decimal}
use Rattle.gem_object.specs.texts.Bytes.{Bytes}
use Rattle.gem_disk.specs.Disk.{Files}
use Rattle.gem_record.specs.declared.record.Entry.{Entry}
use Rattle.kernel_image.specs.Objects.{kernel_image}
use Rattle.stone_store.specs.Store.{found_of}
use Rattle.stone_store.specs.Resting.{IsStoredIn}
use Rattle.shell_words.specs.Script.{SessionCommands}
use Rattle.shell_words.specs.ScriptGrammar.{ReadsScript}
use Rattle.load_maker.specs.Numbers.{IsSeed, IsSessionCount, IsRoundCount, load_sum}
use Rattle.load_maker.specs.Scripts.{setup_text, load_text, tally_text}
use Rattle.gem_replies.specs.declared.reply.RunBook.{RunBook}
use Rattle.gem_meaning.specs.declared.event.What.TheVariants.{Placed}
use Rattle.gem_meaning.specs.Opened.{Opened}
use Rattle.gem_meaning.specs.Events.{Event, Told, standing, IsRunning}
use Rattle.gem_meaning.specs.After.{stored_after}
use Rattle.gem_meaning.specs.Legal.{IsLegal, AlwaysServed}
use Rattle.stone_core.specs.Crashes.{StandsAfter}
use Rattle.gem_server.specs.declared.status.Status.{Status}
use Rattle.gem_server.specs.declared.status.Status.TheVariants.{Done, WriteFault, NoMemory}
use Rattle.gem_server.specs.Devices.{Seen, HasFailed, IsUnused, IsWritten, IsPartWritten}
use Rattle.gem_server.specs.Server.{IsBlank}
use Rattle.gem_server.specs.Course.{IsOpenedOn}
use Rattle.gem_server.specs.AfterLoad.{CommitsEachRound}
use Rattle.gem_server.specs.Tally.{IsTallied}

-- the numbers of a load are in their ranges
pub record IsLoad (seed sessions rounds : ℕ) : Type 0 where
  pub seed_is : IsSeed seed
  pub sessions_are : IsSessionCount sessions
  pub rounds_are : IsRoundCount rounds

-- ---- What is written.

-- how often a load commits: once in each round of each session, which also adds a name to the bag
abbrev pub commits_of : (sessions rounds : ℕ) → ℕ
commits_of sessions rounds = sessions * rounds

-- Four lines: the load, how often it and its set-up committed, the counter, and the size of the bag.
abbrev pub demo_lines : (seed sessions rounds : ℕ) → Bytes
demo_lines seed sessions rounds =
    codes "demo seed " ++ (decimal seed ++ (codes " sessions " ++ (decimal sessions
    ++ (codes " rounds " ++ (decimal rounds
    ++ (codes "\ncommits " ++ (decimal (1 + commits_of sessions rounds)
    ++ (codes "\ncounter " ++ (decimal (load_sum seed sessions rounds)
    ++ (codes "\nbag " ++ (decimal (commits_of sessions rounds) ++ codes "\n")))))))))))

-- ---- What was served.

-- The script was served over files that held this before, and hold that after: a Stone was opened
-- with what they held, the book is that of a legal run, nothing failed, no session found too little
-- memory, and the files stand for what the run left, and have stored it.
pub record IsServedOver (text : Bytes) (before after : Files) (t : Told) (book : RunBook)
    : Type 0 where
  pub reads : ReadsScript text t.opened.script
  pub opened_on : IsOpenedOn true before t.opened
  pub legal : IsLegal t book
  pub running : IsRunning t.events
  pub always : AlwaysServed book
  pub stands : StandsAfter t.opened t.events (found_of after)
  pub stored : IsStoredIn after (stored_after t.opened t.events)

-- what a Stone is opened with over two empty files
abbrev pub new_opening : List SessionCommands → Opened
new_opening script = record {
  image = kernel_image;
  number = 0;
  script = script;
  stored = record { log_length = 1; root = None };
  counts_pages = true;
}

-- The set-up was served over two empty files, and nothing happened but its one commit.
pub record IsServedSetup (after : Files) (t : Told) : Type 0 where
  pub book : RunBook
  pub served : IsServedOver setup_text (record { extent = []; log = [] }) after t book
  pub opened_is : t.opened ≡ new_opening t.opened.script
  pub session : ℕ
  pub entry : Entry
  pub events_are : t.events ≡ (session, Placed entry) ∷ []

-- The load was served over what the set-up had left: over the image that its commit made of the
-- kernel's, which no checkpoint had stored. It committed once in each round, and nothing else
-- happened.
pub record IsLoadOver (seed sessions rounds : ℕ) (setup : Told) (before after : Files) (t : Told)
    (book : RunBook) : Type 0 where
  pub served : IsServedOver (load_text seed sessions rounds) before after t book
  pub image_is : t.opened.image ≡ (standing setup).image
  pub number_is : t.opened.number ≡ 1
  pub no_root : t.opened.stored.root ≡ None
  pub commits : CommitsEachRound seed sessions rounds t
  pub commits_are : length book.history ≡ commits_of sessions rounds

-- The tally was served over what the load had left, and printed the counter and the size of the bag, and
-- nothing happened.
pub record IsServedTally (seed sessions rounds : ℕ) (before : Files) : Type 0 where
  pub after : Files
  pub told : Told
  pub book : RunBook
  pub served : IsServedOver tally_text before after told book
  pub printed : IsTallied (load_sum seed sessions rounds) (commits_of sessions rounds) told book

-- The set-up, the load and the tally were served, one after another. The events and the book are those
-- of the load.
pub record IsServedLoad (seed sessions rounds : ℕ) (events : List Event) (book : RunBook) : Type 0 where
  pub after_setup : Files
  pub setup : Told
  pub setup_served : IsServedSetup after_setup setup
  pub after_load : Files
  pub opened : Opened
  pub load_served : IsLoadOver seed sessions rounds setup after_setup after_load
      (record { opened = opened; events = events }) book
  pub tally_served : IsServedTally seed sessions rounds after_load

-- ---- How it ended.

abbrev pub DemosSo : (seed sessions rounds : ℕ) → Seen (Option Bytes) → Status → List Event → RunBook
    → Type 0
DemosSo seed sessions rounds sink Done events book =
    IsServedLoad seed sessions rounds events book × IsWritten sink (demo_lines seed sessions rounds)
DemosSo seed sessions rounds sink WriteFault events book =
    IsServedLoad seed sessions rounds events book × HasFailed sink × IsPartWritten sink (demo_lines seed sessions rounds)
DemosSo seed sessions rounds sink NoMemory events book = IsBlank events book × IsUnused sink
DemosSo seed sessions rounds sink _ events book = ⊥

-- What the end says where a load was to be served.
pub record Demos (seed sessions rounds : ℕ) (sink : Seen (Option Bytes)) (status : Status)
    (events : List Event) (book : RunBook) : Type 0 where
  pub so : DemosSo seed sessions rounds sink status events book
  pub sink_fault_told : sink.faults < sink.faults_after → status ≡ WriteFault
  pub later : sink.faults ≤ sink.faults_after
