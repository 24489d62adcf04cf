-- What a run of a script's sessions starts with, and what it leaves.
use Rattle.std.specs.Prelude.{◌≡◌, ℕ, Bool, true, IsTrue, IfOk, List, Option}
use Rattle.std.specs.Option.{option_to_list}
use Rattle.shell_words.specs.Script.{SessionCommands}
use Rattle.gem_record.specs.Stored.{Stored}
use Rattle.gem_keeper.specs.Found.{Found, StandsFor}
use Rattle.gem_keeper.specs.Crashes.{FitsNow}
use Rattle.gem_meaning.specs.Opened.{Opened, base_serial}
use Rattle.gem_meaning.specs.Events.{Told, entries_of, halts_in}
use Rattle.gem_meaning.specs.Serial.{CanServe, IsConsistent}
use Rattle.gem_meaning.specs.Legal.{AreTranscripts}
use Rattle.stone_core.specs.Kept.{IsKept}
use Rattle.script_run.specs.declared.run.Start.{Start}
use Rattle.script_run.specs.declared.run.Ran.{Ran}

module _ {K : Type 0} (counts_pages : Bool) (stored : K → Stored) where
  -- what the Stone is opened with, where this script is to be run
  abbrev pub opened_by : Start K → List SessionCommands → Opened
  opened_by start script = record {
    image = start.image;
    number = start.number;
    script = script;
    stored = stored start.keeper;
    counts_pages = counts_pages;
  }

-- what the Stone was opened with, and the events that it left
abbrev pub told_by : {K : Type 0} → Opened → Ran K → Told
told_by opened ran = record { opened = opened; events = ran.closed.events.items }

module _ {K : Type 0} (counts_pages : Bool) (stored : K → Stored) (ready : K → Bool) (tells : Bool)
    (moment : K → ℕ) (stands : K → Option Found) (left_since : K → ℕ → Option Found → Type 0) where
  -- The script can be run: a Stone may be opened so, the base is the serial of the first session, and
  -- the keeper is ready. Where it tells what it stands for, that is the image, and so it is for what
  -- a crash leaves.
  pub record CanRun (start : Start K) (script : List SessionCommands) : Type 0 where
    pub serves : CanServe (opened_by counts_pages stored start script)
    pub base_is : start.base ≡ base_serial (opened_by counts_pages stored start script)
    pub is_ready : ready start.keeper ≡ true
    pub stands_for : IsTrue tells
        → FitsNow moment stands left_since start.keeper (StandsFor start.image start.number)

module _ {K : Type 0} (stored : K → Stored) (ready : K → Bool) (faults : K → ℕ) (tells : Bool)
    (moment : K → ℕ) (stands : K → Option Found) (left_since : K → ℕ → Option Found → Type 0) where
  -- The sessions ran over a Stone that was opened so, with this keeper: the transcripts, if memory
  -- sufficed for them, are what they said by its events; the history has the commits. The events are
  -- those of a Stone, and the keeper is what they leave of it: this holds also where memory ran out.
  pub record HasRunOver (opened : Opened) (started : K) (ran : Ran K) : Type 0 where
    pub transcripts : IfOk ran.transcripts (λ transcripts.
        AreTranscripts (told_by opened ran) 1 opened.script transcripts.items)
    pub history : ran.closed.history.items ≡ entries_of ran.closed.events.items
    pub halted : option_to_list ran.closed.halted ≡ halts_in ran.closed.events.items
    pub consistent : IsConsistent (told_by opened ran)
    pub kept : IsKept stored ready faults tells moment stands left_since (told_by opened ran)
        started ran.closed.keeper
