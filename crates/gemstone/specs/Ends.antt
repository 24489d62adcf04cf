-- How the program ends, by the words of its command line.
use Rattle.std.specs.Prelude.{◌≡◌, ◌↔◌, ◌⊎◌, ℕ, Bool, List, Option, Some, None, Result, MatchResult}
use Rattle.gem_disk.specs.Disk.{Past}
use Rattle.program_words.specs.Asked.{Files, serve_store, init_store, check_store}
use Rattle.program_words.specs.WordsGrammar.{ReadsWords}
use Rattle.gem_server.specs.declared.status.Status.{Status}
use Rattle.gem_server.specs.declared.status.Status.TheVariants.{Usage}
use Rattle.gem_server.specs.Devices.{Seen, IsUnused}
use Rattle.gem_server.specs.Server.{AsksAlone, AsksStore, AsksInit, AsksCheck, AsksDemo, AsksSome}
use Rattle.gem_server.specs.Alone.{ServesAlone}
use Rattle.gem_server.specs.Serving.{ServesStore}
use Rattle.gem_server.specs.Looking.{Checks, Inits}
use Rattle.gem_server.specs.Demo.{Demos}
use Rattle.gemstone.specs.declared.failure.Failure.{Failure}
use Rattle.gemstone.specs.Failure.{failure_of}

-- the words name these files of a store
abbrev pub NamesFiles : List (List ℕ) → Files → Type 0
NamesFiles words files = ReadsWords words (serve_store files) ⊎ ReadsWords words (init_store files)
    ⊎ ReadsWords words (check_store files)

-- they name none
abbrev pub NamesNone : List (List ℕ) → Type 0
NamesNone words = (files : Files) → NamesFiles words files → ⊥

-- What was asked for ended with this status, over a disk that tells its contents or doesn't. Only to
-- serve a script is the source used.
pub record HasEnded (tells : Bool) (words : List (List ℕ)) (source sink : Seen (Option (List ℕ)))
    (status : Status) : Type 0 where
  pub usage : (status ≡ Usage) ↔ (AsksSome words → ⊥)
  pub unused : (AsksSome words → ⊥) → IsUnused source × IsUnused sink
  pub alone : AsksAlone words → (events : _) × ((book : _)
      × ServesAlone source sink status events book)
  pub store : AsksStore words → (disk : Seen Past) × ((events : _) × ((book : _)
      × ServesStore tells source sink disk status events book))
  pub init : AsksInit words → IsUnused source × ((disk : Seen Past) × Inits tells sink disk status)
  pub check : AsksCheck words → IsUnused source × ((disk : Seen Past) × Checks tells sink disk status)
  pub demo : (seed sessions rounds : ℕ) → AsksDemo words seed sessions rounds → IsUnused source
      × ((events : _) × ((book : _) × Demos seed sessions rounds sink status events book))

-- The program fails as the status of what was asked for says.
abbrev pub Ends : {T : Type 0} → Bool → List (List ℕ) → (source sink : Seen (Option (List ℕ)))
    → Result T Failure → Type 0
Ends tells words source sink result = (status : Status)
    × HasEnded tells words source sink status
    × MatchResult result (λ _. failure_of status ≡ None) (λ failure. failure_of status ≡ Some failure)
