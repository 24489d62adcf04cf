-- Which words of a command line are read, and as what.
use Rattle.std.specs.Prelude.{◌≡◌, ℕ, Bool, true, false, not, ◌==◌, ◌⊎◌, codes, List, [], ◌∷◌, Option, Some, None, Result, Ok, Err, MatchOption}
use Rattle.texts.specs.Bytes.{Bytes}
use Rattle.program_words.specs.declared.words.TheConstants.{DEFAULT_ROUNDS}
use Rattle.program_words.specs.declared.words.Words.{Words}
use Rattle.program_words.specs.declared.words.Usage.{Usage}
use Rattle.program_words.specs.declared.demo.Choice.{Choice}
use Rattle.program_words.specs.declared.demo.Setting.TheVariants.{Seed, Sessions, Rounds}
use Rattle.program_words.specs.Asked.{Files, Asked, serve_alone, serve_store, init_store, check_store, serve_load, asked_of}
use Rattle.program_words.specs.Settings.{AreChoices, numbers_of}

-- whether a word may name a file: it isn't empty and doesn't begin with `-`
abbrev pub is_file_word : Bytes → Bool
is_file_word [] = false
is_file_word (first ∷ rest) = not (first == 45)

-- The words name these two files.
pub record AreFiles (words : List Bytes) (files : Files) : Type 0 where
  pub both : words ≡ files.extent ∷ files.log ∷ []
  pub extent : is_file_word files.extent ≡ true
  pub log : is_file_word files.log ≡ true

-- The words are the options of a demo: the seed and the number of sessions once each, and the
-- number of rounds, which is 4 where they don't say it, at most once.
pub record IsDemo (words : List Bytes) (seed sessions rounds : ℕ) : Type 0 where
  pub choices : List Choice
  pub all : AreChoices words choices
  pub seed_given : numbers_of Seed choices ≡ seed ∷ []
  pub sessions_given : numbers_of Sessions choices ≡ sessions ∷ []
  pub rounds_given : (numbers_of Rounds choices ≡ rounds ∷ [])
      ⊎ ((numbers_of Rounds choices ≡ []) × (rounds ≡ DEFAULT_ROUNDS))

-- the first word
abbrev pub command_of : Asked → Bytes
command_of serve_alone = codes "serve"
command_of (serve_store files) = codes "serve"
command_of (init_store files) = codes "init"
command_of (check_store files) = codes "check"
command_of (serve_load seed sessions rounds) = codes "demo"

-- what follows the first word
abbrev pub Follows : List Bytes → Asked → Type 0
Follows words serve_alone = words ≡ []
Follows words (serve_store files) = AreFiles words files
Follows words (init_store files) = AreFiles words files
Follows words (check_store files) = AreFiles words files
Follows words (serve_load seed sessions rounds) = IsDemo words seed sessions rounds

-- the words of a command line ask for this
abbrev pub ReadsWords : List Bytes → Asked → Type 0
ReadsWords [] asked = ⊥
ReadsWords (command ∷ words) asked = (command ≡ command_of asked) × Follows words asked

-- the words ask for nothing
abbrev pub AsksNothing : List Bytes → Type 0
AsksNothing words = (asked : Asked) → ReadsWords words asked → ⊥

-- what a reader found of the words
abbrev pub IsReading : List Bytes → Option Words → Type 0
IsReading words found =
    MatchOption found (AsksNothing words) (λ read. ReadsWords words (asked_of read))

-- a result says that the words ask for this
abbrev pub Says : Result Words Usage → Asked → Type 0
Says (Ok read) asked = asked_of read ≡ asked
Says (Err usage) asked = ⊥

abbrev pub number_or_default : Option ℕ → ℕ
number_or_default None = DEFAULT_ROUNDS
number_or_default (Some number) = number
