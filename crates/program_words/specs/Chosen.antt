-- The options that were given so far.
use Rattle.std.specs.Prelude.{◌≡◌, ℕ, ◌≤◌, List, [], ◌∷◌, length, Option, Some, None}
use Rattle.texts.specs.Bytes.{Bytes}
use Rattle.program_words.specs.declared.demo.Choice.{Choice}
use Rattle.program_words.specs.declared.demo.Setting.{Setting}
use Rattle.program_words.specs.declared.demo.Setting.TheVariants.{Seed, Sessions, Rounds}
use Rattle.program_words.specs.declared.demo.Settings.{Settings}
use Rattle.program_words.specs.Settings.{AreChoices, numbers_of}

-- the number of the option, where it was given
abbrev pub number_at : Settings → Setting → Option ℕ
number_at settings Seed = settings.seed
number_at settings Sessions = settings.sessions
number_at settings Rounds = settings.rounds

abbrev pub set_at : Settings → Setting → ℕ → Settings
set_at settings Seed number = record settings { seed = Some number }
set_at settings Sessions number = record settings { sessions = Some number }
set_at settings Rounds number = record settings { rounds = Some number }

abbrev pub with_number : Settings → Choice → Settings
with_number settings choice = set_at settings choice.setting choice.number

abbrev pub listed : Option ℕ → List ℕ
listed None = []
listed (Some number) = number ∷ []

-- these are the numbers that the options were given
abbrev pub Holds : Settings → List Choice → Type 0
Holds settings choices =
    (setting : Setting) → numbers_of setting choices ≡ listed (number_at settings setting)

-- no option is given more than once
abbrev pub IsOnce : List Choice → Type 0
IsOnce choices = (setting : Setting) → length (numbers_of setting choices) ≤ 1

-- The words give these options, each at most once, and can be read in no other way.
pub record IsChosen (words : List Bytes) (settings : Settings) : Type 0 where
  pub choices : List Choice
  pub all : AreChoices words choices
  pub only : (other : List Choice) → AreChoices words other → other ≡ choices
  pub held : Holds settings choices
