-- The options of `demo`, and how words give them numbers.
use Rattle.std.specs.Prelude.{◌≡◌, ℕ, ◌≤◌, Bool, true, false, ◌==◌, if◌then◌else◌, codes, List, [], ◌∷◌, ◌++◌, length}
use Rattle.std.specs.List.{flat_map}
use Rattle.std.specs.Str.Parse.{IsNumeral, digits_value}
use Rattle.texts.specs.Bytes.{Bytes}
use Rattle.load_maker.specs.Numbers.{IsSeed, IsSessionCount, IsRoundCount}
use Rattle.program_words.specs.declared.number.TheConstants.{MOST_DIGITS}
use Rattle.program_words.specs.declared.demo.Choice.{Choice}
use Rattle.program_words.specs.declared.demo.Setting.{Setting}
use Rattle.program_words.specs.declared.demo.Setting.TheVariants.{Seed, Sessions, Rounds}

-- how the option is written
abbrev pub setting_name : Setting → Bytes
setting_name Seed = codes "--seed"
setting_name Sessions = codes "--sessions"
setting_name Rounds = codes "--rounds"

-- the option may be this number
abbrev pub Takes : Setting → ℕ → Type 0
Takes Seed number = IsSeed number
Takes Sessions number = IsSessionCount number
Takes Rounds number = IsRoundCount number

-- the word is this number, in one to ten decimal digits
pub record IsNumber (word : Bytes) (number : ℕ) : Type 0 where
  pub digits : IsNumeral 10 word
  pub few : length word ≤ MOST_DIGITS
  pub value : digits_value 10 word ≡ number

-- whether a word begins with `+`
abbrev pub begins_with_plus : Bytes → Bool
begins_with_plus [] = false
begins_with_plus (first ∷ rest) = first == 43

-- The name is the option's, and the value a number that it may be.
pub record IsSet (name value : Bytes) (choice : Choice) : Type 0 where
  pub named : name ≡ setting_name choice.setting
  pub is : IsNumber value choice.number
  pub taken : Takes choice.setting choice.number

-- The first of these words are a name and a value, as two words or as one with `=` between them,
-- and the rest follow.
pub data Spells (words : List Bytes) (name value : Bytes) (rest : List Bytes) : Type 0 where
  two_words : words ≡ name ∷ value ∷ rest → Spells words name value rest
  one_word : words ≡ (name ++ codes "=" ++ value) ∷ rest → Spells words name value rest

-- The first of these words give an option a number, and the rest follow.
pub record Gives (words : List Bytes) (choice : Choice) (rest : List Bytes) : Type 0 where
  pub name : Bytes
  pub value : Bytes
  pub spelled : Spells words name value rest
  pub set : IsSet name value choice

-- the words give these options their numbers, in this order
abbrev pub AreChoices : List Bytes → List Choice → Type 0
AreChoices words [] = words ≡ []
AreChoices words (choice ∷ choices) =
    (rest : List Bytes) × (Gives words choice rest × AreChoices rest choices)

abbrev pub is_setting : Setting → Setting → Bool
is_setting Seed Seed = true
is_setting Sessions Sessions = true
is_setting Rounds Rounds = true
is_setting setting other = false

abbrev pub number_for : Setting → Choice → List ℕ
number_for setting choice =
    if is_setting setting choice.setting then choice.number ∷ [] else []

-- the numbers that the option is given, in order
abbrev pub numbers_of : Setting → List Choice → List ℕ
numbers_of setting choices = flat_map (number_for setting) choices
