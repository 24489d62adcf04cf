-- The numbers of a demo are in their ranges.
use Rattle.std.proofs.Common.{◌≡◌, ℕ, ◌≤◌, ◌⊎◌, inl, inr, List, [], ◌∷◌, ◌++◌, if◌then◌else◌, subst, codes, arith}
use Rattle.std.specs.List.{AllByRecursion}
use Rattle.texts.specs.Bytes.{Bytes}
use Rattle.load_maker.specs.Numbers.{IsSeed, IsSessionCount, IsRoundCount}
use Rattle.program_words.specs.declared.words.TheConstants.{DEFAULT_ROUNDS}
use Rattle.program_words.specs.declared.demo.Choice.{Choice}
use Rattle.program_words.specs.declared.demo.Setting.{Setting}
use Rattle.program_words.specs.declared.demo.Setting.TheVariants.{Seed, Sessions, Rounds}
use Rattle.program_words.specs.Settings.{Takes, AreChoices, is_setting, numbers_of}
use Rattle.program_words.specs.WordsGrammar.{IsDemo, ReadsWords}
use Rattle.program_words.specs.Asked.{serve_load}

one_more : (setting other : Setting) (number : ℕ) (numbers : List ℕ) → Takes other number → AllByRecursion (Takes setting) numbers
    → AllByRecursion (Takes setting) ((if is_setting setting other then number ∷ [] else []) ++ numbers)
one_more Seed Seed number numbers takes all = (takes, all)
one_more Seed Sessions number numbers takes all = all
one_more Seed Rounds number numbers takes all = all
one_more Sessions Seed number numbers takes all = all
one_more Sessions Sessions number numbers takes all = (takes, all)
one_more Sessions Rounds number numbers takes all = all
one_more Rounds Seed number numbers takes all = all
one_more Rounds Sessions number numbers takes all = all
one_more Rounds Rounds number numbers takes all = (takes, all)

-- each number that an option is given is one that it may be
all_taken : (setting : Setting) (words : List Bytes) (choices : List Choice) → AreChoices words choices
    → AllByRecursion (Takes setting) (numbers_of setting choices)
all_taken setting words [] is = tt
all_taken setting words (choice ∷ choices) (rest, (gives, more)) =
    one_more setting choice.setting choice.number (numbers_of setting choices) gives.set.taken (all_taken setting rest choices more)

first_taken : (setting : Setting) (numbers : List ℕ) (number : ℕ) → AllByRecursion (Takes setting) numbers → numbers ≡ number ∷ []
    → Takes setting number
first_taken setting numbers number all is = (subst (AllByRecursion (Takes setting)) is all).0

rounds_taken : (numbers : List ℕ) (rounds : ℕ) → AllByRecursion (Takes Rounds) numbers
    → (numbers ≡ rounds ∷ []) ⊎ ((numbers ≡ []) × (rounds ≡ DEFAULT_ROUNDS)) → IsRoundCount rounds
rounds_taken numbers rounds all (inl given) = first_taken Rounds numbers rounds all given
rounds_taken numbers rounds all (inr none) = let is = none.1 in (omega (arith, is), omega (arith, is))

pub record AreInRange (seed sessions rounds : ℕ) : Type 0 where
  pub seed_is : IsSeed seed
  pub sessions_are : IsSessionCount sessions
  pub rounds_are : IsRoundCount rounds

pub demo_in_range : (words : List Bytes) (seed sessions rounds : ℕ) → ReadsWords words (serve_load seed sessions rounds)
    → AreInRange seed sessions rounds
demo_in_range [] seed sessions rounds reads = absurd reads
demo_in_range (command ∷ words) seed sessions rounds (named, demo) = record {
  seed_is = first_taken Seed _ seed (all_taken Seed words demo.choices demo.all) demo.seed_given;
  sessions_are = first_taken Sessions _ sessions (all_taken Sessions words demo.choices demo.all) demo.sessions_given;
  rounds_are = rounds_taken _ rounds (all_taken Rounds words demo.choices demo.all) demo.rounds_given;
}
