-- From the options of `demo` to its numbers.
use Rattle.std.proofs.Common.{◌≡◌, ℕ, ◌≤◌, ◌⊎◌, inl, inr, List, [], ◌∷◌, length, Option, Some, None, refl, sym, ap, subst, ◌∙◌, codes, arith}
use Rattle.texts.specs.Bytes.{Bytes}
use Rattle.program_words.specs.declared.words.TheConstants.{DEFAULT_ROUNDS}
use Rattle.program_words.specs.declared.demo.Choice.{Choice}
use Rattle.program_words.specs.declared.demo.Setting.TheVariants.{Seed, Sessions, Rounds}
use Rattle.program_words.specs.declared.demo.Settings.{Settings}
use Rattle.program_words.specs.Settings.{AreChoices, numbers_of}
use Rattle.program_words.specs.Chosen.{listed, IsOnce, IsChosen}
use Rattle.program_words.specs.WordsGrammar.{IsDemo, ReadsWords, number_or_default}
use Rattle.program_words.specs.Asked.{serve_load}
use Rattle.program_words.proofs.Empty.{nothing_is_filled}

rounds_by : (numbers : List ℕ) (rounds : Option ℕ) → numbers ≡ listed rounds → (numbers ≡ number_or_default rounds ∷ [])
    ⊎ ((numbers ≡ []) × (number_or_default rounds ≡ DEFAULT_ROUNDS))
rounds_by numbers None is = inr (is, refl)
rounds_by numbers (Some rounds) is = inl is

pub is_demo : (words : List Bytes) (settings : Settings) (seed sessions : ℕ) → IsChosen words settings
    → settings.seed ≡ Some seed → settings.sessions ≡ Some sessions → IsDemo words seed sessions (number_or_default settings.rounds)
is_demo words settings seed sessions chosen one two = record {
  choices = chosen.choices;
  all = chosen.all;
  seed_given = chosen.held Seed ∙ ap listed one;
  sessions_given = chosen.held Sessions ∙ ap listed two;
  rounds_given = rounds_by (numbers_of Rounds chosen.choices) settings.rounds (chosen.held Rounds);
}

-- without a seed, and without a number of sessions
pub no_seed : (words : List Bytes) (settings : Settings) → IsChosen words settings → settings.seed ≡ None
    → (seed sessions rounds : ℕ) → IsDemo words seed sessions rounds → ⊥
no_seed words settings chosen none seed sessions rounds demo =
    nothing_is_filled (ap listed (sym none) ∙ sym (chosen.held Seed)
    ∙ ap (numbers_of Seed) (sym (chosen.only demo.choices demo.all)) ∙ demo.seed_given)

pub no_sessions : (words : List Bytes) (settings : Settings) → IsChosen words settings → settings.sessions ≡ None
    → (seed sessions rounds : ℕ) → IsDemo words seed sessions rounds → ⊥
no_sessions words settings chosen none seed sessions rounds demo =
    nothing_is_filled (ap listed (sym none) ∙ sym (chosen.held Sessions)
    ∙ ap (numbers_of Sessions) (sym (chosen.only demo.choices demo.all)) ∙ demo.sessions_given)

-- each option of a demo is given at most once
one_at_most : (numbers : List ℕ) (n : ℕ) → numbers ≡ n ∷ [] → length numbers ≤ 1
one_at_most numbers n is = let h : length numbers ≡ 1 = ap length is in omega (arith, h)

none_at_most : (numbers : List ℕ) → numbers ≡ [] → length numbers ≤ 1
none_at_most numbers is = let h : length numbers ≡ 0 = ap length is in omega (arith, h)

rounds_once : (numbers : List ℕ) (rounds : ℕ) → (numbers ≡ rounds ∷ []) ⊎ ((numbers ≡ []) × (rounds ≡ DEFAULT_ROUNDS))
    → length numbers ≤ 1
rounds_once numbers rounds (inl is) = one_at_most numbers rounds is
rounds_once numbers rounds (inr is) = none_at_most numbers is.0

once : (words : List Bytes) (seed sessions rounds : ℕ) (demo : IsDemo words seed sessions rounds) → IsOnce demo.choices
once words seed sessions rounds demo Seed = one_at_most (numbers_of Seed demo.choices) seed demo.seed_given
once words seed sessions rounds demo Sessions = one_at_most (numbers_of Sessions demo.choices) sessions demo.sessions_given
once words seed sessions rounds demo Rounds = rounds_once (numbers_of Rounds demo.choices) rounds demo.rounds_given

pub no_settings : (words : List Bytes) → ((choices : List Choice) → AreChoices words choices → IsOnce choices → ⊥)
    → (seed sessions rounds : ℕ) → IsDemo words seed sessions rounds → ⊥
no_settings words nothing seed sessions rounds demo =
    nothing demo.choices demo.all (once words seed sessions rounds demo)

-- the numbers of a demo, as words
pub demo_read : (words : List Bytes) (settings : Settings) (seed sessions rounds : ℕ) → IsChosen words settings
    → settings.seed ≡ Some seed → settings.sessions ≡ Some sessions → rounds ≡ number_or_default settings.rounds
    → ReadsWords (codes "demo" ∷ words) (serve_load seed sessions rounds)
demo_read words settings seed sessions rounds chosen one two is =
    let P : ℕ → Type 0 = λ n. IsDemo words seed sessions n in
    (refl, subst P (sym is) (is_demo words settings seed sessions chosen one two))
