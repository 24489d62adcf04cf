-- The options of some words, one after the other.
use Rattle.std.proofs.Common.{◌≡◌, ℕ, suc, ◌≤◌, Bool, true, false, if◌then◌else◌, List, [], ◌∷◌, ◌++◌, length, Option, Some, None, is_some, true≢false, map, refl, sym, ap, ap₂, subst, ◌∙◌, append_assoc, append-nil, arith}
use Rattle.std.proofs.lemmas.Grind.{flat_map-append}
use Rattle.texts.specs.Bytes.{Bytes}
use Rattle.program_words.specs.declared.demo.Choice.{Choice}
use Rattle.program_words.specs.declared.demo.Setting.{Setting}
use Rattle.program_words.specs.declared.demo.Setting.TheVariants.{Seed, Sessions, Rounds}
use Rattle.program_words.specs.declared.demo.Settings.{Settings}
use Rattle.program_words.specs.Settings.{Gives, AreChoices, is_setting, number_for, numbers_of}
use Rattle.program_words.specs.Chosen.{number_at, set_at, with_number, listed, Holds, IsOnce, IsChosen}
use Rattle.program_words.proofs.Empty.{nothing_is_filled}
use Rattle.program_words.proofs.Spelled.{no_words, same_gives}

-- Of these words the first were read, as these settings, and the rest is left.
pub record Passed (words rest : List Bytes) (settings : Settings) : Type 0 where
  pub done : List Choice
  pub sound : (more : List Choice) → AreChoices rest more → AreChoices words (done ++ more)
  pub whole : (choices : List Choice) → AreChoices words choices
      → (more : List Choice) × ((choices ≡ done ++ more) × AreChoices rest more)
  pub held : Holds settings done

none_held : (settings : Settings) → settings.seed ≡ None → settings.sessions ≡ None → settings.rounds ≡ None
    → (setting : Setting) → [] ≡ listed (number_at settings setting)
none_held settings a b c Seed = ap listed (sym a)
none_held settings a b c Sessions = ap listed (sym b)
none_held settings a b c Rounds = ap listed (sym c)

pub begins : (words : List Bytes) (settings : Settings) → settings.seed ≡ None → settings.sessions ≡ None → settings.rounds ≡ None
    → Passed words words settings
begins words settings a b c = record {
  done = [];
  sound = λ more all. all;
  whole = λ choices all. (choices, (refl, all));
  held = none_held settings a b c;
}

-- one number more
at_it : (n : ℕ) (before : List ℕ) (here : Option ℕ) → here ≡ None → before ≡ listed here → before ++ n ∷ [] ≡ n ∷ []
at_it n before here none is = ap (λ ns. ns ++ n ∷ []) (is ∙ ap listed none)

elsewhere : (before : List ℕ) (there : Option ℕ) → before ≡ listed there → before ++ [] ≡ listed there
elsewhere before there is = append-nil before ∙ is

grown : (settings : Settings) (it setting : Setting) (n : ℕ) (before : List ℕ) → number_at settings it ≡ None
    → before ≡ listed (number_at settings setting)
    → before ++ ((if is_setting setting it then n ∷ [] else []) ++ []) ≡ listed (number_at (set_at settings it n) setting)
grown settings Seed Seed n before none is = at_it n before settings.seed none is
grown settings Seed Sessions n before none is = elsewhere before settings.sessions is
grown settings Seed Rounds n before none is = elsewhere before settings.rounds is
grown settings Sessions Seed n before none is = elsewhere before settings.seed is
grown settings Sessions Sessions n before none is = at_it n before settings.sessions none is
grown settings Sessions Rounds n before none is = elsewhere before settings.rounds is
grown settings Rounds Seed n before none is = elsewhere before settings.seed is
grown settings Rounds Sessions n before none is = elsewhere before settings.sessions is
grown settings Rounds Rounds n before none is = at_it n before settings.rounds none is

module _ (words rest after : List Bytes) (settings : Settings) (choice : Choice) (passed : Passed words rest settings)
    (gives : Gives rest choice after) where
  follows : (choices more : List Choice) → choices ≡ passed.done ++ more → AreChoices rest more
      → (others : List Choice) × ((choices ≡ (passed.done ++ choice ∷ []) ++ others) × AreChoices after others)
  follows choices [] is none = absurd (no_words rest choice after none gives)
  follows choices (other ∷ others) is all =
      let same = same_gives rest choice other after all.0 gives all.1.0 in
      let P : List Bytes → Type 0 = λ ws. AreChoices ws others in (
        others,
        (
          is ∙ ap (λ (c : Choice). passed.done ++ c ∷ others) (sym same.0) ∙ sym (append_assoc passed.done (choice ∷ []) others),
          subst P (sym same.1) all.1.1,
        ),
      )

  whole_after : (choices : List Choice) → AreChoices words choices
      → (others : List Choice) × ((choices ≡ (passed.done ++ choice ∷ []) ++ others) × AreChoices after others)
  whole_after choices all =
      let before = passed.whole choices all in follows choices before.0 before.1.0 before.1.1

  sound_after : (more : List Choice) → AreChoices after more → AreChoices words ((passed.done ++ choice ∷ []) ++ more)
  sound_after more all =
      let P : List Choice → Type 0 = λ cs. AreChoices words cs in
      subst P (sym (append_assoc passed.done (choice ∷ []) more)) (passed.sound (choice ∷ more) (after, (gives, all)))

  held_after : number_at settings choice.setting ≡ None → (setting : Setting)
      → numbers_of setting (passed.done ++ choice ∷ []) ≡ listed (number_at (with_number settings choice) setting)
  held_after none setting =
      flat_map-append (number_for setting) passed.done (choice ∷ [])
      ∙ grown settings choice.setting setting choice.number (numbers_of setting passed.done) none (passed.held setting)

  pub goes_on : number_at settings choice.setting ≡ None → Passed words after (with_number settings choice)
  goes_on none = record {
    done = passed.done ++ choice ∷ [];
    sound = sound_after;
    whole = whole_after;
    held = held_after none;
  }

is_itself : (setting : Setting) → is_setting setting setting ≡ true
is_itself Seed = refl
is_itself Sessions = refl
is_itself Rounds = refl

-- an option that was given comes a second time
numbers_twice : (settings : Settings) (choice : Choice) (done others : List Choice) (n : ℕ) → Holds settings done
    → number_at settings choice.setting ≡ Some n
    → numbers_of choice.setting (done ++ choice ∷ others) ≡ n ∷ choice.number ∷ numbers_of choice.setting others
numbers_twice settings choice done others n held given =
    flat_map-append (number_for choice.setting) done (choice ∷ others)
    ∙ ap₂ (λ (ns ms : List ℕ). ns ++ (ms ++ numbers_of choice.setting others)) (held choice.setting ∙ ap listed given)
    (ap (λ (test : Bool). if test then choice.number ∷ [] else []) (is_itself choice.setting))

too_many : (n m : ℕ) (ns : List ℕ) → length (n ∷ m ∷ ns) ≤ 1 → ⊥
too_many n m ns few = let h : suc (suc (length ns)) ≤ 1 = few in omega (arith, h)

pub twice : (words rest after : List Bytes) (settings : Settings) (choice : Choice) (n : ℕ) → Passed words rest settings
    → Gives rest choice after → number_at settings choice.setting ≡ Some n
    → (choices : List Choice) → AreChoices words choices → IsOnce choices → ⊥
twice words rest after settings choice n passed gives given choices all once =
    let more = whole_after words rest after settings choice passed gives choices all in
    let is : choices ≡ passed.done ++ choice ∷ more.0 = more.1.0 ∙ append_assoc passed.done (choice ∷ []) more.0 in
    let numbers = ap (numbers_of choice.setting) is ∙ numbers_twice settings choice passed.done more.0 n passed.held given in
    let P : List ℕ → Type 0 = λ ns. length ns ≤ 1 in
    too_many n choice.number (numbers_of choice.setting more.0) (subst P numbers (once choice.setting))

-- what is left gives no choice
stuck_by : (rest : List Bytes) (more : List Choice) → (rest ≡ [] → ⊥)
    → ((choice : Choice) (after : List Bytes) → Gives rest choice after → ⊥) → AreChoices rest more → ⊥
stuck_by rest [] some nothing all = some all
stuck_by rest (choice ∷ choices) some nothing all = nothing choice all.0 all.1.0

pub stuck : (words rest : List Bytes) (settings : Settings) → Passed words rest settings → (rest ≡ [] → ⊥)
    → ((choice : Choice) (after : List Bytes) → Gives rest choice after → ⊥)
    → (choices : List Choice) → AreChoices words choices → IsOnce choices → ⊥
stuck words rest settings passed some nothing choices all once =
    stuck_by rest (passed.whole choices all).0 some nothing (passed.whole choices all).1.1

-- nothing is left
only_by : (rest : List Bytes) (choices done more : List Choice) → rest ≡ [] → choices ≡ done ++ more → AreChoices rest more
    → choices ≡ done
only_by rest choices done [] none is all = is ∙ append-nil done
only_by rest choices done (choice ∷ more) none is all = absurd (no_words rest choice all.0 none all.1.0)

pub ends : (words rest : List Bytes) (settings : Settings) → Passed words rest settings → rest ≡ [] → IsChosen words settings
ends words rest settings passed none =
    let P : List Choice → Type 0 = λ cs. AreChoices words cs in record {
      choices = passed.done;
      all = subst P (append-nil passed.done) (passed.sound [] none);
      only = λ other all. let left = passed.whole other all in only_by rest other passed.done left.0 none left.1.0 left.1.1;
      held = passed.held;
    }

-- the same by what a loop tests
some_of : (found : Option ℕ) → is_some found ≡ true → (n : ℕ) × (found ≡ Some n)
some_of None e = absurd (true≢false (sym e))
some_of (Some n) e = (n, refl)

none_of : (found : Option ℕ) → is_some found ≡ false → found ≡ None
none_of None e = refl
none_of (Some n) e = absurd (true≢false e)

pub given_twice : (words rest after : List Bytes) (settings : Settings) (choice : Choice) → Passed words rest settings
    → Gives rest choice after → is_some (number_at settings choice.setting) ≡ true
    → (choices : List Choice) → AreChoices words choices → IsOnce choices → ⊥
given_twice words rest after settings choice passed gives given =
    let found = some_of (number_at settings choice.setting) given in
    twice words rest after settings choice found.0 passed gives found.1

pub next_passed : (words rest after : List Bytes) (settings next : Settings) (choice : Choice) → Passed words rest settings
    → Gives rest choice after → is_some (number_at settings choice.setting) ≡ false → next ≡ with_number settings choice
    → Passed words after next
next_passed words rest after settings next choice passed gives none is =
    let P : Settings → Type 0 = λ s. Passed words after s in
    subst P (sym is)
    (goes_on words rest after settings choice passed gives (none_of (number_at settings choice.setting) none))

pub some_mapped : {A : Type 0} (f : A → Bytes) (xs : List A) → (xs ≡ [] → ⊥) → map f xs ≡ [] → ⊥
some_mapped f [] some e = some refl
some_mapped f (x ∷ xs) some e = nothing_is_filled (sym e)
