-- Words ask for at most one thing.
use Rattle.std.proofs.Common.{◌≡◌, ℕ, ◌⊎◌, inl, inr, List, [], ◌∷◌, get_or, refl, sym, ap, ap₂, subst, ◌∙◌, arith}
use Rattle.texts.specs.Bytes.{Bytes}
use Rattle.program_words.specs.declared.words.TheConstants.{DEFAULT_ROUNDS}
use Rattle.program_words.specs.declared.demo.Choice.{Choice}
use Rattle.program_words.specs.declared.demo.Setting.TheVariants.{Seed, Sessions, Rounds}
use Rattle.program_words.specs.Settings.{AreChoices, numbers_of}
use Rattle.program_words.specs.Asked.{Files, Asked, serve_alone, serve_store, init_store, check_store, serve_load}
use Rattle.program_words.specs.WordsGrammar.{AreFiles, IsDemo, command_of, Follows, ReadsWords}
use Rattle.program_words.proofs.Empty.{nothing_is_filled}
use Rattle.program_words.proofs.Spelled.{no_words, same_gives}

abbrev pub first_byte : Bytes → ℕ
first_byte word = get_or word 0 0

-- the options of some words
same_choices : (words : List Bytes) (choices others : List Choice) → AreChoices words choices → AreChoices words others → choices ≡ others
same_choices words [] [] all also = refl
same_choices words [] (choice ∷ others) all also = absurd (no_words words choice also.0 all also.1.0)
same_choices words (choice ∷ choices) [] all also = absurd (no_words words choice all.0 also all.1.0)
same_choices words (choice ∷ choices) (other ∷ others) all also =
    let same = same_gives words choice other all.0 also.0 all.1.0 also.1.0 in
    let P : List Bytes → Type 0 = λ ws. AreChoices ws others in
    ap₂ (λ (c : Choice) (cs : List Choice). c ∷ cs) same.0
    (same_choices all.0 choices others all.1.1 (subst P (sym same.1) also.1.1))

abbrev first_number : List ℕ → ℕ
first_number numbers = get_or numbers 0 0

same_number : (numbers : List ℕ) (n m : ℕ) → numbers ≡ n ∷ [] → numbers ≡ m ∷ [] → n ≡ m
same_number numbers n m one two = ap first_number (sym one ∙ two)

same_rounds : (numbers : List ℕ) (n m : ℕ) → (numbers ≡ n ∷ []) ⊎ ((numbers ≡ []) × (n ≡ DEFAULT_ROUNDS))
    → (numbers ≡ m ∷ []) ⊎ ((numbers ≡ []) × (m ≡ DEFAULT_ROUNDS)) → n ≡ m
same_rounds numbers n m (inl one) (inl two) = same_number numbers n m one two
same_rounds numbers n m (inl one) (inr two) = absurd (nothing_is_filled (sym two.0 ∙ one))
same_rounds numbers n m (inr one) (inl two) = absurd (nothing_is_filled (sym one.0 ∙ two))
same_rounds numbers n m (inr one) (inr two) = one.1 ∙ sym two.1

same_demo : (words : List Bytes) (a b c d e f : ℕ) → IsDemo words a b c → IsDemo words d e f → serve_load a b c ≡ serve_load d e f
same_demo words a b c d e f one two =
    let same = same_choices words two.choices one.choices two.all one.all in
    let P : List ℕ → Type 0 = λ numbers. (numbers ≡ f ∷ []) ⊎ ((numbers ≡ []) × (f ≡ DEFAULT_ROUNDS)) in
    ap₂ (λ (seed sessions : ℕ). serve_load seed sessions c)
    (same_number (numbers_of Seed one.choices) a d one.seed_given (ap (numbers_of Seed) (sym same) ∙ two.seed_given))
    (same_number (numbers_of Sessions one.choices) b e one.sessions_given (ap (numbers_of Sessions) (sym same) ∙ two.sessions_given))
    ∙ ap (λ (rounds : ℕ). serve_load d e rounds)
    (same_rounds (numbers_of Rounds one.choices) c f one.rounds_given (subst P (ap (numbers_of Rounds) same) two.rounds_given))

-- the files of some words
abbrev first_of : List Bytes → Bytes
first_of [] = []
first_of (word ∷ words) = word

abbrev second_of : List Bytes → Bytes
second_of [] = []
second_of (word ∷ []) = []
second_of (word ∷ next ∷ words) = next

abbrev files_from : Bytes → Bytes → Files
files_from extent log = record { extent = extent; log = log }

same_files : (words : List Bytes) (files others : Files) → AreFiles words files → AreFiles words others → files ≡ others
same_files words files others one two =
    let both : files.extent ∷ files.log ∷ [] ≡ others.extent ∷ others.log ∷ [] = sym one.both ∙ two.both in
    ap₂ files_from (ap first_of both) (ap second_of both)

no_files_none : (words : List Bytes) (files : Files) → words ≡ [] → AreFiles words files → ⊥
no_files_none words files none are = nothing_is_filled (sym none ∙ are.both)

follows_once : (words : List Bytes) (asked other : Asked) → command_of asked ≡ command_of other → Follows words asked
    → Follows words other → asked ≡ other
follows_once words serve_alone serve_alone e one two = refl
follows_once words serve_alone (serve_store files) e one two = absurd (no_files_none words files one two)
follows_once words serve_alone (init_store files) e one two = let h : 115 ≡ 105 = ap first_byte e in absurd (omega (arith, h))
follows_once words serve_alone (check_store files) e one two = let h : 115 ≡ 99 = ap first_byte e in absurd (omega (arith, h))
follows_once words serve_alone (serve_load a b c) e one two = let h : 115 ≡ 100 = ap first_byte e in absurd (omega (arith, h))
follows_once words (serve_store files) serve_alone e one two = absurd (no_files_none words files two one)
follows_once words (serve_store files) (serve_store others) e one two = ap serve_store (same_files words files others one two)
follows_once words (serve_store files) (init_store others) e one two = let h : 115 ≡ 105 = ap first_byte e in absurd (omega (arith, h))
follows_once words (serve_store files) (check_store others) e one two = let h : 115 ≡ 99 = ap first_byte e in absurd (omega (arith, h))
follows_once words (serve_store files) (serve_load a b c) e one two = let h : 115 ≡ 100 = ap first_byte e in absurd (omega (arith, h))
follows_once words (init_store files) serve_alone e one two = let h : 105 ≡ 115 = ap first_byte e in absurd (omega (arith, h))
follows_once words (init_store files) (serve_store others) e one two = let h : 105 ≡ 115 = ap first_byte e in absurd (omega (arith, h))
follows_once words (init_store files) (init_store others) e one two = ap init_store (same_files words files others one two)
follows_once words (init_store files) (check_store others) e one two = let h : 105 ≡ 99 = ap first_byte e in absurd (omega (arith, h))
follows_once words (init_store files) (serve_load a b c) e one two = let h : 105 ≡ 100 = ap first_byte e in absurd (omega (arith, h))
follows_once words (check_store files) serve_alone e one two = let h : 99 ≡ 115 = ap first_byte e in absurd (omega (arith, h))
follows_once words (check_store files) (serve_store others) e one two = let h : 99 ≡ 115 = ap first_byte e in absurd (omega (arith, h))
follows_once words (check_store files) (init_store others) e one two = let h : 99 ≡ 105 = ap first_byte e in absurd (omega (arith, h))
follows_once words (check_store files) (check_store others) e one two = ap check_store (same_files words files others one two)
follows_once words (check_store files) (serve_load a b c) e one two = let h : 99 ≡ 100 = ap first_byte e in absurd (omega (arith, h))
follows_once words (serve_load a b c) serve_alone e one two = let h : 100 ≡ 115 = ap first_byte e in absurd (omega (arith, h))
follows_once words (serve_load a b c) (serve_store files) e one two = let h : 100 ≡ 115 = ap first_byte e in absurd (omega (arith, h))
follows_once words (serve_load a b c) (init_store files) e one two = let h : 100 ≡ 105 = ap first_byte e in absurd (omega (arith, h))
follows_once words (serve_load a b c) (check_store files) e one two = let h : 100 ≡ 99 = ap first_byte e in absurd (omega (arith, h))
follows_once words (serve_load a b c) (serve_load d f g) e one two = same_demo words a b c d f g one two

pub one_reading : (words : List Bytes) (asked other : Asked) → ReadsWords words asked → ReadsWords words other → asked ≡ other
one_reading [] asked other one two = absurd one
one_reading (command ∷ words) asked other one two = follows_once words asked other (sym one.0 ∙ two.0) one.1 two.1
