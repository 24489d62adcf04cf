-- What words ask for, by the first of them.
use Rattle.std.proofs.Common.{◌≡◌, ◌≢◌, ℕ, codes, List, [], ◌∷◌, length, map, Bool, Option, Some, None, Result, refl, sym, ap, subst, ◌∙◌, true, false, true≢false, arith}
use Rattle.std.specs.Prelude.{◌↔◌, MatchOption, IsErr}
use Rattle.std.specs.Bool.{Decides}
use Rattle.std.specs.Option.{ok_or}
use Rattle.std.proofs.lemmas.List.{length-map}
use Rattle.texts.specs.Bytes.{Bytes}
use Rattle.program_words.specs.declared.words.Paths.{Paths}
use Rattle.program_words.specs.declared.words.Words.{Words}
use Rattle.program_words.specs.declared.words.Usage.{Usage}
use Rattle.program_words.specs.Asked.{Files, Asked, serve_alone, serve_store, init_store, check_store, serve_load, files_of, asked_of}
use Rattle.program_words.specs.WordsGrammar.{AreFiles, IsDemo, ReadsWords, AsksNothing, IsReading, Says, is_file_word}
use Rattle.program_words.proofs.Unique.{one_reading, first_byte}

-- the files of some words
pub no_files : {A : Type 0} (f : A → Bytes) (xs ys : List A) → xs ≡ ys → (length ys ≡ 2 → ⊥) → (files : Files)
    → AreFiles (map f xs) files → ⊥
no_files f xs ys is other files are =
    other (sym (length-map ys f) ∙ ap (λ zs. length (map f zs)) (sym is) ∙ ap (λ (ws : List Bytes). length ws) are.both)

pub other_words : (words others : List Bytes) (found : Option Paths) → others ≡ words
    → MatchOption found ((files : Files) → AreFiles others files → ⊥) (λ paths. AreFiles others (files_of paths))
    → MatchOption found ((files : Files) → AreFiles words files → ⊥) (λ paths. AreFiles words (files_of paths))
other_words words others found is =
    let P : List Bytes → Type 0 =
    λ ws. MatchOption found ((files : Files) → AreFiles ws files → ⊥) (λ paths. AreFiles ws (files_of paths)) in
    subst P is

abbrev second_of : List Bytes → Bytes
second_of [] = []
second_of (word ∷ []) = []
second_of (word ∷ next ∷ words) = next

abbrev first_of : List Bytes → Bytes
first_of [] = []
first_of (word ∷ words) = word

pub bad_extent : (extent log : Bytes) → is_file_word extent ≡ false → (files : Files) → AreFiles (extent ∷ log ∷ []) files → ⊥
bad_extent extent log bad files are =
    let same : extent ≡ files.extent = ap first_of are.both in true≢false (sym are.extent ∙ ap is_file_word (sym same) ∙ bad)

pub bad_log : (extent log : Bytes) → is_file_word log ≡ false → (files : Files) → AreFiles (extent ∷ log ∷ []) files → ⊥
bad_log extent log bad files are =
    let same : log ≡ files.log = ap second_of are.both in true≢false (sym are.log ∙ ap is_file_word (sym same) ∙ bad)

-- words that ask for nothing
pub no_serve : (words : List Bytes) → (words ≡ [] → ⊥) → ((files : Files) → AreFiles words files → ⊥) → AsksNothing (codes "serve" ∷ words)
no_serve words some none serve_alone read = some read.1
no_serve words some none (serve_store files) read = none files read.1
no_serve words some none (init_store files) read = let h : 115 ≡ 105 = ap first_byte read.0 in omega (arith, h)
no_serve words some none (check_store files) read = let h : 115 ≡ 99 = ap first_byte read.0 in omega (arith, h)
no_serve words some none (serve_load a b c) read = let h : 115 ≡ 100 = ap first_byte read.0 in omega (arith, h)

pub no_init : (words : List Bytes) → ((files : Files) → AreFiles words files → ⊥) → AsksNothing (codes "init" ∷ words)
no_init words none serve_alone read = let h : 105 ≡ 115 = ap first_byte read.0 in omega (arith, h)
no_init words none (serve_store files) read = let h : 105 ≡ 115 = ap first_byte read.0 in omega (arith, h)
no_init words none (init_store files) read = none files read.1
no_init words none (check_store files) read = let h : 105 ≡ 99 = ap first_byte read.0 in omega (arith, h)
no_init words none (serve_load a b c) read = let h : 105 ≡ 100 = ap first_byte read.0 in omega (arith, h)

pub no_check : (words : List Bytes) → ((files : Files) → AreFiles words files → ⊥) → AsksNothing (codes "check" ∷ words)
no_check words none serve_alone read = let h : 99 ≡ 115 = ap first_byte read.0 in omega (arith, h)
no_check words none (serve_store files) read = let h : 99 ≡ 115 = ap first_byte read.0 in omega (arith, h)
no_check words none (init_store files) read = let h : 99 ≡ 105 = ap first_byte read.0 in omega (arith, h)
no_check words none (check_store files) read = none files read.1
no_check words none (serve_load a b c) read = let h : 99 ≡ 100 = ap first_byte read.0 in omega (arith, h)

pub no_demo : (words : List Bytes) → ((seed sessions rounds : ℕ) → IsDemo words seed sessions rounds → ⊥) → AsksNothing (codes "demo" ∷ words)
no_demo words none serve_alone read = let h : 100 ≡ 115 = ap first_byte read.0 in omega (arith, h)
no_demo words none (serve_store files) read = let h : 100 ≡ 115 = ap first_byte read.0 in omega (arith, h)
no_demo words none (init_store files) read = let h : 100 ≡ 105 = ap first_byte read.0 in omega (arith, h)
no_demo words none (check_store files) read = let h : 100 ≡ 99 = ap first_byte read.0 in omega (arith, h)
no_demo words none (serve_load a b c) read = none a b c read.1

pub no_command : (command : Bytes) (words : List Bytes) → command ≢ codes "serve" → command ≢ codes "init"
    → command ≢ codes "check" → command ≢ codes "demo" → AsksNothing (command ∷ words)
no_command command words a b c d serve_alone read = a read.0
no_command command words a b c d (serve_store files) read = a read.0
no_command command words a b c d (init_store files) read = b read.0
no_command command words a b c d (check_store files) read = c read.0
no_command command words a b c d (serve_load seed sessions rounds) read = d read.0

pub no_word : (words : List Bytes) → words ≡ [] → AsksNothing words
no_word words none asked read = let P : List Bytes → Type 0 = λ ws. ReadsWords ws asked in subst P none read

-- words whose first one is this command
pub by_command : (whole words : List Bytes) (first command : Bytes) (found : Option Words) → whole ≡ first ∷ words → first ≡ command
    → IsReading (command ∷ words) found → IsReading whole found
by_command whole words first command found is same =
    let P : List Bytes → Type 0 = λ ws. IsReading ws found in subst P (sym (is ∙ ap (λ (w : Bytes). w ∷ words) same))

-- what a reader found, as a result
pub says : (words : List Bytes) (found : Option Words) (usage : Usage) → IsReading words found → (asked : Asked)
    → (Says (ok_or found usage) asked ↔ ReadsWords words asked)
says words None usage reading asked = (λ never. absurd never, λ read. reading asked read)
says words (Some read) usage reading asked =
    let P : Asked → Type 0 = λ a. ReadsWords words a in
    (λ same. subst P same reading, λ other. one_reading words (asked_of read) asked reading other)

pub is_usage : (words : List Bytes) (found : Option Words) (usage : Usage) → IsReading words found
    → (IsErr (ok_or found usage) ↔ AsksNothing words)
is_usage words None usage reading = (λ err. reading, λ nothing. refl)
is_usage words (Some read) usage reading =
    (λ err. absurd (true≢false (sym err)), λ nothing. absurd (nothing (asked_of read) reading))

pub says_of : (words : List Bytes) (found : Option Words) (usage : Usage) (result : Result Words Usage) → result ≡ ok_or found usage
    → IsReading words found → (asked : Asked) → (Says result asked ↔ ReadsWords words asked)
says_of words found usage result is reading asked =
    let P : Result Words Usage → Type 0 = λ r. Says r asked ↔ ReadsWords words asked in
    subst P (sym is) (says words found usage reading asked)

pub is_usage_of : (words : List Bytes) (found : Option Words) (usage : Usage) (result : Result Words Usage) → result ≡ ok_or found usage
    → IsReading words found → (IsErr result ↔ AsksNothing words)
is_usage_of words found usage result is reading =
    let P : Result Words Usage → Type 0 = λ r. IsErr r ↔ AsksNothing words in
    subst P (sym is) (is_usage words found usage reading)

-- what a test of the first word tells
pub was_said : (test : Bool) (shown word command : Bytes) → shown ≡ word → Decides test (shown ≡ command) → test ≡ true → word ≡ command
was_said test shown word command same tells passed = sym same ∙ tells.0 passed

pub not_said : (test : Bool) (shown word command : Bytes) → shown ≡ word → Decides test (shown ≡ command) → test ≡ false → word ≢ command
not_said test shown word command same tells failed e = true≢false (sym (tells.1 (same ∙ e)) ∙ failed)

pub nothing_asked : (whole words : List Bytes) (first : Bytes) → whole ≡ first ∷ words → AsksNothing (first ∷ words) → AsksNothing whole
nothing_asked whole words first is =
    let P : List Bytes → Type 0 = λ ws. AsksNothing ws in subst P (sym is)
