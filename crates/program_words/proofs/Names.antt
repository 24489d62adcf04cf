-- The names of options, alone and before a `=`.
use Rattle.std.proofs.Common.{◌≡◌, ℕ, suc, ◌+◌, ◌<◌, Bool, true, false, ◌==◌, ◌||◌, not, cond, codes, [], ◌∷◌, ◌++◌, length, get_or, refl, sym, ap, ap₂, ◌∙◌, arith}
use Rattle.std.proofs.lemmas.Bool.Decides.{nat_tests}
use Rattle.std.proofs.lemmas.List.Sums.{split_at_first, passes_at_first}
use Rattle.std.specs.List.{position_or_len, before_first, after_first}
use Rattle.texts.specs.Bytes.{Bytes}
use Rattle.program_words.specs.declared.demo.Choice.{Choice}
use Rattle.program_words.specs.declared.demo.Setting.{Setting}
use Rattle.program_words.specs.declared.demo.Setting.TheVariants.{Seed, Sessions, Rounds}
use Rattle.program_words.specs.Settings.{setting_name, IsSet}

abbrev pub is_equals : ℕ → Bool
is_equals byte = byte == 61

abbrev pub has_equals : Bytes → Bool
has_equals [] = false
has_equals (byte ∷ bytes) = is_equals byte || has_equals bytes

-- a name has no `=`, and with one after it its parts are found
pub name_has_none : (setting : Setting) → has_equals (setting_name setting) ≡ false
name_has_none Seed = refl
name_has_none Sessions = refl
name_has_none Rounds = refl

pub joined_has_one : (setting : Setting) (value : Bytes) → has_equals (setting_name setting ++ codes "=" ++ value) ≡ true
joined_has_one Seed value = refl
joined_has_one Sessions value = refl
joined_has_one Rounds value = refl

pub joined_name : (setting : Setting) (value : Bytes) → before_first is_equals (setting_name setting ++ codes "=" ++ value) ≡ setting_name setting
joined_name Seed value = refl
joined_name Sessions value = refl
joined_name Rounds value = refl

pub joined_value : (setting : Setting) (value : Bytes) → after_first is_equals (setting_name setting ++ codes "=" ++ value) ≡ value
joined_value Seed value = refl
joined_value Sessions value = refl
joined_value Rounds value = refl

-- a word in which no `=` is found has none
none_by : (test : Bool) (place count : ℕ) (more : Bool) → (place ≡ count → more ≡ false) → cond (not test) (1 + place) 0 ≡ suc count
    → (test || more) ≡ false
none_by true place count more rest e = let h : 0 ≡ suc count = e in absurd (omega (arith, h))
none_by false place count more rest e = let h : 1 + place ≡ suc count = e in rest (omega (arith, h))

pub has_none : (word : Bytes) → position_or_len is_equals word ≡ length word → has_equals word ≡ false
has_none [] e = refl
has_none (byte ∷ bytes) e =
    none_by (is_equals byte) (position_or_len is_equals bytes) (length bytes) (has_equals bytes) (has_none bytes) e

-- a word with a `=` in it has one
or_true : (a : Bool) → (a || true) ≡ true
or_true true = refl
or_true false = refl

pub has_one : (front back : Bytes) → has_equals (front ++ 61 ∷ back) ≡ true
has_one [] back = refl
has_one (byte ∷ bytes) back = ap (λ (more : Bool). is_equals byte || more) (has_one bytes back) ∙ or_true (is_equals byte)

-- the parts before and after the first `=` make the word
is_that : (byte : ℕ) → is_equals byte ≡ true → byte ≡ 61
is_that byte e = grind (arith, nat_tests)

pub parts_of : (word front back : Bytes) → position_or_len is_equals word < length word → front ≡ before_first is_equals word
    → back ≡ after_first is_equals word → word ≡ front ++ 61 ∷ back
parts_of word front back found is_front is_back =
    split_at_first is_equals word 0 found
    ∙ ap₂ (λ (f b : Bytes). f ++ get_or word (position_or_len is_equals word) 0 ∷ b) (sym is_front) (sym is_back)
    ∙ ap (λ (byte : ℕ). front ++ byte ∷ back) (is_that _ (passes_at_first is_equals word 0 found))

-- options with the same name are the same
abbrev fifth_byte : Bytes → ℕ
fifth_byte word = get_or word 4 0

pub same_name : (setting other : Setting) → setting_name setting ≡ setting_name other → setting ≡ other
same_name Seed Seed e = refl
same_name Sessions Sessions e = refl
same_name Rounds Rounds e = refl
same_name Seed Sessions e = let h : 101 ≡ 115 = ap fifth_byte e in absurd (omega (arith, h))
same_name Seed Rounds e = let h : 101 ≡ 117 = ap fifth_byte e in absurd (omega (arith, h))
same_name Sessions Seed e = let h : 115 ≡ 101 = ap fifth_byte e in absurd (omega (arith, h))
same_name Sessions Rounds e = let h : 115 ≡ 117 = ap fifth_byte e in absurd (omega (arith, h))
same_name Rounds Seed e = let h : 117 ≡ 101 = ap fifth_byte e in absurd (omega (arith, h))
same_name Rounds Sessions e = let h : 117 ≡ 115 = ap fifth_byte e in absurd (omega (arith, h))

abbrev choice_of : Setting → ℕ → Choice
choice_of setting number = record { setting = setting; number = number }

-- a name and a value are one choice at most
pub same_set : (name value : Bytes) (choice other : Choice) → IsSet name value choice → IsSet name value other → choice ≡ other
same_set name value choice other one two =
    ap₂ choice_of (same_name choice.setting other.setting (sym one.named ∙ two.named)) (sym one.is.value ∙ two.is.value)
