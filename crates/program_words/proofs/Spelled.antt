-- The first of some words, as an option and its number.
use Rattle.std.proofs.Common.{◌≡◌, suc, ◌<◌, false, true≢false, codes, List, [], ◌∷◌, ◌++◌, sym, ap, subst, ◌∙◌, append_assoc, length, map, arith}
use Rattle.std.proofs.lemmas.List.{length-map}
use Rattle.texts.specs.Bytes.{Bytes}
use Rattle.program_words.specs.declared.demo.Choice.{Choice}
use Rattle.program_words.specs.declared.demo.Setting.{Setting}
use Rattle.program_words.specs.Settings.{setting_name, IsSet, Spells, two_words, one_word, Gives}
use Rattle.program_words.proofs.Empty.{nothing_is_filled}
use Rattle.program_words.proofs.Names.{is_equals, has_equals, name_has_none, joined_has_one, joined_name, joined_value, has_one, same_set}
use Rattle.std.specs.List.{before_first, after_first}

abbrev first_of : List Bytes → Bytes
first_of [] = []
first_of (word ∷ words) = word

abbrev rest_of : List Bytes → List Bytes
rest_of [] = []
rest_of (word ∷ words) = words

same_first : {word other : Bytes} {words others : List Bytes} → word ∷ words ≡ other ∷ others → word ≡ other
same_first e = ap first_of e

same_rest : {word other : Bytes} {words others : List Bytes} → word ∷ words ≡ other ∷ others → words ≡ others
same_rest e = ap rest_of e

-- the name and value after the first word are the same
no_words_by : (words : List Bytes) (name value : Bytes) (rest : List Bytes) → words ≡ [] → Spells words name value rest → ⊥
no_words_by words name value rest none (two_words e) = nothing_is_filled (sym none ∙ e)
no_words_by words name value rest none (one_word e) = nothing_is_filled (sym none ∙ e)

-- no words give nothing
pub no_words : (words : List Bytes) (choice : Choice) (rest : List Bytes) → words ≡ [] → Gives words choice rest → ⊥
no_words words choice rest none gives = no_words_by words gives.name gives.value rest none gives.spelled

-- a word that is a name isn't one with a `=` in it
alone_or_joined : (word : Bytes) (setting other : Setting) (value : Bytes) → word ≡ setting_name setting
    → word ≡ setting_name other ++ codes "=" ++ value → ⊥
alone_or_joined word setting other value alone joined =
    true≢false (sym (joined_has_one other value) ∙ ap has_equals (sym joined ∙ alone) ∙ name_has_none setting)

-- names that are the same option's, whatever is after it
joined_is : (name value : Bytes) (setting : Setting) → name ≡ setting_name setting → name ++ codes "=" ++ value ≡ setting_name setting ++ codes "=" ++ value
joined_is name value setting named = ap (λ (n : Bytes). n ++ codes "=" ++ value) named

-- A first word without `=` is a name, and the second one its value.
apart_by : (word : Bytes) (words words' : List Bytes) (name value : Bytes) (rest : List Bytes) (setting : Setting) → words ≡ word ∷ words' → has_equals word ≡ false
    → name ≡ setting_name setting → Spells words name value rest → (word ≡ name) × (words' ≡ value ∷ rest)
apart_by word words words' name value rest setting is none named (two_words e) =
    let h : word ∷ words' ≡ name ∷ value ∷ rest = sym is ∙ e in (same_first h, same_rest h)
apart_by word words words' name value rest setting is none named (one_word e) =
    let h : word ∷ words' ≡ (name ++ codes "=" ++ value) ∷ rest = sym is ∙ e in
    absurd (true≢false (sym (joined_has_one setting value)
    ∙ ap has_equals (sym (same_first h ∙ joined_is name value setting named)) ∙ none))

pub lone_name : (word : Bytes) (words others : List Bytes) → words ≡ word ∷ others → has_equals word ≡ false → others ≡ []
    → (choice : Choice) (rest : List Bytes) → Gives words choice rest → ⊥
lone_name word words others is none empty choice rest gives =
    let parts = apart_by word words others gives.name gives.value rest choice.setting is none gives.set.named gives.spelled in
    nothing_is_filled (sym empty ∙ parts.1)

pub apart_nothing : (word value : Bytes) (words others rest : List Bytes) → words ≡ word ∷ others → has_equals word ≡ false
    → others ≡ value ∷ rest → ((choice : Choice) → IsSet word value choice → ⊥)
    → (choice : Choice) (after : List Bytes) → Gives words choice after → ⊥
apart_nothing word value words others rest is none second fails choice after gives =
    let parts = apart_by word words others gives.name gives.value after choice.setting is none gives.set.named gives.spelled in
    let values : value ∷ rest ≡ gives.value ∷ after = sym second ∙ parts.1 in
    let P : Bytes → Type 0 = λ n. IsSet n gives.value choice in
    let Q : Bytes → Type 0 = λ v. IsSet word v choice in
    fails choice (subst Q (sym (same_first values)) (subst P (sym parts.0) gives.set))

pub apart_given : (word value : Bytes) (words others rest : List Bytes) → words ≡ word ∷ others → others ≡ value ∷ rest
    → (choice : Choice) → IsSet word value choice → Gives words choice rest
apart_given word value words others rest is second choice set =
    record { name = word; value = value; spelled = two_words (is ∙ ap (λ (ws : List Bytes). word ∷ ws) second); set = set }

-- A first word with a `=` is a name and a value.
joined_by : (word front back : Bytes) (words words' : List Bytes) (name value : Bytes) (rest : List Bytes) (setting : Setting)
    → words ≡ word ∷ words' → word ≡ front ++ 61 ∷ back → front ≡ before_first is_equals word → back ≡ after_first is_equals word
    → name ≡ setting_name setting → Spells words name value rest → (front ≡ name) × (back ≡ value)
joined_by word front back words words' name value rest setting is parts is_front is_back named (two_words e) =
    let h : word ∷ words' ≡ name ∷ value ∷ rest = sym is ∙ e in
    absurd (true≢false (sym (has_one front back) ∙ ap has_equals (sym parts ∙ same_first h ∙ named) ∙ name_has_none setting))
joined_by word front back words words' name value rest setting is parts is_front is_back named (one_word e) =
    let h : word ∷ words' ≡ (name ++ codes "=" ++ value) ∷ rest = sym is ∙ e in
    let whole : word ≡ setting_name setting ++ codes "=" ++ value = same_first h ∙ joined_is name value setting named in (
      is_front ∙ ap (λ (w : Bytes). before_first is_equals w) whole ∙ joined_name setting value ∙ sym named,
      is_back ∙ ap (λ (w : Bytes). after_first is_equals w) whole ∙ joined_value setting value,
    )

pub joined_nothing : (word front back : Bytes) (words others : List Bytes) → words ≡ word ∷ others → word ≡ front ++ 61 ∷ back
    → front ≡ before_first is_equals word → back ≡ after_first is_equals word
    → ((choice : Choice) → IsSet front back choice → ⊥)
    → (choice : Choice) (rest : List Bytes) → Gives words choice rest → ⊥
joined_nothing word front back words others is parts is_front is_back fails choice rest gives =
    let same = joined_by word front back words others gives.name gives.value rest choice.setting is parts is_front is_back
    gives.set.named gives.spelled in
    let P : Bytes → Type 0 = λ n. IsSet n gives.value choice in
    let Q : Bytes → Type 0 = λ v. IsSet front v choice in
    fails choice (subst Q (sym same.1) (subst P (sym same.0) gives.set))

pub joined_given : (word front back : Bytes) (words others : List Bytes) → words ≡ word ∷ others → word ≡ front ++ 61 ∷ back
    → (choice : Choice) → IsSet front back choice → Gives words choice others
joined_given word front back words others is parts choice set =
    let whole : word ≡ front ++ codes "=" ++ back = parts ∙ sym (append_assoc front (codes "=") back) in
    record { name = front; value = back; spelled = one_word (is ∙ ap (λ (w : Bytes). w ∷ others) whole); set = set }

-- Words give at most one choice, and what follows it is one list.
same_spelled : (words : List Bytes) (setting other : Setting) (name name' value value' : Bytes) (rest rest' : List Bytes)
    → name ≡ setting_name setting → name' ≡ setting_name other → Spells words name value rest → Spells words name' value' rest'
    → (name ≡ name') × (value ≡ value') × (rest ≡ rest')
same_spelled words setting other name name' value value' rest rest' named named' (two_words e) (two_words f) =
    let h : name ∷ value ∷ rest ≡ name' ∷ value' ∷ rest' = sym e ∙ f in
    let t : value ∷ rest ≡ value' ∷ rest' = same_rest h in (same_first h, same_first t, same_rest t)
same_spelled words setting other name name' value value' rest rest' named named' (two_words e) (one_word f) =
    let h : name ∷ value ∷ rest ≡ (name' ++ codes "=" ++ value') ∷ rest' = sym e ∙ f in
    absurd (alone_or_joined name setting other value' named (same_first h ∙ joined_is name' value' other named'))
same_spelled words setting other name name' value value' rest rest' named named' (one_word e) (two_words f) =
    let h : name' ∷ value' ∷ rest' ≡ (name ++ codes "=" ++ value) ∷ rest = sym f ∙ e in
    absurd (alone_or_joined name' other setting value named' (same_first h ∙ joined_is name value setting named))
same_spelled words setting other name name' value value' rest rest' named named' (one_word e) (one_word f) =
    let h : (name ++ codes "=" ++ value) ∷ rest ≡ (name' ++ codes "=" ++ value') ∷ rest' = sym e ∙ f in
    let whole : setting_name setting ++ codes "=" ++ value ≡ setting_name other ++ codes "=" ++ value' =
    sym (joined_is name value setting named) ∙ same_first h ∙ joined_is name' value' other named' in (
      named ∙ sym (joined_name setting value) ∙ ap (λ (w : Bytes). before_first is_equals w) whole ∙ joined_name other value' ∙ sym named',
      sym (joined_value setting value) ∙ ap (λ (w : Bytes). after_first is_equals w) whole ∙ joined_value other value',
      same_rest h,
    )

pub same_gives : (words : List Bytes) (choice other : Choice) (rest rest' : List Bytes) → Gives words choice rest
    → Gives words other rest' → (choice ≡ other) × (rest ≡ rest')
same_gives words choice other rest rest' one two =
    let same = same_spelled words choice.setting other.setting one.name two.name one.value two.value rest rest' one.set.named
    two.set.named one.spelled two.spelled in
    let P : Bytes → Type 0 = λ n. IsSet n two.value other in
    let Q : Bytes → Type 0 = λ v. IsSet one.name v other in
    (same_set one.name one.value choice other one.set (subst Q (sym same.1) (subst P (sym same.0) two.set)), same.2)

-- what follows is shorter
shorter_by : (words : List Bytes) (name value : Bytes) (rest : List Bytes) → Spells words name value rest → length rest < length words
shorter_by words name value rest (two_words e) = let h : length words ≡ suc (suc (length rest)) = ap length e in omega (arith, h)
shorter_by words name value rest (one_word e) = let h : length words ≡ suc (length rest) = ap length e in omega (arith, h)

pub shorter : {A : Type 0} (f : A → Bytes) (xs ys : List A) (choice : Choice) → Gives (map f xs) choice (map f ys) → length ys < length xs
shorter f xs ys choice gives =
    let h = shorter_by (map f xs) gives.name gives.value (map f ys) gives.spelled in
    let a : length (map f xs) ≡ length xs = length-map xs f in
    let b : length (map f ys) ≡ length ys = length-map ys f in
    omega (arith, h, a, b)
