-- Lists of names and of symbols.
use Rattle.std.proofs.Common.{◌≡◌, refl, sym, ap, ◌∙◌, ℕ, ◌+◌, ◌<◌, List, [], ◌∷◌, ◌++◌, append_assoc, length, get_or, drop, Option, Some, None, option_map}
use Rattle.std.proofs.lemmas.List.{drop_more}
use Rattle.gem_object.specs.texts.Bytes.{Bytes as Text}
use Rattle.gem_object.specs.declared.value.Value.{Value}
use Rattle.gem_object.specs.declared.value.Value.TheVariants.{Nil, False, True, Int, Char, Sym, Ref, Block}
use Rattle.prim_rules.specs.Classes.{symbols_in}

-- one symbol more
more_by : (before : List Text) (name : Text) (rest : Option (List Text))
    → option_map (λ names. before ++ names) (option_map (λ names. name ∷ names) rest)
    ≡ option_map (λ names. (before ++ name ∷ []) ++ names) rest
more_by before name None = refl
more_by before name (Some names) = ap Some (sym (append_assoc before (name ∷ []) names))

pub symbol_more : (values : List Value) (index : ℕ) (value : Value) (name copy : Text) (before : List Text)
    (whole : Option (List Text)) → index < length values → value ≡ get_or values index value → value ≡ Sym name → copy ≡ name
    → whole ≡ option_map (λ names. before ++ names) (symbols_in (drop index values))
    → whole ≡ option_map (λ names. (before ++ copy ∷ []) ++ names) (symbols_in (drop (index + 1) values))
symbol_more values index value name copy before whole within at is same so_far =
    let here : drop index values ≡ Sym name ∷ drop (index + 1) values = drop_more values index value within
    ∙ ap (λ (one : Value). one ∷ drop (index + 1) values) (sym at ∙ is) in
    so_far ∙ ap (λ (these : List Value). option_map (λ names. before ++ names) (symbols_in these)) here
    ∙ more_by before name (symbols_in (drop (index + 1) values))
    ∙ ap (λ (one : Text). option_map (λ names. (before ++ one ∷ []) ++ names) (symbols_in (drop (index + 1) values))) (sym same)

no_symbol : (value : Value) (rest : List Value) → ((name : Text) → value ≡ Sym name → ⊥) → symbols_in (value ∷ rest) ≡ None
no_symbol Nil rest other = refl
no_symbol False rest other = refl
no_symbol True rest other = refl
no_symbol (Int number) rest other = refl
no_symbol (Char code) rest other = refl
no_symbol (Sym name) rest other = absurd (other name refl)
no_symbol (Ref oid) rest other = refl
no_symbol (Block block) rest other = refl

pub symbol_none : (values : List Value) (index : ℕ) (value : Value) (before : List Text) (whole : Option (List Text))
    → index < length values → value ≡ get_or values index value → ((name : Text) → value ≡ Sym name → ⊥)
    → whole ≡ option_map (λ names. before ++ names) (symbols_in (drop index values)) → None ≡ whole
symbol_none values index value before whole within at other so_far =
    let here : drop index values ≡ value ∷ drop (index + 1) values = drop_more values index value within
    ∙ ap (λ (one : Value). one ∷ drop (index + 1) values) (sym at) in
    sym (so_far ∙ ap (λ (these : List Value). option_map (λ names. before ++ names) (symbols_in these)) here
    ∙ ap (λ (found : Option (List Text)). option_map (λ names. before ++ names) found) (no_symbol value (drop (index + 1) values) other))
