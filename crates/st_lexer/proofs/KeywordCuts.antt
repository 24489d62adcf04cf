-- How the keywords that a text begins with change where it is cut.
use Rattle.std.proofs.Common.{◌≡◌, ℕ, suc, ◌+◌, ◌<◌, Bool, true, false, cond, [], ◌∷◌, drop, refl, ap, ◌∙◌, subst}
use Rattle.std.proofs.Common.{arith}
use Rattle.std.specs.Prelude.{nat_lt, ◌&&◌}
use Rattle.std.specs.List.{prefix_len}
use Rattle.std.proofs.lemmas.Bool.{ne_eqb, lt-ltb}
use Rattle.texts.specs.Bytes.{Bytes}
use Rattle.texts.specs.NameBytes.{starts_name, is_name_byte}
use Rattle.st_grammar.specs.Tokens.{keywords, name_goes_on, is_keyword_end}

goes_on : (here b : ℕ) → 0 < here → name_goes_on here b ≡ is_name_byte b
goes_on here b some = ap (λ v. cond v (starts_name b) (is_name_byte b)) (ne_eqb here 0 (λ e. omega arith))

and_false : (a : Bool) → (a && false) ≡ false
and_false true = refl
and_false false = refl

-- what stands after the name that a text begins with
abbrev pub behind_name : Bytes → Bytes
behind_name text = drop (prefix_len is_name_byte text) text

pub behind_cons : (b : ℕ) (bs : Bytes) → is_name_byte b ≡ true → behind_name (b ∷ bs) ≡ behind_name bs
behind_cons b bs h =
    ap (λ v. drop (cond v (1 + prefix_len is_name_byte bs) 0) (b ∷ bs)) h
    ∙ (let one : 1 + prefix_len is_name_byte bs ≡ suc (prefix_len is_name_byte bs) = omega arith in ap
    (λ n. drop n (b ∷ bs)) one)

behind_none : (b : ℕ) (bs : Bytes) → is_name_byte b ≡ false → behind_name (b ∷ bs) ≡ b ∷ bs
behind_none b bs h = ap (λ v. drop (cond v (1 + prefix_len is_name_byte bs) 0) (b ∷ bs)) h

-- a name that has begun makes a keyword exactly where a keyword's end stands after it
keyword_by : (here b : ℕ) (bs : Bytes) (v : Bool) → 0 < here → is_name_byte b ≡ v
    → keywords here (b ∷ bs) ≡ cond v (keywords (here + 1) bs)
    (cond (nat_lt 0 here && is_keyword_end (b ∷ bs)) (here + 1 + keywords 0 bs) 0)
keyword_by here b bs v some e = ap
    (λ t. cond t (keywords (here + 1) bs)
    (cond (nat_lt 0 here && is_keyword_end (b ∷ bs)) (here + 1 + keywords 0 bs) 0)) (goes_on here b some ∙ e)

pub no_keyword : (here : ℕ) (text : Bytes) → 0 < here → is_keyword_end (behind_name text) ≡ false
    → keywords here text ≡ 0
no_keyword here [] some e = refl
no_keyword here (b ∷ bs) some e =
    let P : Bool → Type 0 = λ v. is_name_byte b ≡ v → keywords here (b ∷ bs) ≡ 0 in
    elim (is_name_byte b) as P [
      | true ↦ λ h. keyword_by here b bs true some h
          ∙ no_keyword (here + 1) bs (omega arith) (subst (λ (l : Bytes). is_keyword_end l ≡ false) (behind_cons b bs h) e)
      | false ↦ λ h. keyword_by here b bs false some h
          ∙ ap (λ t. cond (nat_lt 0 here && t) (here + 1 + keywords 0 bs) 0)
          (subst (λ (l : Bytes). is_keyword_end l ≡ false) (behind_none b bs h) e)
          ∙ ap (λ t. cond t (here + 1 + keywords 0 bs) 0) (and_false (nat_lt 0 here))
    ] refl

pub some_keyword : (here : ℕ) (text : Bytes) → 0 < here → is_keyword_end (behind_name text) ≡ true
    → here < keywords here text
some_keyword here [] some e = cc
some_keyword here (b ∷ bs) some e =
    let P : Bool → Type 0 = λ v. is_name_byte b ≡ v → here < keywords here (b ∷ bs) in
    elim (is_name_byte b) as P [
      | true ↦ λ h. let more = some_keyword (here + 1) bs (omega arith)
          (subst (λ (l : Bytes). is_keyword_end l ≡ true) (behind_cons b bs h) e) in omega
          (arith, more, keyword_by here b bs true some h)
      | false ↦ λ h.
          let last : keywords here (b ∷ bs) ≡ here + 1 + keywords 0 bs = keyword_by here b bs false some h
          ∙ ap (λ t. cond (nat_lt 0 here && t) (here + 1 + keywords 0 bs) 0)
          (subst (λ (l : Bytes). is_keyword_end l ≡ true) (behind_none b bs h) e)
          ∙ ap (λ t. cond (t && true) (here + 1 + keywords 0 bs) 0) (lt-ltb 0 here some) in
          omega (arith, last)
    ] refl
