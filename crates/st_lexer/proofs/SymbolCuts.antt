-- A symbol stays what it is where the text is cut after it, or after a token that follows.
use Rattle.std.proofs.Common.{◌≡◌, ℕ, zero, suc, ◌+◌, ◌<◌, ◌≤◌, Bool, true, false, cond, Option, Some, None, [], ◌∷◌}
use Rattle.std.proofs.Common.{◌++◌, length, drop, refl, sym, ap, ◌∙◌, subst, arith}
use Rattle.std.proofs.lemmas.List.{drop-append-le}
use Rattle.std.proofs.lemmas.Bool.{eqb-true}
use Rattle.std.specs.Prelude.{nat_lt, nat_le, ◌==◌, ◌&&◌, ◌||◌}
use Rattle.std.specs.List.{prefix_len}
use Rattle.texts.specs.Bytes.{Bytes}
use Rattle.texts.specs.NameBytes.{starts_name, is_name_byte}
use Rattle.texts.specs.declared.limits.TheConstants.{SYMBOL_LIMIT}
use Rattle.st_grammar.specs.Tokens.{Kind, TokenRule, Piece, token, bad, p2, p3, symbol, open_array, keyword, identifier}
use Rattle.st_grammar.specs.Tokens.{Class, name, begins, begins_with, string_end, string_bytes, keywords, name_goes_on}
use Rattle.st_grammar.specs.Tokens.{is_keyword_end, is_blank, is_operator, is_second, word, sized, symbol_name}
use Rattle.st_grammar.specs.Tokens.{quoted_symbol, binary_len, symbol_at, class_of, piece_in, piece}
use Rattle.st_lexer.proofs.Sizes.{on_cond, binary_some, first_counts}
use Rattle.st_lexer.proofs.Cuts.{Follows, prefix_cut, keyword_end_stays, keyword_end_stays_none}
use Rattle.st_lexer.proofs.QuoteCuts.{SameString, string_cut}
use Rattle.st_lexer.proofs.KeywordCuts.{behind_name, behind_cons, no_keyword, some_keyword}
use Rattle.st_lexer.proofs.Once.{token_len}

-- the class of a byte that begins a name
neither : (a b : Bool) → (a ≡ true → ⊥) → (b ≡ true → ⊥) → (a || b) ≡ true → ⊥
neither true b f g h = f refl
neither false b f g h = g h

not_at : (c n : ℕ) → starts_name n ≡ false → starts_name c ≡ true → (c == n) ≡ true → ⊥
not_at c n not_so starts e =
    let is : c ≡ n = eqb-true c n e in
    let both : starts_name n ≡ true = subst (λ (a : ℕ). starts_name a ≡ true) is starts in
    let clash : false ≡ true = sym not_so ∙ both in
    cc

blank_none : (c : ℕ) → starts_name c ≡ true → is_blank c ≡ true → ⊥
blank_none c h = neither (c == 32) ((c == 9) || ((c == 10) || (c == 13))) (not_at c 32 refl h)
    (neither (c == 9) ((c == 10) || (c == 13)) (not_at c 9 refl h)
    (neither (c == 10) (c == 13) (not_at c 10 refl h) (not_at c 13 refl h)))

true_not_false : (v : Bool) → v ≡ true → v ≡ false → ⊥
true_not_false v e f = let clash : true ≡ false = sym e ∙ f in cc

pub name_class : (c : ℕ) → starts_name c ≡ true → class_of c ≡ name
name_class c h = let P : Class → Type 0 = λ k. k ≡ name in
    on_cond P (is_blank c) _ _ (λ e. absurd (blank_none c h e)) (λ _.
    on_cond P (c == 34) _ _ (λ e. absurd (not_at c 34 refl h e)) (λ _.
    on_cond P (starts_name c) _ _ (λ _. refl) (λ e. absurd (true_not_false (starts_name c) h e))))

-- the keywords after a byte that begins a name
first_is : (c : ℕ) (bs : Bytes) → starts_name c ≡ true → keywords 0 (c ∷ bs) ≡ keywords 1 bs
first_is c bs h = ap (λ v. cond v (keywords 1 bs) 0) h

behind_first : (c : ℕ) (bs : Bytes) → starts_name c ≡ true → behind_name (c ∷ bs) ≡ behind_name bs
behind_first c bs h = behind_cons c bs (rw h refl)

none_first : (c : ℕ) (bs : Bytes) → starts_name c ≡ true → is_keyword_end (behind_name (c ∷ bs)) ≡ false
    → keywords 0 (c ∷ bs) ≡ 0
none_first c bs h e = first_is c bs h
    ∙ no_keyword 1 bs (omega arith) (subst (λ (l : Bytes). is_keyword_end l ≡ false) (behind_first c bs h) e)

first_none : (c : ℕ) (bs : Bytes) → starts_name c ≡ true → keywords 0 (c ∷ bs) ≡ 0
    → is_keyword_end (behind_name (c ∷ bs)) ≡ false
first_none c bs h e =
    let none : keywords 1 bs ≡ 0 = sym (first_is c bs h) ∙ e in
    let P : Bool → Type 0 = λ v. is_keyword_end (behind_name (c ∷ bs)) ≡ v → v ≡ false in
    elim (is_keyword_end (behind_name (c ∷ bs))) as P [
      | true ↦ λ t. let some : 1 < keywords 1 bs = some_keyword 1 bs (omega arith)
          (subst (λ (l : Bytes). is_keyword_end l ≡ true) (behind_first c bs h) t) in absurd (omega (arith, some, none))
      | false ↦ λ _. refl
    ] refl

words_same : (v w : Bool) (p q : ℕ)
    → cond v (token keyword (p + 1)) (token identifier p) ≡ cond w (token keyword (q + 1)) (token identifier q) → v ≡ w
words_same true true p q e = refl
words_same true false p q e = cc
words_same false true p q e = cc
words_same false false p q e = refl

named_same : (c : ℕ) (g back more : Bytes) → starts_name c ≡ true → piece (c ∷ g ++ 32 ∷ more) ≡ piece (c ∷ g ++ back)
    → is_keyword_end (behind_name (c ∷ g ++ 32 ∷ more)) ≡ is_keyword_end (behind_name (c ∷ g ++ back))
named_same c g back more h same =
    let both : word (c ∷ g ++ 32 ∷ more) ≡ word (c ∷ g ++ back) = subst
    (λ (k : Class). piece_in k c (g ++ 32 ∷ more) ≡ piece_in k c (g ++ back)) (name_class c h) same in
    words_same (is_keyword_end (behind_name (c ∷ g ++ 32 ∷ more))) (is_keyword_end (behind_name (c ∷ g ++ back)))
    (prefix_len is_name_byte (c ∷ g ++ 32 ∷ more)) (prefix_len is_name_byte (c ∷ g ++ back)) both

none_cut : (g back more : Bytes) → keywords 0 (g ++ back) ≡ 0 → Follows g back more → keywords 0 (g ++ 32 ∷ more) ≡ 0
none_cut [] back more e same = refl
none_cut (c ∷ g) back more e same =
    let P : Bool → Type 0 = λ v. starts_name c ≡ v → keywords 0 (c ∷ g ++ 32 ∷ more) ≡ 0 in
    elim (starts_name c) as P [
      | true ↦ λ h. none_first c (g ++ 32 ∷ more) h (named_same c g back more h same ∙ first_none c (g ++ back) h e)
      | false ↦ λ h. ap (λ v. cond v (keywords 1 (g ++ 32 ∷ more)) 0) h
    ] refl

keywords_above : (here : ℕ) (bs : Bytes) → 0 < keywords here bs → here < keywords here bs
keywords_above here [] h = absurd (omega (arith, h))
keywords_above here (b ∷ bs) h =
    let P : ℕ → Type 0 = λ n. 0 < n → here < n in
    on_cond P (name_goes_on here b) (keywords (here + 1) bs)
    (cond (nat_lt 0 here && is_keyword_end (b ∷ bs)) (here + 1 + keywords 0 bs) 0)
    (λ _ some. let more : here + 1 < keywords (here + 1) bs = keywords_above (here + 1) bs some in omega (arith, more))
    (λ _. on_cond P (nat_lt 0 here && is_keyword_end (b ∷ bs)) (here + 1 + keywords 0 bs) 0 (λ _ some. omega arith)
    (λ _ some. absurd (omega (arith, some)))) h

both_true : (a b : Bool) → a ≡ true → b ≡ true → (a && b) ≡ true
both_true true b e f = f
both_true false b e f = e

and_right : (a b : Bool) → (a && b) ≡ true → b ≡ true
and_right true b h = h
and_right false b h = absurd (true_not_false false h refl)

and_first : (a b : Bool) → (a && b) ≡ true → a ≡ true
and_first true b h = refl
and_first false b h = h

colon_stays : (here c : ℕ) (f back more : Bytes) (m : ℕ) (v : Bool)
    → (nat_lt 0 here && is_keyword_end (c ∷ f ++ back)) ≡ v
    → cond v (here + 1 + keywords 0 (f ++ back)) 0 ≡ here + suc m
    → (keywords 0 (f ++ back) ≡ m → keywords 0 (f ++ 32 ∷ more) ≡ m)
    → cond (nat_lt 0 here && is_keyword_end (c ∷ f ++ 32 ∷ more)) (here + 1 + keywords 0 (f ++ 32 ∷ more)) 0
    ≡ here + suc m
colon_stays here c f back more m false t h rest = absurd (omega (arith, h))
colon_stays here c f back more m true t h rest =
    let same : keywords 0 (f ++ 32 ∷ more) ≡ m = rest (omega (arith, h)) in
    let still : is_keyword_end (c ∷ f ++ 32 ∷ more)
    ≡ true = keyword_end_stays (c ∷ f) back more (omega arith)
    (and_right (nat_lt 0 here) (is_keyword_end (c ∷ f ++ back)) t) in
    let both : (nat_lt 0 here && is_keyword_end (c ∷ f ++ 32 ∷ more))
    ≡ true = both_true (nat_lt 0 here) (is_keyword_end (c ∷ f ++ 32 ∷ more))
    (and_first (nat_lt 0 here) (is_keyword_end (c ∷ f ++ back)) t) still in
    let sum : here + 1 + keywords 0 (f ++ 32 ∷ more) ≡ here + suc m = omega (arith, same) in
    ap (λ v. cond v (here + 1 + keywords 0 (f ++ 32 ∷ more)) 0) both ∙ sum

keywords_rest : (f back more : Bytes) (m : ℕ) → (0 < m → keywords 0 (f ++ 32 ∷ more) ≡ m) → keywords 0 (f ++ back) ≡ m
    → Follows (drop m f) back more → keywords 0 (f ++ 32 ∷ more) ≡ m
keywords_rest f back more zero some e same = none_cut f back more e same
keywords_rest f back more (suc m) some e same = some (omega arith)

keywords_cut : (here : ℕ) (f back more : Bytes) (m : ℕ) → keywords here (f ++ back) ≡ here + m → 0 < here + m
    → m ≤ length f → Follows (drop m f) back more → keywords here (f ++ 32 ∷ more) ≡ here + m
keywords_cut here [] back more m e some fits same = let above : here < keywords here back = keywords_above here back
    (omega (arith, e)) in absurd (omega (arith, above, e))
keywords_cut here (c ∷ f) back more zero e some fits same = let above : here < keywords here
    (c ∷ f ++ back) = keywords_above here (c ∷ f ++ back) (omega (arith, e)) in absurd (omega (arith, above, e))
keywords_cut here (c ∷ f) back more (suc m) e some fits same =
    elim (name_goes_on here c) as
    (λ v. cond v (keywords (here + 1) (f ++ back))
    (cond (nat_lt 0 here && is_keyword_end (c ∷ f ++ back)) (here + 1 + keywords 0 (f ++ back)) 0) ≡ here + suc m
    → cond v (keywords (here + 1) (f ++ 32 ∷ more))
    (cond (nat_lt 0 here && is_keyword_end (c ∷ f ++ 32 ∷ more)) (here + 1 + keywords 0 (f ++ 32 ∷ more)) 0)
    ≡ here + suc m) [
      | true ↦ λ h. let rest : keywords (here + 1) (f ++ 32 ∷ more)
          ≡ here + 1 + m = keywords_cut (here + 1) f back more m (omega (arith, h)) (omega arith)
          (omega arith) same in omega (arith, rest)
      | false ↦ λ h. colon_stays here c f back more m (nat_lt 0 here && is_keyword_end (c ∷ f ++ back)) refl h
          (λ l. keywords_rest f back more m
          (λ p. let deep : keywords 0 (f ++ 32 ∷ more)
          ≡ 0 + m = keywords_cut 0 f back more m (omega (arith, l)) (omega arith) (omega arith) same in omega
          (arith, deep)) l same)
    ] e

-- names and keywords after a `#`
positive : (k : ℕ) → (k == 0) ≡ false → 0 < k
positive zero h = absurd (true_not_false true refl h)
positive (suc k) h = omega arith

name_by : (v : Bool) (c : ℕ) (g back more : Bytes) (n : ℕ) → (keywords 0 (c ∷ g ++ back) == 0) ≡ v
    → starts_name c ≡ true → cond v (prefix_len is_name_byte (c ∷ g ++ back)) (keywords 0 (c ∷ g ++ back)) ≡ n
    → n ≤ length (c ∷ g) → Follows (drop n (c ∷ g)) back more → symbol_name (c ∷ g ++ 32 ∷ more) ≡ n
name_by true c g back more n t starts h fits same =
    let none : keywords 0 (c ∷ g ++ back) ≡ 0 = eqb-true (keywords 0 (c ∷ g ++ back)) 0 t in
    let len : prefix_len is_name_byte (c ∷ g ++ 32 ∷ more)
    ≡ prefix_len is_name_byte (c ∷ g ++ back) = prefix_cut is_name_byte (c ∷ g) back more refl
    (subst (λ (m : ℕ). m ≤ length (c ∷ g)) (sym h) fits) in
    let old : is_keyword_end (drop n (c ∷ g ++ back)) ≡ false = subst
    (λ (m : ℕ). is_keyword_end (drop m (c ∷ g ++ back)) ≡ false) h (first_none c (g ++ back) starts none) in
    let inner : is_keyword_end (drop n (c ∷ g) ++ back) ≡ false = subst
    (λ (l : Bytes). is_keyword_end l ≡ false) (drop-append-le n (c ∷ g) back fits) old in
    let stays : is_keyword_end (drop n (c ∷ g) ++ 32 ∷ more)
    ≡ false = keyword_end_stays_none (drop n (c ∷ g)) back more same inner in
    let outer : is_keyword_end (drop n (c ∷ g ++ 32 ∷ more)) ≡ false = subst
    (λ (l : Bytes). is_keyword_end l ≡ false) (sym (drop-append-le n (c ∷ g) (32 ∷ more) fits)) stays in
    let whole : is_keyword_end (behind_name (c ∷ g ++ 32 ∷ more)) ≡ false = subst
    (λ (m : ℕ). is_keyword_end (drop m (c ∷ g ++ 32 ∷ more)) ≡ false) (sym (len ∙ h)) outer in
    let still : keywords 0 (c ∷ g ++ 32 ∷ more) ≡ 0 = none_first c (g ++ 32 ∷ more) starts whole in
    ap (λ k. cond (k == 0) (prefix_len is_name_byte (c ∷ g ++ 32 ∷ more)) k) still ∙ (len ∙ h)
name_by false c g back more n t starts h fits same =
    let some : 0 < keywords 0 (c ∷ g ++ back) = positive (keywords 0 (c ∷ g ++ back)) t in
    let deep : keywords 0 (c ∷ g ++ 32 ∷ more)
    ≡ 0 + n = keywords_cut 0 (c ∷ g) back more n (omega (arith, h)) (omega (arith, h, some)) fits same in
    let is : keywords 0 (c ∷ g ++ 32 ∷ more) ≡ n = omega (arith, deep) in
    let not_none : (n == 0) ≡ false = subst (λ (k : ℕ). (k == 0) ≡ false) h t in
    ap (λ k. cond (k == 0) (prefix_len is_name_byte (c ∷ g ++ 32 ∷ more)) k) is
    ∙ ap (λ v. cond v (prefix_len is_name_byte (c ∷ g ++ 32 ∷ more)) n) not_none

pub bad_none : (r : TokenRule) (k : Kind) (n : ℕ) → bad r ≡ token k n → ⊥
bad_none r k n e = cc

sized_len : (size n : ℕ) (k : Kind) (m : ℕ) → sized size n ≡ token k m → n ≡ m
sized_len size n k m h = let P : Piece → Type 0 = λ q. q ≡ token k m → n ≡ m in
    on_cond P (nat_le size SYMBOL_LIMIT) (token symbol n) (bad p3) (λ _ e. token_len symbol k n m e)
    (λ _ e. absurd (bad_none p3 k m e)) h

named_cut : (c : ℕ) (g back more : Bytes) (k : Kind) (m : ℕ) → starts_name c ≡ true
    → sized (symbol_name (c ∷ g ++ back)) (symbol_name (c ∷ g ++ back) + 1) ≡ token k (suc m)
    → m ≤ length (c ∷ g) → Follows (drop m (c ∷ g)) back more
    → sized (symbol_name (c ∷ g ++ 32 ∷ more)) (symbol_name (c ∷ g ++ 32 ∷ more) + 1) ≡ token k (suc m)
named_cut c g back more k m starts h fits same =
    let len : symbol_name (c ∷ g ++ back) + 1
    ≡ suc m = sized_len (symbol_name (c ∷ g ++ back)) (symbol_name (c ∷ g ++ back) + 1) k (suc m) h in
    let is : symbol_name (c ∷ g ++ back) ≡ m = omega (arith, len) in
    let new : symbol_name (c ∷ g ++ 32 ∷ more)
    ≡ m = name_by (keywords 0 (c ∷ g ++ back) == 0) c g back more m refl starts is fits same in
    let both : symbol_name (c ∷ g ++ 32 ∷ more) ≡ symbol_name (c ∷ g ++ back) = new ∙ sym is in
    ap (λ s. sized s (s + 1)) both ∙ h

-- strings and operators after a `#`
quoted_cut : (o : Option ℕ) (g back more : Bytes) (k : Kind) (m : ℕ) → string_end false (g ++ back) ≡ o
    → quoted_symbol (length (string_bytes false (g ++ back))) o ≡ token k (suc m)
    → m ≤ suc (length g) → quoted_symbol (length (string_bytes false (g ++ 32 ∷ more)))
    (string_end false (g ++ 32 ∷ more)) ≡ token k (suc m)
quoted_cut (Some j) g back more k m e h fits =
    let len : j + 2 ≡ suc m = sized_len (length (string_bytes false (g ++ back))) (j + 2) k (suc m) h in
    let same : SameString false g back more j = string_cut false g back more j e (omega (arith, len)) in
    ap (λ o. quoted_symbol (length (string_bytes false (g ++ 32 ∷ more))) o) same.ends
    ∙ ap (λ l. quoted_symbol (length l) (Some j)) same.bytes ∙ h
quoted_cut None g back more k m e h fits = absurd (bad_none p2 k (suc m) h)

pub binary_cut : (g back more : Bytes) → binary_len (g ++ back) ≤ suc (length g)
    → binary_len (g ++ 32 ∷ more) ≡ binary_len (g ++ back)
binary_cut [] back more h = let P : ℕ → Type 0 = λ n. n ≤ 1 → 1 ≡ n in
    on_cond P (begins is_second back) 2 1 (λ _ e. absurd (omega (arith, e))) (λ _ e. refl) h
binary_cut (d ∷ g) back more h = refl

either_side : (t u : Bool) (x q s w z : Piece) → (q ≡ z → s ≡ z) → cond t x (cond u q w) ≡ z → cond t x (cond u s w) ≡ z
either_side true u x q s w z f h = h
either_side false true x q s w z f h = f h
either_side false false x q s w z f h = h

-- a symbol that is no name
abbrev unnamed : Bytes → Piece
unnamed rest = cond (begins is_operator rest) (token symbol (binary_len (drop 1 rest) + 1))
    (cond (begins_with 124 rest) (token symbol 2)
    (cond (begins_with 39 rest)
    (quoted_symbol (length (string_bytes false (drop 1 rest))) (string_end false (drop 1 rest)))
    (cond (begins_with 40 rest) (token open_array 2)
    (bad p2))))

-- and that is no operator
abbrev marked : (c : ℕ) → Bytes → Piece
marked c rest = cond (c == 124) (token symbol 2)
    (cond (c == 39) (quoted_symbol (length (string_bytes false rest)) (string_end false rest))
    (cond (c == 40) (token open_array 2) (bad p2)))

marked_cut : (c : ℕ) (g back more : Bytes) (k : Kind) (m : ℕ) → m ≤ suc (length g)
    → marked c (g ++ back) ≡ token k (suc m) → marked c (g ++ 32 ∷ more) ≡ token k (suc m)
marked_cut c g back more k m fits = either_side (c == 124) (c == 39) (token symbol 2)
    (quoted_symbol (length (string_bytes false (g ++ back))) (string_end false (g ++ back)))
    (quoted_symbol (length (string_bytes false (g ++ 32 ∷ more))) (string_end false (g ++ 32 ∷ more)))
    (cond (c == 40) (token open_array 2) (bad p2)) (token k (suc m))
    (λ h. quoted_cut (string_end false (g ++ back)) g back more k m refl h fits)

unnamed_cut : (c : ℕ) (g back more : Bytes) (k : Kind) (m : ℕ) → m ≤ suc (length g)
    → unnamed (c ∷ g ++ back) ≡ token k (suc m) → unnamed (c ∷ g ++ 32 ∷ more) ≡ token k (suc m)
unnamed_cut c g back more k m fits =
    elim (is_operator c) as (λ v. cond v (token symbol (binary_len (g ++ back) + 1)) (marked c (g ++ back))
    ≡ token k (suc m) → cond v (token symbol (binary_len (g ++ 32 ∷ more) + 1)) (marked c (g ++ 32 ∷ more))
    ≡ token k (suc m)) [
      | true ↦ λ h. let len : binary_len (g ++ back) + 1
          ≡ suc m = token_len symbol k (binary_len (g ++ back) + 1) (suc m) h in
          let same : binary_len (g ++ 32 ∷ more)
          ≡ binary_len (g ++ back) = binary_cut g back more (omega (arith, len)) in
          ap (λ n. token symbol (n + 1)) same ∙ h
      | false ↦ λ h. marked_cut c g back more k m fits h
    ]

symbol_by : (v : Bool) (c : ℕ) (g back more : Bytes) (k : Kind) (m : ℕ) → starts_name c ≡ v
    → cond v (sized (symbol_name (c ∷ g ++ back)) (symbol_name (c ∷ g ++ back) + 1)) (unnamed (c ∷ g ++ back))
    ≡ token k (suc m)
    → m ≤ length (c ∷ g) → Follows (drop m (c ∷ g)) back more
    → cond v (sized (symbol_name (c ∷ g ++ 32 ∷ more)) (symbol_name (c ∷ g ++ 32 ∷ more) + 1))
    (unnamed (c ∷ g ++ 32 ∷ more)) ≡ token k (suc m)
symbol_by true c g back more k m e h fits same = named_cut c g back more k m e h fits same
symbol_by false c g back more k m e h fits same = unnamed_cut c g back more k m fits h

prefix_some : (rest : Bytes) → begins starts_name rest ≡ true → 0 < prefix_len is_name_byte rest
prefix_some [] h = absurd (true_not_false false h refl)
prefix_some (b ∷ bs) h = first_counts is_name_byte b bs (rw h refl)

symbol_name_some : (rest : Bytes) → begins starts_name rest ≡ true → 0 < symbol_name rest
symbol_name_some rest h = let P : ℕ → Type 0 = λ n. 0 < n in
    on_cond P (keywords 0 rest == 0) (prefix_len is_name_byte rest) (keywords 0 rest) (λ _. prefix_some rest h)
    (λ e. positive (keywords 0 rest) e)

quoted_long : (size : ℕ) (o : Option ℕ) (k : Kind) (n : ℕ) → quoted_symbol size o ≡ token k n → 2 ≤ n
quoted_long size (Some j) k n e = omega (arith, sized_len size (j + 2) k n e)
quoted_long size None k n e = absurd (bad_none p2 k n e)

pub symbol_long : (rest : Bytes) (k : Kind) (n : ℕ) → symbol_at rest ≡ token k n → 2 ≤ n
symbol_long rest k n h = let P : Piece → Type 0 = λ q. q ≡ token k n → 2 ≤ n in
    on_cond P (begins starts_name rest) (sized (symbol_name rest) (symbol_name rest + 1)) (unnamed rest)
    (λ t e. omega (arith, sized_len (symbol_name rest) (symbol_name rest + 1) k n e, symbol_name_some rest t)) (λ _.
    on_cond P (begins is_operator rest) (token symbol (binary_len (drop 1 rest) + 1)) _
    (λ _ e. omega (arith, token_len symbol k (binary_len (drop 1 rest) + 1) n e, binary_some (drop 1 rest))) (λ _.
    on_cond P (begins_with 124 rest) (token symbol 2) _ (λ _ e. omega (arith, token_len symbol k 2 n e)) (λ _.
    on_cond P (begins_with 39 rest) _ _
    (λ _ e. quoted_long (length (string_bytes false (drop 1 rest))) (string_end false (drop 1 rest)) k n e) (λ _.
    on_cond P (begins_with 40 rest) (token open_array 2) (bad p2) (λ _ e. omega (arith, token_len open_array k 2 n e))
    (λ _ e. absurd (bad_none p2 k n e)))))) h

pub symbol_cut : (f back more : Bytes) (k : Kind) (m : ℕ) → symbol_at (f ++ back) ≡ token k (suc m) → m ≤ length f
    → Follows (drop m f) back more → symbol_at (f ++ 32 ∷ more) ≡ token k (suc m)
symbol_cut [] back more k m h fits same = absurd (omega (arith, symbol_long back k (suc m) h))
symbol_cut (c ∷ g) back more k m h fits same = symbol_by (starts_name c) c g back more k m refl h fits same
