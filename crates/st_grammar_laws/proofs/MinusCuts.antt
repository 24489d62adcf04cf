-- What stands before a `-` stays what it is whatever follows the `-`.
use Rattle.std.proofs.Common.{◌≡◌, ℕ, suc, ◌+◌, ◌<◌, ◌≤◌, ◌^◌, Bool, true, false, cond, Option, Some, None, [], ◌∷◌}
use Rattle.std.proofs.Common.{◌++◌, length, take, drop, refl, sym, ap, ap₂, ◌∙◌, subst, arith}
use Rattle.std.specs.Prelude.{nat_lt, nat_le, ◌==◌, ◌&&◌}
use Rattle.std.specs.List.{prefix_len}
use Rattle.std.specs.Char.{is_ascii_digit}
use Rattle.std.proofs.lemmas.List.{take-append-le, drop-append-le}
use Rattle.std.proofs.Math.Seq.{drop-drop}
use Rattle.texts.specs.Bytes.{Bytes}
use Rattle.texts.specs.NameBytes.{starts_name, is_name_byte}
use Rattle.texts.specs.declared.integers.TheConstants.{INTEGER_LIMIT}
use Rattle.texts.specs.declared.limits.TheConstants.{SYMBOL_LIMIT}
use Rattle.st_grammar.specs.Tokens.{Kind, Piece, gap, token, bad, p2, p3, string, binary, symbol, keyword, identifier}
use Rattle.st_grammar.specs.Tokens.{number, Class, blank, comment, name, digit, quote, dollar, hash, operator}
use Rattle.st_grammar.specs.Tokens.{colon_mark, other, begins_with, later, comment_end, string_end, string_bytes}
use Rattle.st_grammar.specs.Tokens.{name_goes_on, keywords, is_keyword_end, is_operator, is_radix_digit, word}
use Rattle.st_grammar.specs.Tokens.{ends_number, number_before, number_in, number_after, number_at, value_of}
use Rattle.st_grammar.specs.Tokens.{are_digits, sized, symbol_name, quoted_symbol, binary_len, symbol_at, character_at}
use Rattle.st_grammar.specs.Tokens.{comment_to, string_to, colon_before, class_of, piece_in, piece}
use Rattle.st_lexer.proofs.Sizes.{on_cond, Inside, inside}
use Rattle.st_lexer.proofs.Cuts.{number_tail, after_is}
use Rattle.st_lexer.proofs.QuoteCuts.{later_one, open_some, comment_cut}
use Rattle.st_lexer.proofs.SymbolCuts.{bad_none, symbol_long}
use Rattle.st_lexer.proofs.PieceCuts.{no_gap, solid_symbol, gap_none, comment_none}
use Rattle.st_lexer.proofs.Once.{token_len}

-- runs of bytes that a `-` ends
prefix_alike : (p : ℕ → Bool) (g x y : Bytes) → p 45 ≡ false → prefix_len p (g ++ 45 ∷ x) ≡ prefix_len p (g ++ 45 ∷ y)
prefix_alike p [] x y stops = rw stops refl
prefix_alike p (b ∷ f) x y stops = ap (λ n. cond (p b) (1 + n) 0) (prefix_alike p f x y stops)

prefix_short : (p : ℕ → Bool) (g x : Bytes) → p 45 ≡ false → prefix_len p (g ++ 45 ∷ x) ≤ length g
prefix_short p [] x stops = rw stops (omega arith)
prefix_short p (b ∷ f) x stops =
    let rest : prefix_len p (f ++ 45 ∷ x) ≤ length f = prefix_short p f x stops in
    on_cond (λ (n : ℕ). n ≤ suc (length f)) (p b) (1 + prefix_len p (f ++ 45 ∷ x)) 0 (λ _. omega arith)
    (λ _. omega arith)

-- names and keywords
end_alike : (g x y : Bytes) → is_keyword_end (g ++ 45 ∷ x) ≡ is_keyword_end (g ++ 45 ∷ y)
end_alike [] x y = refl
end_alike (c ∷ []) x y = refl
end_alike (c ∷ d ∷ g) x y = refl

abbrev word_by : ℕ → Bool → Piece
word_by n ends = cond ends (token keyword (n + 1)) (token identifier n)

end_behind : (n : ℕ) (g x y : Bytes) → n ≤ length g
    → is_keyword_end (drop n (g ++ 45 ∷ x)) ≡ is_keyword_end (drop n (g ++ 45 ∷ y))
end_behind n g x y fits = ap is_keyword_end (drop-append-le n g (45 ∷ x) fits) ∙ end_alike (drop n g) x y
    ∙ ap is_keyword_end (sym (drop-append-le n g (45 ∷ y) fits))

word_alike : (g x y : Bytes) → word (g ++ 45 ∷ x) ≡ word (g ++ 45 ∷ y)
word_alike g x y =
    let short : prefix_len is_name_byte (g ++ 45 ∷ x) ≤ length g = prefix_short is_name_byte g x refl in
    ap (word_by (prefix_len is_name_byte (g ++ 45 ∷ x)))
    (end_behind (prefix_len is_name_byte (g ++ 45 ∷ x)) g x y short)
    ∙ ap (λ n. word_by n (is_keyword_end (drop n (g ++ 45 ∷ y)))) (prefix_alike is_name_byte g x y refl)

no_name : (here : ℕ) → name_goes_on here 45 ≡ false
no_name here = on_cond (λ b. b ≡ false) (here == 0) (starts_name 45) (is_name_byte 45) (λ _. refl) (λ _. refl)

keywords_alike : (here : ℕ) (g x y : Bytes) → keywords here (g ++ 45 ∷ x) ≡ keywords here (g ++ 45 ∷ y)
keywords_alike here [] x y = none x ∙ sym (none y) where
  and_false : (a : Bool) → (a && false) ≡ false
  and_false true = refl
  and_false false = refl

  none : (z : Bytes) → keywords here (45 ∷ z) ≡ 0
  none z = ap (λ b. cond b (keywords (here + 1) z) (cond (nat_lt 0 here && false) (here + 1 + keywords 0 z) 0))
      (no_name here) ∙ ap (λ b. cond b (here + 1 + keywords 0 z) 0) (and_false (nat_lt 0 here))
keywords_alike here (c ∷ g) x y =
    ap₂ (λ n m. cond (name_goes_on here c) n
    (cond (nat_lt 0 here && is_keyword_end (c ∷ g ++ 45 ∷ x)) (here + 1 + m) 0)) (keywords_alike (here + 1) g x y)
    (keywords_alike 0 g x y)
    ∙ ap (λ b. cond (name_goes_on here c) (keywords (here + 1) (g ++ 45 ∷ y))
    (cond (nat_lt 0 here && b) (here + 1 + keywords 0 (g ++ 45 ∷ y)) 0)) (end_alike (c ∷ g) x y)

-- numbers
ends_alike : (g x y : Bytes) → ends_number (g ++ 45 ∷ x) ≡ ends_number (g ++ 45 ∷ y)
ends_alike [] x y = refl
ends_alike (c ∷ []) x y = refl
ends_alike (c ∷ d ∷ g) x y = refl

before_alike : (n value : ℕ) (g x y : Bytes) → number_before n value (g ++ 45 ∷ x) ≡ number_before n value (g ++ 45 ∷ y)
before_alike n value g x y = ap
    (λ b. cond (b && nat_lt value INTEGER_LIMIT) (token number n) (bad p3)) (ends_alike g x y)

abbrev read_in : (radix n d : ℕ) (digits after : Bytes) → Piece
read_in radix n d digits after = cond (are_digits radix digits) (number_before (n + d) (value_of radix digits) after)
    (bad p3)

in_alike : (radix n : ℕ) (g x y : Bytes) → number_in radix n (g ++ 45 ∷ x) ≡ number_in radix n (g ++ 45 ∷ y)
in_alike radix n g x y =
    let d : ℕ = prefix_len is_radix_digit (g ++ 45 ∷ x) in
    let short : d ≤ length g = prefix_short is_radix_digit g x refl in
    ap₂ (read_in radix n d) (take-append-le d g (45 ∷ x) short) (drop-append-le d g (45 ∷ x) short)
    ∙ ap (λ q. cond (are_digits radix (take d g)) q (bad p3))
    (before_alike (n + d) (value_of radix (take d g)) (drop d g) x y)
    ∙ ap₂ (read_in radix n d) (sym (take-append-le d g (45 ∷ y) short)) (sym (drop-append-le d g (45 ∷ y) short))
    ∙ ap (λ e. read_in radix n e (take e (g ++ 45 ∷ y)) (drop e (g ++ 45 ∷ y))) (prefix_alike is_radix_digit g x y refl)

tail_alike : (value m : ℕ) (g x y : Bytes) → number_tail value m (g ++ 45 ∷ x) ≡ number_tail value m (g ++ 45 ∷ y)
tail_alike value m [] x y = before_alike m value [] x y
tail_alike value m (c ∷ g) x y = ap₂
    (λ p q. cond (c == 114) p q) (in_alike value (m + 1) g x y) (before_alike m value (c ∷ g) x y)

number_alike : (g x y : Bytes) → number_at (g ++ 45 ∷ x) ≡ number_at (g ++ 45 ∷ y)
number_alike g x y =
    let m : ℕ = prefix_len is_ascii_digit (g ++ 45 ∷ x) in
    let short : m ≤ length g = prefix_short is_ascii_digit g x refl in
    after_is m g (45 ∷ x) short ∙ tail_alike (value_of 10 (take m g)) m (drop m g) x y
    ∙ sym (after_is m g (45 ∷ y) short)
    ∙ ap (λ n. number_after n (g ++ 45 ∷ y)) (prefix_alike is_ascii_digit g x y refl)

-- strings
record SameQuote (quoted : Bool) (f x y : Bytes) (m : ℕ) : Type 0 where
  pub ends : string_end quoted (f ++ 45 ∷ y) ≡ Some m
  pub bytes : string_bytes quoted (f ++ 45 ∷ y) ≡ string_bytes quoted (f ++ 45 ∷ x)

same_byte : (v : Bool) (c : ℕ) (f x y : Bytes) → string_bytes v (f ++ 45 ∷ y) ≡ string_bytes v (f ++ 45 ∷ x)
    → cond v (string_bytes true (f ++ 45 ∷ y)) (c ∷ string_bytes false (f ++ 45 ∷ y))
    ≡ cond v (string_bytes true (f ++ 45 ∷ x)) (c ∷ string_bytes false (f ++ 45 ∷ x))
same_byte true c f x y h = h
same_byte false c f x y h = ap (λ l. c ∷ l) h

abbrev SameBy : Bool → Bytes → Bytes → Bytes → ℕ → Type 0
SameBy v f x y m = (cond v (later 1 (string_end false (f ++ 45 ∷ y))) (Some 0) ≡ Some m)
    × (cond v (39 ∷ string_bytes false (f ++ 45 ∷ y)) [] ≡ cond v (39 ∷ string_bytes false (f ++ 45 ∷ x)) [])

quoted_by : (v : Bool) (f x y : Bytes) (m : ℕ) → cond v (later 1 (string_end false (f ++ 45 ∷ x))) (Some 0) ≡ Some m
    → ((n : ℕ) → string_end false (f ++ 45 ∷ x) ≡ Some n → n ≤ length f → SameQuote false f x y n) → m ≤ suc (length f)
    → SameBy v f x y m
quoted_by true f x y m e rest fits =
    let k = later_one (string_end false (f ++ 45 ∷ x)) m e in
    let same = rest k.0 k.1.0 (omega (arith, k.1.1)) in
    (ap (later 1) same.ends ∙ ap Some k.1.1, ap (λ l. 39 ∷ l) same.bytes)
quoted_by false f x y m e rest fits = (e, refl)

string_alike : (quoted : Bool) (f x y : Bytes) (m : ℕ) → string_end quoted (f ++ 45 ∷ x) ≡ Some m → m ≤ length f
    → SameQuote quoted f x y m
string_alike false [] x y m e fits = absurd (omega (arith, open_some (45 ∷ x) m e))
string_alike true [] x y m e fits = record { ends = e; bytes = refl }
string_alike false (c ∷ f) x y m e fits =
    let k = later_one (string_end (c == 39) (f ++ 45 ∷ x)) m e in
    let rest : SameQuote (c == 39) f x y k.0 = string_alike (c == 39) f x y k.0 k.1.0 (omega (arith, k.1.1)) in
    record { ends = ap (later 1) rest.ends ∙ ap Some k.1.1; bytes = same_byte (c == 39) c f x y rest.bytes }
string_alike true (c ∷ f) x y m e fits =
    let both : SameBy (c == 39) f x y m = quoted_by (c == 39) f x y m e
    (λ n h short. string_alike false f x y n h short) fits in
    record { ends = both.0; bytes = both.1 }

string_piece : (o : Option ℕ) (f x y : Bytes) (k : Kind) (n : ℕ) → string_end false (f ++ 45 ∷ x) ≡ o
    → string_to o ≡ token k n → n ≤ suc (length f) → string_to (string_end false (f ++ 45 ∷ y)) ≡ token k n
string_piece (Some j) f x y k n e h fits =
    let len : j + 1 ≡ n = token_len string k (j + 1) n h in
    let same : SameQuote false f x y j = string_alike false f x y j e (omega (arith, len)) in
    ap string_to same.ends ∙ h
string_piece None f x y k n e h fits = absurd (bad_none p2 k n h)

-- symbols
binary_alike : (g x y : Bytes) → binary_len (g ++ 45 ∷ x) ≡ binary_len (g ++ 45 ∷ y)
binary_alike [] x y = refl
binary_alike (c ∷ g) x y = refl

sized_len : (size m : ℕ) (k : Kind) (n : ℕ) → sized size m ≡ token k n → m ≡ n
sized_len size m k n =
    let P : Piece → Type 0 = λ q. q ≡ token k n → m ≡ n in
    on_cond P (nat_le size SYMBOL_LIMIT) (token symbol m) (bad p3) (λ _ e. token_len symbol k m n e)
    (λ _ e. absurd (bad_none p3 k n e))

quoted_piece : (o : Option ℕ) (f x y : Bytes) (k : Kind) (n : ℕ) → string_end false (f ++ 45 ∷ x) ≡ o
    → quoted_symbol (length (string_bytes false (f ++ 45 ∷ x))) o ≡ token k n → n ≤ suc (suc (length f))
    → quoted_symbol (length (string_bytes false (f ++ 45 ∷ y))) (string_end false (f ++ 45 ∷ y)) ≡ token k n
quoted_piece (Some j) f x y k n e h fits =
    let len : j + 2 ≡ n = sized_len (length (string_bytes false (f ++ 45 ∷ x))) (j + 2) k n h in
    let same : SameQuote false f x y j = string_alike false f x y j e (omega (arith, len)) in
    ap₂ (λ (bytes : Bytes) (o : Option ℕ). quoted_symbol (length bytes) o) same.bytes same.ends ∙ h
quoted_piece None f x y k n e h fits = absurd (bad_none p2 k n h)

choice_keeps : {X : Type 0} (b : Bool) (p q p' q' z : X) → (p ≡ z → p' ≡ z) → (q ≡ z → q' ≡ z) → cond b p q ≡ z
    → cond b p' q' ≡ z
choice_keeps true p q p' q' z f g h = f h
choice_keeps false p q p' q' z f g h = g h

name_alike : (g x y : Bytes) → symbol_name (g ++ 45 ∷ x) ≡ symbol_name (g ++ 45 ∷ y)
name_alike g x y = ap₂ (λ n m. cond (n == 0) m n) (keywords_alike 0 g x y) (prefix_alike is_name_byte g x y refl)

symbol_piece : (f x y : Bytes) (k : Kind) (n : ℕ) → symbol_at (f ++ 45 ∷ x) ≡ token k n → n ≤ suc (length f)
    → symbol_at (f ++ 45 ∷ y) ≡ token k n
symbol_piece [] x y k n h fits = absurd (omega (arith, symbol_long (45 ∷ x) k n h))
symbol_piece (c ∷ f) x y k n h fits =
    choice_keeps (starts_name c) _ _ _ _ (token k n) (λ e. ap (λ m. sized m (m + 1)) (name_alike (c ∷ f) y x) ∙ e)
    (choice_keeps (is_operator c) _ _ _ _ (token k n) (λ e. ap (λ m. token symbol (m + 1)) (binary_alike f y x) ∙ e)
    (choice_keeps (c == 124) _ _ _ _ (token k n) (λ e. e)
    (choice_keeps (c == 39) _ _ _ _ (token k n)
    (λ e. quoted_piece (string_end false (f ++ 45 ∷ x)) f x y k n refl e fits)
    (λ e. e)))) h

-- one byte and what follows
character_alike : (g x y : Bytes) → character_at (g ++ 45 ∷ x) ≡ character_at (g ++ 45 ∷ y)
character_alike [] x y = refl
character_alike (c ∷ g) x y = refl

colon_alike : (g x y : Bytes) → colon_before (g ++ 45 ∷ x) ≡ colon_before (g ++ 45 ∷ y)
colon_alike [] x y = refl
colon_alike (c ∷ g) x y = refl

no_token : (k : Kind) (m n : ℕ) → token k m ≡ gap n → ⊥
no_token k m n e = cc

no_bad : (n : ℕ) → bad p2 ≡ gap n → ⊥
no_bad n e = cc

gap_len : (i m : ℕ) → gap i ≡ gap m → i ≡ m
gap_len i m e = cc

token_in : (c : Class) (b : ℕ) (f x y : Bytes) (k : Kind) (n : ℕ) → piece_in c b (f ++ 45 ∷ x) ≡ token k n
    → n ≤ suc (length f) → piece_in c b (f ++ 45 ∷ y) ≡ token k n
token_in blank b f x y k n h fits = h
token_in comment b f x y k n h fits = absurd (comment_none (comment_end (f ++ 45 ∷ x)) k n h)
token_in name b f x y k n h fits = word_alike (b ∷ f) y x ∙ h
token_in digit b f x y k n h fits = number_alike (b ∷ f) y x ∙ h
token_in quote b f x y k n h fits = string_piece (string_end false (f ++ 45 ∷ x)) f x y k n refl h fits
token_in dollar b f x y k n h fits = character_alike f y x ∙ h
token_in hash b f x y k n h fits = symbol_piece f x y k n h fits
token_in operator b f x y k n h fits = ap (λ m. token binary m) (binary_alike f y x) ∙ h
token_in colon_mark b f x y k n h fits = colon_alike f y x ∙ h
token_in other b f x y k n h fits = h

pub token_before : (g x y : Bytes) (k : Kind) (n : ℕ) → piece (g ++ 45 ∷ x) ≡ token k n → n ≤ length g
    → piece (g ++ 45 ∷ y) ≡ token k n
token_before [] x y k n h fits =
    let some : (0 < n) × (n ≤ length (45 ∷ x)) = subst (Inside (length (45 ∷ x))) h (inside (45 ∷ x)) in
    absurd (omega (arith, some.0))
token_before (b ∷ f) x y k n h fits = token_in (class_of b) b f x y k n h fits

comment_gap : (o : Option ℕ) (f x y : Bytes) (n : ℕ) → comment_end (f ++ 45 ∷ x) ≡ o → comment_to o ≡ gap n
    → n ≤ suc (length f) → comment_to (comment_end (f ++ 45 ∷ y)) ≡ gap n
comment_gap (Some j) f x y n e h fits =
    let len : j + 1 ≡ n = gap_len (j + 1) n h in
    ap comment_to (comment_cut f (45 ∷ x) (45 ∷ y) j e (omega (arith, len))) ∙ h
comment_gap None f x y n e h fits = absurd (no_bad n h)

string_gap : (o : Option ℕ) (n : ℕ) → string_to o ≡ gap n → ⊥
string_gap (Some m) n e = no_token string (m + 1) n e
string_gap None n e = no_bad n e

gap_in : (c : Class) (b : ℕ) (f x y : Bytes) (n : ℕ) → piece_in c b (f ++ 45 ∷ x) ≡ gap n → n ≤ suc (length f)
    → piece_in c b (f ++ 45 ∷ y) ≡ gap n
gap_in blank b f x y n h fits = h
gap_in comment b f x y n h fits = comment_gap (comment_end (f ++ 45 ∷ x)) f x y n refl h fits
gap_in name b f x y n h fits = word_alike (b ∷ f) y x ∙ h
gap_in digit b f x y n h fits = number_alike (b ∷ f) y x ∙ h
gap_in quote b f x y n h fits = absurd (string_gap (string_end false (f ++ 45 ∷ x)) n h)
gap_in dollar b f x y n h fits = character_alike f y x ∙ h
gap_in hash b f x y n h fits = absurd (no_gap (symbol_at (f ++ 45 ∷ x)) n (solid_symbol (f ++ 45 ∷ x)) h)
gap_in operator b f x y n h fits = absurd (no_token binary (binary_len (f ++ 45 ∷ x)) n h)
gap_in colon_mark b f x y n h fits = colon_alike f y x ∙ h
gap_in other b f x y n h fits = h

pub gap_before : (g x y : Bytes) (n : ℕ) → piece (g ++ 45 ∷ x) ≡ gap n → n ≤ length g → piece (g ++ 45 ∷ y) ≡ gap n
gap_before [] x y n h fits =
    let some : (0 < n) × (n ≤ length (45 ∷ x)) = subst (Inside (length (45 ∷ x))) h (inside (45 ∷ x)) in
    absurd (omega (arith, some.0))
gap_before (b ∷ f) x y n h fits = gap_in (class_of b) b f x y n h fits
