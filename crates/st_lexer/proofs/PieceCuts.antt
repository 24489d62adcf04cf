-- Each piece of a text stays what it is where the text is cut after it, or after a token that follows.
use Rattle.std.proofs.Common.{◌≡◌, ℕ, zero, suc, ◌+◌, ◌<◌, ◌≤◌, ◌^◌, false, Option, Some, None, [], ◌∷◌, ◌++◌, length}
use Rattle.std.proofs.Common.{take, drop, refl, ap, ◌∙◌, subst, arith}
use Rattle.std.specs.Prelude.{nat_lt, nat_le, ◌==◌, ◌&&◌}
use Rattle.std.specs.List.{prefix_len}
use Rattle.std.specs.Char.{is_ascii_digit}
use Rattle.texts.specs.Bytes.{Bytes}
use Rattle.texts.specs.NameBytes.{starts_name, is_name_byte}
use Rattle.texts.specs.declared.integers.TheConstants.{INTEGER_LIMIT}
use Rattle.texts.specs.declared.limits.TheConstants.{SYMBOL_LIMIT}
use Rattle.st_grammar.specs.Tokens.{Kind, Piece, end, gap, token, bad, p2, p3, string, binary, character, colon, assign}
use Rattle.st_grammar.specs.Tokens.{symbol, keyword, identifier, number, Class, blank, comment, name, digit, quote}
use Rattle.st_grammar.specs.Tokens.{dollar, hash, operator, colon_mark, other, begins, begins_with, comment_end}
use Rattle.st_grammar.specs.Tokens.{string_end, string_bytes, is_keyword_end, is_operator, is_radix_digit, word}
use Rattle.st_grammar.specs.Tokens.{ends_number, number_before, number_in, number_after, number_at, value_of}
use Rattle.st_grammar.specs.Tokens.{are_digits, sized, symbol_name, quoted_symbol, binary_len, symbol_at, character_at}
use Rattle.st_grammar.specs.Tokens.{comment_to, string_to, colon_before, mark, class_of, piece_in, piece}
use Rattle.st_lexer.proofs.Sizes.{on_cond, Inside, inside}
use Rattle.st_lexer.proofs.Cuts.{Follows, word_cut, number_cut}
use Rattle.st_lexer.proofs.QuoteCuts.{SameString, string_cut, comment_cut}
use Rattle.st_lexer.proofs.SymbolCuts.{bad_none, binary_cut, symbol_long, symbol_cut}
use Rattle.st_lexer.proofs.Once.{gap_len, token_len}

pub gap_none : (m : ℕ) (k : Kind) (n : ℕ) → gap m ≡ token k n → ⊥
gap_none m k n e = cc

pub comment_none : (o : Option ℕ) (k : Kind) (n : ℕ) → comment_to o ≡ token k n → ⊥
comment_none (Some m) k n e = gap_none (m + 1) k n e
comment_none None k n e = bad_none p2 k n e

string_piece : (o : Option ℕ) (f back more : Bytes) (k : Kind) (n : ℕ) → string_end false (f ++ back) ≡ o
    → string_to o ≡ token k n → n ≤ suc (length f) → string_to (string_end false (f ++ 32 ∷ more)) ≡ token k n
string_piece (Some j) f back more k n e h fits =
    let len : j + 1 ≡ n = token_len string k (j + 1) n h in
    let same : SameString false f back more j = string_cut false f back more j e (omega (arith, len)) in
    ap string_to same.ends ∙ h
string_piece None f back more k n e h fits = absurd (bad_none p2 k n h)

character_cut : (f back more : Bytes) (k : Kind) (n : ℕ) → character_at (f ++ back) ≡ token k n → n ≤ suc (length f)
    → character_at (f ++ 32 ∷ more) ≡ token k n
character_cut [] back more k n h fits = let P : Piece → Type 0 = λ q. q ≡ token k n
    → character_at (32 ∷ more) ≡ token k n in
    on_cond P (begins (λ b. nat_le 32 b && nat_le b 126) back) (token character 2) (bad p2)
    (λ _ e. absurd (omega (arith, token_len character k 2 n e))) (λ _ e. absurd (bad_none p2 k n e)) h
character_cut (c ∷ f) back more k n h fits = h

colon_piece : (f back more : Bytes) (k : Kind) (n : ℕ) → colon_before (f ++ back) ≡ token k n → n ≤ suc (length f)
    → colon_before (f ++ 32 ∷ more) ≡ token k n
colon_piece [] back more k n h fits = let P : Piece → Type 0 = λ q. q ≡ token k n → token colon 1 ≡ token k n in
    on_cond P (begins_with 61 back) (token assign 2) (token colon 1)
    (λ _ e. absurd (omega (arith, token_len assign k 2 n e))) (λ _ e. e) h
colon_piece (c ∷ f) back more k n h fits = h

hash_piece : (b : ℕ) (f back more : Bytes) (k : Kind) (n : ℕ) → symbol_at (f ++ back) ≡ token k n → n ≤ suc (length f)
    → Follows (drop n (b ∷ f)) back more → symbol_at (f ++ 32 ∷ more) ≡ token k n
hash_piece b f back more k zero h fits same = absurd (omega (arith, symbol_long (f ++ back) k 0 h))
hash_piece b f back more k (suc m) h fits same = symbol_cut f back more k m h (omega arith) same

binary_piece : (f back more : Bytes) (k : Kind) (n : ℕ) → token binary (binary_len (f ++ back)) ≡ token k n
    → n ≤ suc (length f) → token binary (binary_len (f ++ 32 ∷ more)) ≡ token k n
binary_piece f back more k n h fits =
    let len : binary_len (f ++ back) ≡ n = token_len binary k (binary_len (f ++ back)) n h in
    let same : binary_len (f ++ 32 ∷ more) ≡ binary_len (f ++ back) = binary_cut f back more (omega (arith, len)) in
    ap (λ m. token binary m) same ∙ h

token_in : (c : Class) (b : ℕ) (f back more : Bytes) (k : Kind) (n : ℕ) → piece_in c b (f ++ back) ≡ token k n
    → n ≤ suc (length f) → Follows (drop n (b ∷ f)) back more → piece_in c b (f ++ 32 ∷ more) ≡ token k n
token_in blank b f back more k n h fits same = absurd (gap_none 1 k n h)
token_in comment b f back more k n h fits same = absurd (comment_none (comment_end (f ++ back)) k n h)
token_in name b f back more k n h fits same = word_cut (b ∷ f) back more k n h fits same
token_in digit b f back more k n h fits same = number_cut (b ∷ f) back more k n h fits
token_in quote b f back more k n h fits same = string_piece (string_end false (f ++ back)) f back more k n refl h fits
token_in dollar b f back more k n h fits same = character_cut f back more k n h fits
token_in hash b f back more k n h fits same = hash_piece b f back more k n h fits same
token_in operator b f back more k n h fits same = binary_piece f back more k n h fits
token_in colon_mark b f back more k n h fits same = colon_piece f back more k n h fits
token_in other b f back more k n h fits same = h

pub token_cut : (front back more : Bytes) (k : Kind) (n : ℕ) → piece (front ++ back) ≡ token k n → n ≤ length front
    → Follows (drop n front) back more → piece (front ++ 32 ∷ more) ≡ token k n
token_cut [] back more k n h fits same =
    let some : (0 < n) × (n ≤ length back) = subst (Inside (length back)) h (inside back) in
    absurd (omega (arith, some.0))
token_cut (b ∷ f) back more k n h fits same = token_in (class_of b) b f back more k n h fits same

-- a piece that isn't a gap
abbrev pub Solid : Piece → Type 0
Solid end = Unit {0}
Solid (gap n) = ⊥
Solid (token k n) = Unit {0}
Solid (bad r) = Unit {0}

solid_word : (text : Bytes) → Solid (word text)
solid_word text = on_cond Solid (is_keyword_end (drop (prefix_len is_name_byte text) text))
    (token keyword (prefix_len is_name_byte text + 1)) (token identifier (prefix_len is_name_byte text)) (λ _. tt)
    (λ _. tt)

solid_before : (n value : ℕ) (after : Bytes) → Solid (number_before n value after)
solid_before n value after = on_cond Solid (ends_number after && nat_lt value INTEGER_LIMIT) (token number n) (bad p3)
    (λ _. tt) (λ _. tt)

solid_in : (radix n : ℕ) (rest : Bytes) → Solid (number_in radix n rest)
solid_in radix n rest = on_cond Solid (are_digits radix (take (prefix_len is_radix_digit rest) rest))
    (number_before (n + prefix_len is_radix_digit rest) (value_of radix (take (prefix_len is_radix_digit rest) rest))
    (drop (prefix_len is_radix_digit rest) rest)) (bad p3)
    (λ _. solid_before (n + prefix_len is_radix_digit rest)
    (value_of radix (take (prefix_len is_radix_digit rest) rest)) (drop (prefix_len is_radix_digit rest) rest))
    (λ _. tt)

solid_after : (n : ℕ) (text : Bytes) → Solid (number_after n text)
solid_after n text = on_cond Solid (begins_with 114 (drop n text))
    (number_in (value_of 10 (take n text)) (n + 1) (drop (n + 1) text))
    (number_before n (value_of 10 (take n text)) (drop n text))
    (λ _. solid_in (value_of 10 (take n text)) (n + 1) (drop (n + 1) text))
    (λ _. solid_before n (value_of 10 (take n text)) (drop n text))

solid_string : (o : Option ℕ) → Solid (string_to o)
solid_string (Some n) = tt
solid_string None = tt

solid_sized : (size n : ℕ) → Solid (sized size n)
solid_sized size n = on_cond Solid (nat_le size SYMBOL_LIMIT) (token symbol n) (bad p3) (λ _. tt) (λ _. tt)

solid_quoted : (size : ℕ) (o : Option ℕ) → Solid (quoted_symbol size o)
solid_quoted size (Some n) = solid_sized size (n + 2)
solid_quoted size None = tt

pub solid_symbol : (rest : Bytes) → Solid (symbol_at rest)
solid_symbol rest =
    on_cond Solid (begins starts_name rest) _ _ (λ _. solid_sized (symbol_name rest) (symbol_name rest + 1)) (λ _.
    on_cond Solid (begins is_operator rest) _ _ (λ _. tt) (λ _.
    on_cond Solid (begins_with 124 rest) _ _ (λ _. tt) (λ _.
    on_cond Solid (begins_with 39 rest) _ _
    (λ _. solid_quoted (length (string_bytes false (drop 1 rest))) (string_end false (drop 1 rest))) (λ _.
    on_cond Solid (begins_with 40 rest) _ _ (λ _. tt) (λ _. tt)))))

solid_character : (rest : Bytes) → Solid (character_at rest)
solid_character rest = on_cond Solid (begins (λ b. nat_le 32 b && nat_le b 126) rest) (token character 2) (bad p2)
    (λ _. tt) (λ _. tt)

solid_colon : (rest : Bytes) → Solid (colon_before rest)
solid_colon rest = on_cond Solid (begins_with 61 rest) (token assign 2) (token colon 1) (λ _. tt) (λ _. tt)

solid_mark : (b : ℕ) → Solid (mark b)
solid_mark b =
    on_cond Solid (b == 124) _ _ (λ _. tt) (λ _.
    on_cond Solid (b == 94) _ _ (λ _. tt) (λ _.
    on_cond Solid (b == 59) _ _ (λ _. tt) (λ _.
    on_cond Solid (b == 46) _ _ (λ _. tt) (λ _.
    on_cond Solid (b == 40) _ _ (λ _. tt) (λ _.
    on_cond Solid (b == 41) _ _ (λ _. tt) (λ _.
    on_cond Solid (b == 91) _ _ (λ _. tt) (λ _.
    on_cond Solid (b == 93) _ _ (λ _. tt) (λ _. tt))))))))

pub no_gap : (q : Piece) (n : ℕ) → Solid q → q ≡ gap n → ⊥
no_gap q n s e = subst Solid e s

comment_piece : (o : Option ℕ) (f back more : Bytes) (n : ℕ) → comment_end (f ++ back) ≡ o → comment_to o ≡ gap n
    → n ≤ suc (length f) → comment_to (comment_end (f ++ 32 ∷ more)) ≡ gap n
comment_piece (Some j) f back more n e h fits =
    let len : j + 1 ≡ n = gap_len (j + 1) n h in
    let same : comment_end (f ++ 32 ∷ more) ≡ Some j = comment_cut f back (32 ∷ more) j e (omega (arith, len)) in
    ap comment_to same ∙ h
comment_piece None f back more n e h fits = absurd (no_gap (bad p2) n tt h)

gap_in : (c : Class) (b : ℕ) (f back more : Bytes) (n : ℕ) → piece_in c b (f ++ back) ≡ gap n → n ≤ suc (length f)
    → piece_in c b (f ++ 32 ∷ more) ≡ gap n
gap_in blank b f back more n h fits = h
gap_in comment b f back more n h fits = comment_piece (comment_end (f ++ back)) f back more n refl h fits
gap_in name b f back more n h fits = absurd (no_gap (word (b ∷ f ++ back)) n (solid_word (b ∷ f ++ back)) h)
gap_in digit b f back more n h fits = absurd
    (no_gap (number_at (b ∷ f ++ back)) n (solid_after (prefix_len is_ascii_digit (b ∷ f ++ back)) (b ∷ f ++ back)) h)
gap_in quote b f back more n h fits = absurd
    (no_gap (string_to (string_end false (f ++ back))) n (solid_string (string_end false (f ++ back))) h)
gap_in dollar b f back more n h fits = absurd (no_gap (character_at (f ++ back)) n (solid_character (f ++ back)) h)
gap_in hash b f back more n h fits = absurd (no_gap (symbol_at (f ++ back)) n (solid_symbol (f ++ back)) h)
gap_in operator b f back more n h fits = absurd (no_gap (token binary (binary_len (f ++ back))) n tt h)
gap_in colon_mark b f back more n h fits = absurd (no_gap (colon_before (f ++ back)) n (solid_colon (f ++ back)) h)
gap_in other b f back more n h fits = absurd (no_gap (mark b) n (solid_mark b) h)

pub gap_cut : (front back more : Bytes) (n : ℕ) → piece (front ++ back) ≡ gap n → n ≤ length front
    → piece (front ++ 32 ∷ more) ≡ gap n
gap_cut [] back more n h fits =
    let some : (0 < n) × (n ≤ length back) = subst (Inside (length back)) h (inside back) in
    absurd (omega (arith, some.0))
gap_cut (b ∷ f) back more n h fits = gap_in (class_of b) b f back more n h fits
