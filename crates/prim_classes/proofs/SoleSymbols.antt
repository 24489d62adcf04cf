-- Whether a symbol is printed without quotes, by the tokens of its text.
use Rattle.std.proofs.Common.{◌≡◌, refl, sym, ap, ◌∙◌, subst, ℕ, suc, ◌+◌, ◌*◌, ◌<◌, ◌≤◌, nat_eq, nat_le, Bool, true, false, ◌&&◌, cond, ◌==◌, List, [], ◌∷◌, length, drop, Option, Some, None, arith}
use Rattle.std.proofs.Math.ListN.{drop_of_length-le}
use Rattle.std.proofs.lemmas.Bool.Decides.{nat_tests}
use Rattle.gem_object.specs.texts.Bytes.{Bytes}
use Rattle.gem_object.specs.texts.NameBytes.{starts_name}
use Rattle.gem_sound.specs.st_grammar.Tokens.{Kind, symbol, Token, TokenRule, Piece, end, gap, token, bad, piece, Lexes, at_end, after_gap, after_token, Stops, here, past_gap, past_token, symbol_at, symbol_name, quoted_symbol, string_end, string_bytes, later, is_second, is_operator, begins, begins_with, p3}
use Rattle.st_lexer.proofs.PieceCuts.{solid_symbol, no_gap}
use Rattle.st_lexer.proofs.Sizes.{on_cond}
use Rattle.gem_object.specs.texts.declared.limits.TheConstants.{SYMBOL_LIMIT}
use Rattle.st_lexer.specs.Views.{IsFault}
use Rattle.st_lexer.specs.declared.kinds.LexFault.{LexFault}
use Rattle.st_lexer.specs.declared.kinds.LexFault.TheVariants.{Bad}
use Rattle.prim_rules.specs.Texts.{is_symbol_of, is_symbol_token}
use Rattle.prim_classes.specs.Symbols.{is_symbol, begins_with_symbol}

of_token : (k : Kind) (n size : ℕ) → is_symbol_of size (token k n) ≡ (is_symbol k && nat_eq n size)
of_token symbol n size = refl
of_token _ n size = refl

first_token : {at : ℕ} {whole : Bytes} {ts : List Token} (size : ℕ) → at ≡ 0 → Lexes at whole ts
    → ((n : ℕ) → piece whole ≡ gap n → ⊥) → is_symbol_of size (piece whole) ≡ begins_with_symbol size ts
first_token size zero_at (at_end is) solid = ap (is_symbol_of size) is
first_token size zero_at (after_gap {n = n} is rest) solid = absurd (solid n is)
first_token {at} size zero_at (after_token {n = n} {k = k} is rest) solid =
    let to : n ≡ at + n = omega arith in
    ap (is_symbol_of size) is ∙ of_token k n size ∙ ap (λ (m : ℕ). is_symbol k && nat_eq m size) to

pub by_tokens : (text : Bytes) (ts : List Token) (size : ℕ) → size ≡ 1 + length text → Lexes 0 (35 ∷ text) ts
    → begins_with_symbol size ts ≡ is_symbol_token text
unfolding is_symbol_token
by_tokens text ts size is lexes =
    ap (λ (n : ℕ). begins_with_symbol n ts) is
    ∙ sym (first_token (1 + length text) refl lexes (λ n same. no_gap (symbol_at text) n (solid_symbol text) same))

no_stop : {at place : ℕ} {whole : Bytes} {r : TokenRule} → Stops at whole place r → whole ≡ [] → ⊥
no_stop (here {r = r} is) none = let same : end ≡ bad r = sym (ap piece none) ∙ is in cc
no_stop (past_gap {n = n} is rest) none = let same : end ≡ gap n = sym (ap piece none) ∙ is in cc
no_stop (past_token {n = n} {k = k} is rest) none = let same : end ≡ token k n = sym (ap piece none) ∙ is in cc

stopped : {at place : ℕ} {whole : Bytes} {r : TokenRule} (size : ℕ) → size ≡ length whole → Stops at whole place r
    → is_symbol_of size (piece whole) ≡ false
stopped size is (here same) = ap (is_symbol_of size) same
stopped size is (past_gap same rest) = ap (is_symbol_of size) same
stopped {whole = whole} size is (past_token {n = n} {k = k} same rest) =
    ap (is_symbol_of size) same ∙ of_token k n size ∙ by (is_symbol k) (nat_eq n size) refl
  where
    by : (a b : Bool) → nat_eq n size ≡ b → (a && b) ≡ false
    by false b e = refl
    by true false e = refl
    by true true e = absurd (no_stop rest (drop_of_length-le whole (grind (arith, nat_tests))))

pub by_fault : (text : Bytes) (place : ℕ) (r : TokenRule) → Stops 0 (35 ∷ text) place r → is_symbol_token text ≡ false
unfolding is_symbol_token
by_fault text place r stops = stopped (1 + length text) (omega arith) stops

-- no symbol token is longer
abbrev Small : Piece → Type 0
Small end = Unit {0}
Small (gap n) = Unit {0}
Small (token k n) = n ≤ 2003
Small (bad r) = Unit {0}

abbrev Ends : (extra size : ℕ) → Option ℕ → Type 0
Ends extra size None = Unit {0}
Ends extra size (Some n) = n ≤ 2 * size + extra

later_ends : (extra size more wider : ℕ) (o : Option ℕ) → 2 * size + extra + 1 ≤ 2 * wider + more → Ends extra size o
    → Ends more wider (later 1 o)
later_ends extra size more wider None room is = tt
later_ends extra size more wider (Some n) room is = omega (arith, is, room)

plain_byte : (quote : Bool) (b : ℕ) (bs : Bytes) → Ends 0 (length (string_bytes true bs)) (string_end true bs)
    → Ends 1 (length (string_bytes false bs)) (string_end false bs)
    → Ends 1 (length (cond quote (string_bytes true bs) (b ∷ string_bytes false bs))) (later 1 (string_end quote bs))
plain_byte true b bs one other = later_ends 0 (length (string_bytes true bs)) 1 (length (string_bytes true bs))
    (string_end true bs) (omega arith) one
plain_byte false b bs one other = later_ends 1 (length (string_bytes false bs)) 1 (suc (length (string_bytes false bs)))
    (string_end false bs) (omega arith) other

quote_byte : (quote : Bool) (bs : Bytes) → Ends 1 (length (string_bytes false bs)) (string_end false bs)
    → Ends 0 (length (cond quote (39 ∷ string_bytes false bs) [])) (cond quote (later 1 (string_end false bs)) (Some 0))
quote_byte true bs one = later_ends 1 (length (string_bytes false bs)) 0 (suc (length (string_bytes false bs)))
    (string_end false bs) (omega arith) one
quote_byte false bs one = omega arith

plain_ends : (bs : Bytes) → Ends 1 (length (string_bytes false bs)) (string_end false bs)
    × Ends 0 (length (string_bytes true bs)) (string_end true bs)
plain_ends [] = (tt, omega arith)
plain_ends (b ∷ bs) =
    let more = plain_ends bs in
    (plain_byte (b == 39) b bs more.1 more.0, quote_byte (b == 39) bs more.0)

small_token : (test : Bool) (size n : ℕ) → nat_le size SYMBOL_LIMIT ≡ test → n ≤ 2 * size + 3
    → Small (cond test (token symbol n) (bad p3))
small_token true size n is room = grind (arith, nat_tests)
small_token false size n is room = tt

small_quoted : (size : ℕ) (o : Option ℕ) → Ends 1 size o → Small (quoted_symbol size o)
small_quoted size None is = tt
small_quoted size (Some n) is = small_token (nat_le size SYMBOL_LIMIT) size (n + 2) refl (omega (arith, is))

small_binary : (test : Bool) → cond test 2 1 + 1 ≤ 2003
small_binary true = omega arith
small_binary false = omega arith

small_symbol : (rest : Bytes) → Small (symbol_at rest)
small_symbol rest =
    on_cond Small (begins starts_name rest) _ _
    (λ _. small_token (nat_le (symbol_name rest) SYMBOL_LIMIT) (symbol_name rest) (symbol_name rest + 1) refl (omega arith)) (λ _.
    on_cond Small (begins is_operator rest) _ _ (λ _. small_binary (begins is_second (drop 1 rest))) (λ _.
    on_cond Small (begins_with 124 rest) _ _ (λ _. omega arith) (λ _.
    on_cond Small (begins_with 39 rest) _ _
    (λ _. small_quoted (length (string_bytes false (drop 1 rest))) (string_end false (drop 1 rest)) (plain_ends (drop 1 rest)).0) (λ _.
    on_cond Small (begins_with 40 rest) _ _ (λ _. omega arith) (λ _. tt)))))

too_long : (q : Piece) (size : ℕ) → Small q → 2003 < size → is_symbol_of size q ≡ false
too_long end size small long = refl
too_long (gap n) size small long = refl
too_long (token k n) size small long = of_token k n size ∙ by (is_symbol k) (nat_eq n size) refl
  where
    by : (a b : Bool) → nat_eq n size ≡ b → (a && b) ≡ false
    by false b e = refl
    by true false e = refl
    by true true e = absurd (grind (arith, nat_tests))
too_long (bad r) size small long = refl

pub by_length : (text : Bytes) → 2003 < length text → is_symbol_token text ≡ false
unfolding is_symbol_token
by_length text long = too_long (symbol_at text) (1 + length text) (small_symbol text) (omega arith)

-- what the lexer answers of `#` and the text
pub tokens_tell : (text : Bytes) (ts : List Token) (whole : Bytes) {told : Bool} (size : ℕ) → size ≡ 1 + length text
    → whole ≡ 35 ∷ text → Lexes 0 whole ts → told ≡ begins_with_symbol size ts → told ≡ is_symbol_token text
tokens_tell text ts whole {told} size is same lexes tells =
    let At : Bytes → Type 0 = λ other. Lexes 0 other ts in
    tells ∙ by_tokens text ts size is (subst At same lexes)

pub fault_tells : (text whole : Bytes) (fault : LexFault) (place rule : ℕ) → fault ≡ Bad place rule → whole ≡ 35 ∷ text
    → IsFault whole fault → false ≡ is_symbol_token text
fault_tells text whole fault place rule is same found =
    let Of : LexFault → Type 0 = λ one. IsFault whole one in
    let given : IsFault whole (Bad place rule) = subst Of is found in
    let At : Bytes → Type 0 = λ other. Stops 0 other place given.0 in
    sym (by_fault text place given.0 (subst At same given.2))
