-- The tokens of a text up to a `-`, where another text follows the `-` at once.
use Rattle.std.proofs.Common.{◌≡◌, refl, sym, ap, ◌∙◌, subst, ℕ, zero, suc, ◌+◌, ◌-◌, ◌<◌, ◌≤◌, List, [], ◌∷◌, ◌++◌}
use Rattle.std.proofs.Common.{length, take, drop, map, arith, append_assoc, length-drop, length-take, take-append-drop}
use Rattle.std.proofs.Common.{take-add}
use Rattle.std.proofs.lemmas.List.{drop-append-le}
use Rattle.texts.specs.Bytes.{Bytes}
use Rattle.st_grammar.specs.Tokens.{Kind, binary, Token, gap, token, piece, Lexes, at_end, after_gap, after_token}
use Rattle.st_grammar.specs.Tokens.{text_of, moved}
use Rattle.st_lexer.specs.Spans.{SpansAscend}
use Rattle.st_lexer.proofs.Ascending.{ascend}
use Rattle.st_lexer.proofs.Fronts.{lexes_moved, first_is, others_are, none_is_some}
use Rattle.st_grammar_laws.proofs.MinusCuts.{token_before, gap_before}

same_token : (t : Token) (k : Kind) (a b : ℕ) → k ≡ t.kind → a ≡ t.from → b ≡ t.to
    → record { kind = k; from = a; to = b } ≡ t
same_token t k a b p q r = λ i. record { kind = p i; from = q i; to = r i }

-- a token after others stands after where these begin
begins_behind : (at stop : ℕ) (seen left : List Token) (t : Token) → SpansAscend at stop (seen ++ t ∷ left)
    → at ≤ t.from
begins_behind at stop [] left t h = h.0
begins_behind at stop (u ∷ us) left t h =
    let rest : u.to ≤ t.from = begins_behind u.to stop us left t h.2 in
    omega (arith, h.0, h.1, rest)

lexed_behind : {at : ℕ} {text : Bytes} {ts : List Token} → Lexes at text ts → (seen left : List Token) (t : Token)
    → ts ≡ seen ++ t ∷ left → at ≤ t.from
lexed_behind {at} {text} {ts} h seen left t same = begins_behind at (at + length text) seen left t
    (subst (λ (us : List Token). SpansAscend at (at + length text) us) same (ascend h))

not_here : (seen left : List Token) (t : Token) → [] ≡ seen ++ t ∷ left → ⊥
not_here [] left t e = none_is_some t left e
not_here (u ∷ us) left t e = none_is_some u (us ++ t ∷ left) e

-- the `-` itself
minus_here : (at : ℕ) (g y : Bytes) (t : Token) (us : List Token) → at ≡ t.from → at + length g ≡ t.from
    → t.to ≡ t.from + 1 → t.kind ≡ binary → piece (45 ∷ y) ≡ token binary 1 → Lexes t.to y us
    → Lexes at (g ++ 45 ∷ y) (t ∷ us)
minus_here at [] y t us from len to kind e rest =
    let ends : at + 1 ≡ t.to = ap (λ (n : ℕ). n + 1) from ∙ sym to in
    subst (λ (u : Token). Lexes at (45 ∷ y) (u ∷ us)) (same_token t binary at (at + 1) (sym kind) from ends)
    (after_token e (subst (λ (n : ℕ). Lexes n y us) (sym ends) rest))
minus_here at (c ∷ g) y t us from len to kind e rest = absurd (omega (arith, from, len))

cut_at_minus : {at : ℕ} {text : Bytes} {ts : List Token} → Lexes at text ts
    → (seen left : List Token) (t : Token) (g x y : Bytes) (us : List Token) → ts ≡ seen ++ t ∷ left
    → text ≡ g ++ 45 ∷ x → at + length g ≡ t.from
    → t.to ≡ t.from + 1 → t.kind ≡ binary → piece (45 ∷ y) ≡ token binary 1 → Lexes t.to y us
    → Lexes at (g ++ 45 ∷ y) (seen ++ t ∷ us)
cut_at_minus (at_end e) seen left t g x y us same split len to kind one rest = absurd (not_here seen left t same)
cut_at_minus (after_gap {at = at} {n = n} {text = text} e h) seen left t g x y us same split len to kind one rest =
    let later : at + n ≤ t.from = lexed_behind h seen left t same in
    let fits : n ≤ length g = omega (arith, later, len) in
    let split' : drop n text ≡ drop n g ++ 45 ∷ x = ap (drop n) split ∙ drop-append-le n g (45 ∷ x) fits in
    let len' : (at + n) + length (drop n g) ≡ t.from = omega (arith, length-drop n g, len, fits) in
    let behind : Lexes (at + n) (drop n g ++ 45 ∷ y) (seen ++ t ∷ us) = cut_at_minus h seen left t
    (drop n g) x y us same split' len' to kind one rest in
    let new : piece (g ++ 45 ∷ y) ≡ gap n = gap_before g x y n (subst (λ (l : Bytes). piece l ≡ gap n) split e) fits in
    after_gap new (subst (λ (l : Bytes). Lexes (at + n) l (seen ++ t ∷ us))
    (sym (drop-append-le n g (45 ∷ y) fits)) behind)
cut_at_minus (after_token {at = at} {n = n} {k = k} {ts = ts} e h) [] left t g x y us same split len to kind one rest =
    let first : record { kind = k; from = at; to = at + n }
    ≡ t = first_is (record { kind = k; from = at; to = at + n }) t ts left same in
    minus_here at g y t us (ap (λ (u : Token). u.from) first) len to kind one rest
cut_at_minus (after_token {at = at} {n = n} {k = k} {text = text} {ts = ts} e h)
    (u ∷ seen) left t g x y us same split len to kind one rest =
    let first : record { kind = k; from = at; to = at + n }
    ≡ u = first_is (record { kind = k; from = at; to = at + n }) u ts (seen ++ t ∷ left) same in
    let others : ts ≡ seen ++ t
    ∷ left = others_are (record { kind = k; from = at; to = at + n }) u ts (seen ++ t ∷ left) same in
    let later : at + n ≤ t.from = lexed_behind h seen left t others in
    let fits : n ≤ length g = omega (arith, later, len) in
    let split' : drop n text ≡ drop n g ++ 45 ∷ x = ap (drop n) split ∙ drop-append-le n g (45 ∷ x) fits in
    let len' : (at + n) + length (drop n g) ≡ t.from = omega (arith, length-drop n g, len, fits) in
    let behind : Lexes (at + n) (drop n g ++ 45 ∷ y) (seen ++ t ∷ us) = cut_at_minus h seen left t
    (drop n g) x y us others split' len' to kind one rest in
    let new : piece (g ++ 45 ∷ y)
    ≡ token k n = token_before g x y k n (subst (λ (l : Bytes). piece l ≡ token k n) split e) fits in
    subst (λ (v : Token). Lexes at (g ++ 45 ∷ y) (v ∷ seen ++ t ∷ us)) first
    (after_token new (subst (λ (l : Bytes). Lexes (at + n) l (seen ++ t ∷ us))
    (sym (drop-append-le n g (45 ∷ y) fits)) behind))

-- where the `-` stands in the text
no_bytes : (l : Bytes) → [] ≡ 45 ∷ l → ⊥
no_bytes l e = cc

same_first : (a b : ℕ) (l m : Bytes) → a ∷ l ≡ b ∷ m → a ≡ b
same_first a b l m e = cc

first_byte : (n : ℕ) (l : Bytes) → take n l ≡ 45 ∷ [] → (x : Bytes) × (l ≡ 45 ∷ x)
first_byte zero [] e = absurd (no_bytes [] e)
first_byte (suc n) [] e = absurd (no_bytes [] e)
first_byte zero (b ∷ bs) e = absurd (no_bytes [] e)
first_byte (suc n) (b ∷ bs) e = (bs, ap (λ (c : ℕ). c ∷ bs) (same_first b 45 (take n bs) [] e))

ends_after : (a stop : ℕ) (ts : List Token) → SpansAscend a stop ts → a ≤ stop
ends_after a stop [] h = h
ends_after a stop (u ∷ us) h =
    let rest : u.to ≤ stop = ends_after u.to stop us h.2 in
    omega (arith, h.0, h.1, rest)

token_inside : (at stop : ℕ) (seen left : List Token) (t : Token) → SpansAscend at stop (seen ++ t ∷ left)
    → (t.from < t.to) × (t.to ≤ stop)
token_inside at stop [] left t h = (h.1, ends_after t.to stop left h.2)
token_inside at stop (u ∷ us) left t h = token_inside u.to stop us left t h.2

-- A text up to a `-` of its own, and then another text: the tokens up to the `-`, and then those of the other.
pub minus_and_more : (text y : Bytes) (seen left ts : List Token) (t : Token) → Lexes 0 text (seen ++ t ∷ left)
    → t.kind ≡ binary → text_of text t ≡ 45 ∷ [] → piece (45 ∷ y) ≡ token binary 1 → Lexes 0 y ts
    → Lexes 0 (take t.to text ++ y) (seen ++ t ∷ map (moved t.to) ts)
minus_and_more text y seen left ts t h kind minus one other =
    let whole : SpansAscend 0 (0 + length text) (seen ++ t ∷ left) = ascend h in
    let inside = token_inside 0 (0 + length text) seen left t whole in
    let here = first_byte (t.to - t.from) (drop t.from text) minus in
    let size : length (take (t.to - t.from) (drop t.from text)) ≡ 1 = ap length minus in
    let to : t.to ≡ t.from + 1 = omega
    (arith, size, inside.0, inside.1, length-take (t.to - t.from) (drop t.from text), length-drop t.from text) in
    let g : Bytes = take t.from text in
    let split : text ≡ g ++ 45 ∷ here.0 = sym (take-append-drop t.from text) ∙ ap (λ (l : Bytes). g ++ l) here.1 in
    let len : 0 + length g ≡ t.from = omega (arith, to, inside.1, length-take t.from text) in
    let front : take t.to text ≡ g ++ 45 ∷ [] = ap (λ (n : ℕ). take n text) to ∙ take-add t.from 1 text
    ∙ ap (λ (l : Bytes). g ++ take 1 l) here.1 in
    let new : take t.to text ++ y ≡ g ++ 45 ∷ y = ap (λ (l : Bytes). l ++ y) front ∙ append_assoc g (45 ∷ []) y in
    let rest : Lexes t.to y (map (moved t.to) ts) = subst
    (λ (n : ℕ). Lexes n y (map (moved t.to) ts)) (omega arith) (lexes_moved t.to other) in
    subst (λ (l : Bytes). Lexes 0 l (seen ++ t ∷ map (moved t.to) ts)) (sym new)
    (cut_at_minus h seen left t g here.0 y (map (moved t.to) ts) refl split len to kind one rest)
