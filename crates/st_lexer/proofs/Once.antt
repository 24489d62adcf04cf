-- A text has its tokens or stops at a bad one: one of the two, and only one.
use Rattle.std.proofs.Common.{◌≡◌, ℕ, zero, suc, ◌+◌, ◌<◌, ◌≤◌, ◌⊎◌, inl, inr, List, [], ◌∷◌, length, drop, refl, sym}
use Rattle.std.proofs.Common.{◌∙◌, subst, arith, length-drop}
use Rattle.texts.specs.Bytes.{Bytes}
use Rattle.st_grammar.specs.Tokens.{Kind, Token, Lexes, at_end, after_gap, after_token, Stops, here, past_gap}
use Rattle.st_grammar.specs.Tokens.{past_token, TokenRule, Piece, end, gap, token, bad, piece}
use Rattle.st_lexer.proofs.Sizes.{Inside, inside}

pub gap_len : (n m : ℕ) → gap n ≡ gap m → n ≡ m
gap_len n m e = cc

pub token_len : (k l : Kind) (n m : ℕ) → token k n ≡ token l m → n ≡ m
token_len k l n m e = cc

token_kind : (k l : Kind) (n m : ℕ) → token k n ≡ token l m → k ≡ l
token_kind k l n m e = cc

bad_rule : (r s : TokenRule) → bad r ≡ bad s → r ≡ s
bad_rule r s e = cc

-- what stands after a piece of the one length stands after that of the other
lexes_along : (at n m : ℕ) (text : Bytes) (ts : List Token) → m ≡ n → Lexes (at + m) (drop m text) ts
    → Lexes (at + n) (drop n text) ts
lexes_along at n m text ts e h = subst (λ (k : ℕ). Lexes (at + k) (drop k text) ts) e h

stops_along : (at n m : ℕ) (text : Bytes) (place : ℕ) (r : TokenRule) → m ≡ n → Stops (at + m) (drop m text) place r
    → Stops (at + n) (drop n text) place r
stops_along at n m text place r e h = subst (λ (k : ℕ). Stops (at + k) (drop k text) place r) e h

same_token : (at : ℕ) (k l : Kind) (n m : ℕ) (ts us : List Token) → k ≡ l → n ≡ m → ts ≡ us
    → record { kind = k; from = at; to = at + n } ∷ ts ≡ record { kind = l; from = at; to = at + m } ∷ us
same_token at k l n m ts us e f g = λ i. record { kind = e i; from = at; to = at + f i } ∷ g i

pub one_list : {at : ℕ} {text : Bytes} {ts us : List Token} → Lexes at text ts → Lexes at text us → ts ≡ us
one_list (at_end e) (at_end f) = refl
one_list (at_end e) (after_gap f h) = absurd (let c = sym e ∙ f in cc)
one_list (at_end e) (after_token f h) = absurd (let c = sym e ∙ f in cc)
one_list (after_gap e g) (at_end f) = absurd (let c = sym e ∙ f in cc)
one_list (after_gap {at = at} {n = n} {text = text} e g) (after_gap {n = m} {ts = us} f h) = one_list g
    (lexes_along at n m text us (sym (gap_len n m (sym e ∙ f))) h)
one_list (after_gap e g) (after_token f h) = absurd (let c = sym e ∙ f in cc)
one_list (after_token e g) (at_end f) = absurd (let c = sym e ∙ f in cc)
one_list (after_token e g) (after_gap f h) = absurd (let c = sym e ∙ f in cc)
one_list (after_token {at = at} {n = n} {k = k} {text = text} {ts = ts} e g) (after_token {n = m} {k = l}
    {ts = us} f h) =
    same_token at k l n m ts us (token_kind k l n m (sym e ∙ f)) (token_len k l n m (sym e ∙ f))
    (one_list g (lexes_along at n m text us (sym (token_len k l n m (sym e ∙ f))) h))

pub one_fault : {at : ℕ} {text : Bytes} {place other : ℕ} {r s : TokenRule} → Stops at text place r
    → Stops at text other s → (place ≡ other) × (r ≡ s)
one_fault (here {r = r} e) (here {r = s} f) = (refl, bad_rule r s (sym e ∙ f))
one_fault (here e) (past_gap f h) = absurd (let c = sym e ∙ f in cc)
one_fault (here e) (past_token f h) = absurd (let c = sym e ∙ f in cc)
one_fault (past_gap e g) (here f) = absurd (let c = sym e ∙ f in cc)
one_fault (past_gap {at = at} {n = n} {text = text} e g) (past_gap {n = m} {place = place} {r = r} f h) = one_fault g
    (stops_along at n m text place r (sym (gap_len n m (sym e ∙ f))) h)
one_fault (past_gap e g) (past_token f h) = absurd (let c = sym e ∙ f in cc)
one_fault (past_token e g) (here f) = absurd (let c = sym e ∙ f in cc)
one_fault (past_token e g) (past_gap f h) = absurd (let c = sym e ∙ f in cc)
one_fault (past_token {at = at} {n = n} {k = k} {text = text} e g) (past_token {n = m} {place = place} {k = l}
    {r = r} f h) = one_fault g (stops_along at n m text place r (sym (token_len k l n m (sym e ∙ f))) h)

pub not_both : {at : ℕ} {text : Bytes} {ts : List Token} {place : ℕ} {r : TokenRule} → Lexes at text ts
    → Stops at text place r → ⊥
not_both (at_end e) (here f) = let c = sym e ∙ f in cc
not_both (at_end e) (past_gap f h) = let c = sym e ∙ f in cc
not_both (at_end e) (past_token f h) = let c = sym e ∙ f in cc
not_both (after_gap e g) (here f) = let c = sym e ∙ f in cc
not_both (after_gap {at = at} {n = n} {text = text} e g) (past_gap {n = m} {place = place} {r = r} f h) = not_both g
    (stops_along at n m text place r (sym (gap_len n m (sym e ∙ f))) h)
not_both (after_gap e g) (past_token f h) = let c = sym e ∙ f in cc
not_both (after_token e g) (here f) = let c = sym e ∙ f in cc
not_both (after_token e g) (past_gap f h) = let c = sym e ∙ f in cc
not_both (after_token {at = at} {n = n} {k = k} {text = text} e g) (past_token {n = m} {place = place} {k = l}
    {r = r} f h) = not_both g (stops_along at n m text place r (sym (token_len k l n m (sym e ∙ f))) h)

abbrev pub Answer : ℕ → Bytes → Type 0
Answer at text = ((ts : List Token) × Lexes at text ts) ⊎ ((place : ℕ) × (r : TokenRule) × Stops at text place r)

by_piece : (at : ℕ) (text : Bytes) → ((n : ℕ) → 0 < n → n ≤ length text → Answer (at + n) (drop n text)) → (p : Piece)
    → piece text ≡ p → Inside (length text) p → Answer at text
by_piece at text more end e fits = inl ([], at_end e)
by_piece at text more (gap n) e fits = elim
    (more n fits.0 fits.1) [ inl a ↦ inl (a.0, after_gap e a.1) | inr a ↦ inr (a.0, a.1, past_gap e a.2) ]
by_piece at text more (token k n) e fits = elim
    (more n fits.0 fits.1) [
      | inl a ↦ inl (
        record
            { kind = k; from = at; to = at + n } ∷ a.0,
        after_token e a.1,
      )
      | inr a ↦ inr (a.0, a.1, past_token e a.2)
    ]
by_piece at text more (bad r) e fits = inr (at, r, here e)

answer : (fuel at : ℕ) (text : Bytes) → length text ≤ fuel → Answer at text
answer zero at text h = by_piece at text (λ n some most. absurd (omega arith)) (piece text) refl (inside text)
answer (suc fuel) at text h = by_piece at text
    (λ n some most. answer fuel (at + n) (drop n text) (omega (arith, length-drop n text))) (piece text) refl
    (inside text)

pub some_answer : (at : ℕ) (text : Bytes) → Answer at text
some_answer at text = answer (length text) at text (omega arith)
