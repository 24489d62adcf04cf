-- The tokens of a front of a text that ends where a token ends, before a space and another text.
use Rattle.std.proofs.Common.{◌≡◌, ℕ, ◌+◌, ◌<◌, ◌≤◌, List, [], ◌∷◌, ◌++◌, length, take, drop, refl, sym, ap, ◌∙◌, subst}
use Rattle.std.proofs.Common.{arith, add_assoc, length-drop, length-take, take-append-drop}
use Rattle.std.proofs.lemmas.List.{drop-append-le}
use Rattle.std.specs.Prelude.{map}
use Rattle.texts.specs.Bytes.{Bytes}
use Rattle.st_grammar.specs.Tokens.{Kind, Token, Piece, gap, token, piece, Lexes, at_end, after_gap, after_token}
use Rattle.st_grammar.specs.Tokens.{end_after, moved}
use Rattle.st_lexer.proofs.Sizes.{Inside, inside}
use Rattle.st_lexer.proofs.Cuts.{Follows}
use Rattle.st_lexer.proofs.PieceCuts.{token_cut, gap_cut}

-- the same text after so many more bytes
same_moved : (k at n : ℕ) (kind : Kind) (text : Bytes) (ts : List Token)
    → Lexes (k + at) text (record { kind = kind; from = k + at; to = (k + at) + n } ∷ ts)
    → Lexes (k + at) text (record { kind = kind; from = k + at; to = k + (at + n) } ∷ ts)
same_moved k at n kind text ts h = subst
    (λ (m : ℕ). Lexes (k + at) text (record { kind = kind; from = k + at; to = m } ∷ ts)) (add_assoc k at n) h

pub lexes_moved : {at : ℕ} {text : Bytes} {ts : List Token} → (k : ℕ) → Lexes at text ts
    → Lexes (k + at) text (map (moved k) ts)
lexes_moved k (at_end e) = at_end e
lexes_moved k (after_gap {at = at} {n = n} {text = text} {ts = ts} e h) =
    let behind : Lexes (k + at + n) (drop n text) (map (moved k) ts) = subst
    (λ (m : ℕ). Lexes m (drop n text) (map (moved k) ts)) (sym (add_assoc k at n)) (lexes_moved k h) in
    after_gap e behind
lexes_moved k (after_token {at = at} {n = n} {k = kind} {text = text} {ts = ts} e h) =
    let behind : Lexes (k + at + n) (drop n text) (map (moved k) ts) = subst
    (λ (m : ℕ). Lexes m (drop n text) (map (moved k) ts)) (sym (add_assoc k at n)) (lexes_moved k h) in
    same_moved k at n kind text (map (moved k) ts) (after_token e behind)

pub first_is : (t u : Token) (ts us : List Token) → t ∷ ts ≡ u ∷ us → t ≡ u
first_is t u ts us e = cc

pub others_are : (t u : Token) (ts us : List Token) → t ∷ ts ≡ u ∷ us → ts ≡ us
others_are t u ts us e = cc

pub none_is_some : (t : Token) (ts : List Token) → [] ≡ t ∷ ts → ⊥
none_is_some t ts e = cc

-- where the last of the first tokens ends
abbrev Between : ℕ → Bytes → ℕ → Type 0
Between at text stop = (at ≤ stop) × (stop ≤ at + length text)

between_more : (at n stop : ℕ) (text : Bytes) → n ≤ length text → Between (at + n) (drop n text) stop
    → Between at text stop
between_more at n stop text fits b = (omega (arith, b.0), omega (arith, b.1, length-drop n text))

pub ends_between : {at : ℕ} {text : Bytes} {ts : List Token} → Lexes at text ts → (seen left : List Token)
    → ts ≡ seen ++ left → Between at text (end_after at seen)
ends_between (at_end e) [] left same = (omega arith, omega arith)
ends_between (at_end e) (t ∷ s) left same = absurd (none_is_some t (s ++ left) same)
ends_between (after_gap e h) [] left same = (omega arith, omega arith)
ends_between (after_gap {at = at} {n = n} {text = text} e h) (t ∷ s) left same =
    let fits : (0 < n) × (n ≤ length text) = subst (Inside (length text)) e (inside text) in
    between_more at n (end_after t.to s) text fits.1 (ends_between h (t ∷ s) left same)
ends_between (after_token e h) [] left same = (omega arith, omega arith)
ends_between (after_token {at = at} {n = n} {k = k} {text = text} {ts = ts} e h) (t ∷ s) left same =
    let fits : (0 < n) × (n ≤ length text) = subst (Inside (length text)) e (inside text) in
    let first : record { kind = k; from = at; to = at + n }
    ≡ t = first_is (record { kind = k; from = at; to = at + n }) t ts (s ++ left) same in
    let rest : Between (at + n) (drop n text) (end_after (at + n) s) = ends_between h s left
    (others_are (record { kind = k; from = at; to = at + n }) t ts (s ++ left) same) in
    subst (λ (u : Token). Between at text (end_after u.to s)) first
    (between_more at n (end_after (at + n) s) text fits.1 rest)

-- the front has these tokens before those of the other text, and begins with the same piece as before
record CutAt (at : ℕ) (front back more : Bytes) (seen us : List Token) : Type 0 where
  pub lexes : Lexes at (front ++ 32 ∷ more) (seen ++ us)
  pub follows : Follows front back more

follows_by : (front back more : Bytes) (q : Piece) → piece (front ++ 32 ∷ more) ≡ q → piece (front ++ back) ≡ q
    → Follows front back more
follows_by [] back more q e f = tt
follows_by (c ∷ g) back more q e f = e ∙ sym f

nothing_seen : (at : ℕ) (front back more : Bytes) (us : List Token) (stop : ℕ) → at ≡ stop → at + length front ≡ stop
    → Lexes (stop + 1) more us → CutAt at front back more [] us
nothing_seen at [] back more us stop e len rest = record {
  lexes = after_gap {n = 1} refl (subst (λ (k : ℕ). Lexes (k + 1) more us) (sym e) rest);
  follows = tt;
}
nothing_seen at (c ∷ f) back more us stop e len rest = absurd (omega (arith, e, len))

-- one step, before a rest that is cut already
gap_step : (at n : ℕ) (front back more : Bytes) (seen us : List Token) → piece (front ++ back) ≡ gap n
    → n ≤ length front → CutAt (at + n) (drop n front) back more seen us → CutAt at front back more seen us
gap_step at n front back more seen us e fits deep =
    let new : piece (front ++ 32 ∷ more) ≡ gap n = gap_cut front back more n e fits in
    let behind : Lexes (at + n) (drop n (front ++ 32 ∷ more)) (seen ++ us) = subst
    (λ (l : Bytes). Lexes (at + n) l (seen ++ us)) (sym (drop-append-le n front (32 ∷ more) fits)) deep.lexes in
    record { lexes = after_gap new behind; follows = follows_by front back more (gap n) new e }

token_step : (at n : ℕ) (k : Kind) (t : Token) (front back more : Bytes) (s us : List Token)
    → piece (front ++ back) ≡ token k n → n ≤ length front → record { kind = k; from = at; to = at + n } ≡ t
    → CutAt (at + n) (drop n front) back more s us → CutAt at front back more (t ∷ s) us
token_step at n k t front back more s us e fits first deep =
    let new : piece (front ++ 32 ∷ more) ≡ token k n = token_cut front back more k n e fits deep.follows in
    let behind : Lexes (at + n) (drop n (front ++ 32 ∷ more)) (s ++ us) = subst
    (λ (l : Bytes). Lexes (at + n) l (s ++ us)) (sym (drop-append-le n front (32 ∷ more) fits)) deep.lexes in
    record {
      lexes = subst (λ (u : Token). Lexes at (front ++ 32 ∷ more) (u ∷ (s ++ us))) first (after_token new behind);
      follows = follows_by front back more (token k n) new e;
    }

cut_front : {at : ℕ} {text : Bytes} {ts : List Token} → Lexes at text ts
    → (seen left : List Token) (front back more : Bytes) (us : List Token) (stop : ℕ) → ts ≡ seen ++ left
    → text ≡ front ++ back
    → end_after at seen ≡ stop → at + length front ≡ stop → Lexes (stop + 1) more us → CutAt at front back more seen us
cut_front (at_end {at = at} e) [] left front back more us stop same split ends len rest = nothing_seen at front back
    more us stop ends len rest
cut_front (at_end e) (t ∷ s) left front back more us stop same split ends len rest = absurd
    (none_is_some t (s ++ left) same)
cut_front (after_gap {at = at} e h) [] left front back more us stop same split ends len rest = nothing_seen at front
    back more us stop ends len rest
cut_front (after_gap {at = at} {n = n} {text = text} e h)
    (t ∷ s) left front back more us stop same split ends len rest =
    let span : Between (at + n) (drop n text) (end_after t.to s) = ends_between h (t ∷ s) left same in
    let fits : n ≤ length front = omega (arith, span.0, ends, len) in
    let behind : drop n text ≡ drop n front ++ back = ap (drop n) split ∙ drop-append-le n front back fits in
    let deep : CutAt (at + n) (drop n front) back more (t ∷ s) us = cut_front h (t ∷ s) left
    (drop n front) back more us stop same behind ends (omega (arith, len, length-drop n front)) rest in
    gap_step at n front back more (t ∷ s) us (subst (λ (l : Bytes). piece l ≡ gap n) split e) fits deep
cut_front (after_token {at = at} e h) [] left front back more us stop same split ends len rest = nothing_seen at front
    back more us stop ends len rest
cut_front (after_token {at = at} {n = n} {k = k} {text = text} {ts = ts} e h)
    (t ∷ s) left front back more us stop same split ends len rest =
    let first : record { kind = k; from = at; to = at + n }
    ≡ t = first_is (record { kind = k; from = at; to = at + n }) t ts (s ++ left) same in
    let others : ts ≡ s ++ left = others_are (record { kind = k; from = at; to = at + n }) t ts (s ++ left) same in
    let until : end_after (at + n) s ≡ stop = ap (λ (u : Token). end_after u.to s) first ∙ ends in
    let span : Between (at + n) (drop n text) (end_after (at + n) s) = ends_between h s left others in
    let fits : n ≤ length front = omega (arith, span.0, until, len) in
    let behind : drop n text ≡ drop n front ++ back = ap (drop n) split ∙ drop-append-le n front back fits in
    let deep : CutAt (at + n) (drop n front) back more s us = cut_front h s left
    (drop n front) back more us stop others behind until (omega (arith, len, length-drop n front)) rest in
    token_step at n k t front back more s us (subst (λ (l : Bytes). piece l ≡ token k n) split e) fits first deep

pub front_and_more : (text more : Bytes) (seen left ts : List Token) → Lexes 0 text (seen ++ left) → Lexes 0 more ts
    → Lexes 0 (take (end_after 0 seen) text ++ 32 ∷ more) (seen ++ map (moved (end_after 0 seen + 1)) ts)
front_and_more text more seen left ts h other =
    let within : Between 0 text (end_after 0 seen) = ends_between h seen left refl in
    let len : 0 + length (take (end_after 0 seen) text)
    ≡ end_after 0 seen = omega (arith, within.1, length-take (end_after 0 seen) text) in
    let behind : Lexes (end_after 0 seen + 1) more (map (moved (end_after 0 seen + 1)) ts) =
    subst (λ (m : ℕ). Lexes m more (map (moved (end_after 0 seen + 1)) ts)) (omega arith)
    (lexes_moved (end_after 0 seen + 1) other) in
    let cut : CutAt 0 (take (end_after 0 seen) text) (drop (end_after 0 seen) text) more seen
    (map (moved (end_after 0 seen + 1)) ts) =
    cut_front h seen left (take (end_after 0 seen) text) (drop (end_after 0 seen) text) more
    (map (moved (end_after 0 seen + 1)) ts) (end_after 0 seen) refl
    (sym (take-append-drop (end_after 0 seen) text)) refl len behind in
    cut.lexes
