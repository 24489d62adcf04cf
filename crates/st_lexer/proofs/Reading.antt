-- How far the text is read.
use Rattle.std.proofs.Common.{◌≡◌, ℕ, ◌+◌, ◌≤◌, ◌<◌, List, [], ◌∷◌, ◌++◌, length, drop, refl, sym, ap, subst, arith}
use Rattle.std.proofs.Common.{length-drop, append-nil}
use Rattle.texts.specs.Bytes.{Bytes}
use Rattle.st_grammar.specs.Tokens as spec
use Rattle.st_grammar.specs.Tokens.{Kind, Lexes, at_end, after_gap, after_token, Stops, here, past_gap, past_token}
use Rattle.st_grammar.specs.Tokens.{TokenRule, Piece, end, gap, token, bad, piece}
use Rattle.std.proofs.Math.Seq.{drop-drop}
use Rattle.std.proofs.Math.ListN.{drop_of_length-le}
use Rattle.st_lexer.proofs.Sizes.{Inside, inside}
use Rattle.st_lexer.specs.Views.{tokens_seen, token_seen, kind_seen}
use Rattle.st_lexer.specs.declared.kinds.Token.{Token}
use Rattle.st_lexer.specs.declared.kinds.TokenKind.{TokenKind}

-- these are the tokens before the place: with those of what is left they are the text's, and where what is left stops
-- the text does
pub record ReadTo (text : Bytes) (at : ℕ) (read : List Token) : Type 0 where
  pub rest : (ts : List spec.Token) → Lexes at (drop at text) ts → Lexes 0 text (tokens_seen read ++ ts)
  pub stops : (place : ℕ) (r : TokenRule) → Stops at (drop at text) place r → Stops 0 text place r
  pub within : at ≤ length text

pub read_none : (text : Bytes) → ReadTo text 0 []
read_none text = record { rest = λ ts lexes. lexes; stops = λ place r h. h; within = omega arith }

-- a piece at a place ends in the text
pub gap_within : (text : Bytes) (at n : ℕ) → at ≤ length text → piece (drop at text) ≡ gap n
    → (0 < n) × (at + n ≤ length text)
gap_within text at n h e = let fits : (0 < n)
    × (n ≤ length (drop at text)) = subst (Inside (length (drop at text))) e (inside (drop at text)) in
    (fits.0, omega (arith, fits.1, length-drop at text))

pub token_within : (text : Bytes) (at n : ℕ) (k : Kind) → at ≤ length text → piece (drop at text) ≡ token k n
    → (0 < n) × (at + n ≤ length text)
token_within text at n k h e = let fits : (0 < n)
    × (n ≤ length (drop at text)) = subst (Inside (length (drop at text))) e (inside (drop at text)) in
    (fits.0, omega (arith, fits.1, length-drop at text))

pub read_gap : (text : Bytes) (at n : ℕ) (read : List Token) → ReadTo text at read → piece (drop at text) ≡ gap n
    → ReadTo text (at + n) read
read_gap text at n read s e = record {
  rest = λ ts lexes. s.rest ts (after_gap e
      (subst (λ (l : Bytes). Lexes (at + n) l ts) (sym (drop-drop n at text)) lexes));
  stops = λ place r h. s.stops place r
      (past_gap e (subst (λ (l : Bytes). Stops (at + n) l place r) (sym (drop-drop n at text)) h));
  within = (gap_within text at n s.within e).1;
}

tokens_more : (read : List Token) (t : Token) (ts : List spec.Token)
    → tokens_seen (read ++ t ∷ []) ++ ts ≡ tokens_seen read ++ (token_seen t ∷ ts)
tokens_more [] t ts = refl
tokens_more (x ∷ xs) t ts = ap (λ l. token_seen x ∷ l) (tokens_more xs t ts)

pub read_token : (text : Bytes) (at n : ℕ) (k : TokenKind) (read : List Token) → ReadTo text at read
    → piece (drop at text) ≡ token (kind_seen k) n
    → ReadTo text (at + n) (read ++ record { kind = k; start = at; end = at + n } ∷ [])
read_token text at n k read s e = let t : Token = record { kind = k; start = at; end = at + n } in record {
  rest = λ ts lexes. subst (Lexes 0 text) (sym (tokens_more read t ts))
      (s.rest (token_seen t ∷ ts)
      (after_token e (subst (λ (l : Bytes). Lexes (at + n) l ts) (sym (drop-drop n at text)) lexes)));
  stops = λ place r h. s.stops place r
      (past_token e (subst (λ (l : Bytes). Stops (at + n) l place r) (sym (drop-drop n at text)) h));
  within = (token_within text at n (kind_seen k) s.within e).1;
}

pub read_all : (text : Bytes) (at : ℕ) (read : List Token) → length text ≤ at → ReadTo text at read
    → Lexes 0 text (tokens_seen read)
read_all text at read h s = subst (Lexes 0 text) (append-nil (tokens_seen read))
    (s.rest [] (at_end (ap piece (drop_of_length-le text h))))
