-- The function that gives a text's tokens gives what the relations say.
use Rattle.std.proofs.Common.{◌≡◌, ℕ, zero, suc, ◌+◌, ◌-◌, ◌<◌, List, [], ◌∷◌, length, drop, refl, ap, subst, ◌∙◌}
use Rattle.std.proofs.Common.{arith, Ok, Err}
use Rattle.texts.specs.Bytes.{Bytes}
use Rattle.st_grammar.specs.Tokens.{Token, Lexes, at_end, after_gap, after_token, Stops, here, past_gap, past_token}
use Rattle.st_grammar.specs.Tokens.{TokenRule, Piece, gap, token}
use Rattle.st_grammar.specs.Lexed.{onto_tokens, behind_piece, tokens_behind}
use Rattle.st_lexer.proofs.Sizes.{Inside, inside}

plus_zero : (n : ℕ) → n ≡ n + 0
plus_zero n = omega arith

suc_plus : (n m : ℕ) → suc n + m ≡ n + suc m
suc_plus n m = omega arith

less_one : (n : ℕ) → suc n - 1 ≡ n
less_one n = omega arith

-- what follows so many bytes is what begins there
behind : (at n : ℕ) (text : Bytes) → tokens_behind at n text ≡ tokens_behind (at + n) 0 (drop n text)
behind at zero text = ap (λ (a : ℕ). tokens_behind a 0 text) (plus_zero at)
behind at (suc n) [] = refl
behind at (suc n) (b ∷ rest) = behind (suc at) n rest ∙ ap (λ (a : ℕ). tokens_behind a 0 (drop n rest)) (suc_plus at n)

piece_inside : (len : ℕ) (p q : Piece) → p ≡ q → Inside len p → Inside len q
piece_inside len p q e h = subst (Inside len) e h

past : (at n : ℕ) (b : ℕ) (rest : Bytes) → 0 < n
    → tokens_behind (suc at) (n - 1) rest ≡ tokens_behind (at + n) 0 (drop n (b ∷ rest))
past at zero b rest h = absurd (omega arith)
past at (suc n) b rest h = ap (λ (k : ℕ). tokens_behind (suc at) k rest) (less_one n) ∙ behind (suc at) n rest
    ∙ ap (λ (a : ℕ). tokens_behind a 0 (drop n rest)) (suc_plus at n)

pub gives_tokens : {at : ℕ} {text : Bytes} {ts : List Token} → Lexes at text ts → tokens_behind at 0 text ≡ Ok ts
gives_tokens {text = []} (at_end e) = refl
gives_tokens {at = at} {text = b ∷ rest} (at_end e) = ap
    (λ p. behind_piece at p (λ skip. tokens_behind (suc at) skip rest)) e
gives_tokens {text = []} (after_gap e h) = absurd cc
gives_tokens {at = at} {text = b ∷ rest} (after_gap {n = n} e h) =
    let fits = piece_inside (suc (length rest)) _ (gap n) e (inside (b ∷ rest)) in
    ap (λ p. behind_piece at p (λ skip. tokens_behind (suc at) skip rest)) e ∙ past at n b rest fits.0 ∙ gives_tokens h
gives_tokens {text = []} (after_token e h) = absurd cc
gives_tokens {at = at} {text = b ∷ rest} (after_token {n = n} {k = k} e h) =
    let fits = piece_inside (suc (length rest)) _ (token k n) e (inside (b ∷ rest)) in
    ap (λ p. behind_piece at p (λ skip. tokens_behind (suc at) skip rest)) e
    ∙ ap (onto_tokens (record { kind = k; from = at; to = at + n })) (past at n b rest fits.0 ∙ gives_tokens h)

pub gives_fault : {at : ℕ} {text : Bytes} {place : ℕ} {r : TokenRule} → Stops at text place r
    → tokens_behind at 0 text ≡ Err (record { place = place; rule = r })
gives_fault {text = []} (here e) = absurd cc
gives_fault {at = at} {text = b ∷ rest} (here e) = ap
    (λ p. behind_piece at p (λ skip. tokens_behind (suc at) skip rest)) e
gives_fault {text = []} (past_gap e h) = absurd cc
gives_fault {at = at} {text = b ∷ rest} (past_gap {n = n} e h) =
    let fits = piece_inside (suc (length rest)) _ (gap n) e (inside (b ∷ rest)) in
    ap (λ p. behind_piece at p (λ skip. tokens_behind (suc at) skip rest)) e ∙ past at n b rest fits.0 ∙ gives_fault h
gives_fault {text = []} (past_token e h) = absurd cc
gives_fault {at = at} {text = b ∷ rest} (past_token {n = n} {k = k} e h) =
    let fits = piece_inside (suc (length rest)) _ (token k n) e (inside (b ∷ rest)) in
    ap (λ p. behind_piece at p (λ skip. tokens_behind (suc at) skip rest)) e
    ∙ ap (onto_tokens (record { kind = k; from = at; to = at + n })) (past at n b rest fits.0 ∙ gives_fault h)
