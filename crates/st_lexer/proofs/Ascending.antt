-- The spans of a text's tokens ascend.
use Rattle.std.proofs.Common.{◌≡◌, ℕ, ◌+◌, ◌<◌, ◌≤◌, List, [], ◌∷◌, length, drop, subst, arith, length-drop}
use Rattle.texts.specs.Bytes.{Bytes}
use Rattle.st_grammar.specs.Tokens.{Token, Lexes, at_end, after_gap, after_token}
use Rattle.st_lexer.specs.Spans.{SpansAscend}
use Rattle.st_lexer.proofs.Sizes.{Inside, inside}

from_before : (before at stop : ℕ) (ts : List Token) → before ≤ at → SpansAscend at stop ts → SpansAscend before stop ts
from_before before at stop [] sooner h = omega (arith, sooner, h)
from_before before at stop (t ∷ ts) sooner h = (omega (arith, sooner, h.0), h.1, h.2)

same_stop : (at n : ℕ) (text : Bytes) → n ≤ length text → (at + n) + length (drop n text) ≡ at + length text
same_stop at n text fits = omega (arith, fits, length-drop n text)

pub ascend : {at : ℕ} {text : Bytes} {ts : List Token} → Lexes at text ts → SpansAscend at (at + length text) ts
ascend (at_end e) = omega arith
ascend (after_gap {at = at} {n = n} {text = text} {ts = ts} e h) =
    let fits : (0 < n) × (n ≤ length text) = subst (Inside (length text)) e (inside text) in
    let rest : SpansAscend (at + n) (at + length text) ts = subst
    (λ (stop : ℕ). SpansAscend (at + n) stop ts) (same_stop at n text fits.1) (ascend h) in
    from_before at (at + n) (at + length text) ts (omega arith) rest
ascend (after_token {at = at} {n = n} {k = k} {text = text} {ts = ts} e h) =
    let fits : (0 < n) × (n ≤ length text) = subst (Inside (length text)) e (inside text) in
    let rest : SpansAscend (at + n) (at + length text) ts = subst
    (λ (stop : ℕ). SpansAscend (at + n) stop ts) (same_stop at n text fits.1) (ascend h) in
    (omega arith, omega (arith, fits.0), rest)

pub within : (text : Bytes) (ts : List Token) → Lexes 0 text ts → SpansAscend 0 (length text) ts
within text ts h =
    let whole : 0 + length text ≡ length text = omega arith in
    subst (λ (stop : ℕ). SpansAscend 0 stop ts) whole (ascend h)
