-- The tokens of a text lie in it, and the bytes of its numbers are those of numbers.
use Rattle.std.proofs.Common.{◌≡◌, ℕ, ◌+◌, ◌-◌, ◌≤◌, List, length, take, drop, refl, sym, ap, ◌∙◌, subst, arith}
use Rattle.std.proofs.lemmas.List.{drop-drop}
use Rattle.texts.specs.Bytes.{Bytes}
use Rattle.st_grammar.specs.Tokens.{Token, gap, token, Lexes, at_end, after_gap, after_token, piece}
use Rattle.st_lexer.specs.Numbers.{IsNumber}
use Rattle.st_lexer.proofs.Reading.{gap_within, token_within}
use Rattle.st_lexer.proofs.NumberTokens.{number_bytes}
use Rattle.st_parser.specs.Reader.{AreWhole}

whole_from : {at : ℕ} {rest : Bytes} {ts : List Token} → Lexes at rest ts → (text : Bytes)
    → rest ≡ drop at text
    → at ≤ length text → AreWhole text ts
whole_from (at_end e) text same within = tt
whole_from (after_gap {at = at} {n = n} {text = rest} e h) text same within =
    let here : piece (drop at text) ≡ gap n = subst (λ (l : Bytes). piece l ≡ gap n) same e in
    whole_from h text (ap (drop n) same ∙ drop-drop n at text) (gap_within text at n within here).1
whole_from (after_token {at = at} {n = n} {k = k} {text = rest} e h) text same within =
    let here : piece (drop at text) ≡ token k n = subst (λ (l : Bytes). piece l ≡ token k n) same e in
    let len : (at + n) - at ≡ n = omega arith in (
      omega arith,
      (token_within text at n k within here).1,
      λ is. subst (λ (m : ℕ). IsNumber (take m (drop at text))) (sym len)
          (number_bytes (drop at text) n (here ∙ ap (λ q. token q n) is)),
      whole_from h text (ap (drop n) same ∙ drop-drop n at text) (token_within text at n k within here).1,
    )

pub whole : (text : Bytes) (ts : List Token) → Lexes 0 text ts → AreWhole text ts
whole text ts h = whole_from h text refl (omega arith)
