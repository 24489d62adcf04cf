use Rattle.std.proofs.Common.{◌≡◌, ◌∙◌, sym, ap, append_assoc, rules, ◌++◌, ◌∷◌, [], ◌-◌, ◌/◌, ℕ, suc, arith, true, false, nat_eq, List}
use Rattle.std.specs.Fmt.{digits_onto}
use Rattle.prim_numbers.proofs.Digits.{last_digit}
use Rattle.prim_numbers.proofs.radix.+push_digits.Goals as goal

pub returns : goal.returns
returns t c =
    let most : suc (c.args.most - 1) ≡ c.args.most = omega (arith, c.if-most-eq0.false) in
    let goes : nat_eq (c.args.number / c.args.base) 0 ≡ false = search rules in
    let digits : List ℕ = digits_onto (c.args.most - 1) c.args.base true (c.args.number / c.args.base) [] in
    let last = last_digit (c.args.most - 1) c.args.base c.args.number goes in
    c.in_ok-push-2.ensures.items
    ∙ ap (λ (front : List ℕ). front ++ c.digit_glyph-digit.result ∷ []) c.in_ok-push_digits.ensures
    ∙ append_assoc c.args.text.now.items digits (c.digit_glyph-digit.result ∷ [])
    ∙ ap (λ (digit : ℕ). c.args.text.now.items ++ (digits ++ digit ∷ [])) c.digit_glyph-digit.ensures
    ∙ ap (λ (behind : List ℕ). c.args.text.now.items ++ behind) (sym last)
    ∙ ap (λ (most : ℕ). c.args.text.now.items ++ digits_onto most c.args.base true c.args.number []) most
