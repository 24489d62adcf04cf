use Rattle.std.proofs.Common.{◌∙◌, ap, List, ℕ, ◌++◌, [], true}
use Rattle.std.specs.Int.{w64}
use Rattle.std.specs.Fmt.{digits, digits_onto}
use Rattle.std.proofs.lemmas.Int.{to_z-of_z}
use Rattle.prim_numbers.specs.Radix.{sign_of}
use Rattle.prim_numbers.proofs.Digits.{signed_text, all_digits}
use Rattle.prim_numbers.proofs.radix.radix_text.Goals as goal

pub returns : goal.returns
returns c =
    let same = to_z-of_z w64 c.args.number c.ranges.number in
    let sign = rw same at c.in_ok-push_sign.ensures in
    let size = rw same at c.unsigned_abs.ensures.value in
    c.of.ensures ∙ c.in_ok-push_digits.ensures
    ∙ ap (λ (front : List ℕ). front ++ digits_onto 64 c.args.base true c.unsigned_abs.result [])
    (sign ∙ ap (λ (begun : List ℕ). begun ++ sign_of c.args.number) c.new-text.ensures.items)
    ∙ ap (λ (behind : List ℕ). sign_of c.args.number ++ behind) (all_digits c.args.base c.unsigned_abs.result
    ∙ ap (λ (size : ℕ). digits c.args.base true size) size)
    ∙ signed_text c.args.base c.args.number
