-- Digits that are read from the left, while the number stays at 2^64 - 1 once it is there.
use Rattle.std.proofs.Common.{◌≡◌, refl, sym, ap, ap₂, ◌∙◌, ℕ, zero, suc, ◌+◌, ◌-◌, ◌*◌, ◌^◌, ◌<◌, ◌≤◌, ◌==◌, min, Bool, true, false, ◌&&◌, cond, List, [], ◌∷◌, Some, None, option_map, length, drop, get_or, arith}
use Rattle.std.specs.List.{list_all}
use Rattle.std.specs.Char.{is_ascii_digit, digit_value}
use Rattle.std.specs.Str.Parse.{digits_value, digits_value_after}
use Rattle.std.proofs.lemmas.Bool.{false≢true}
use Rattle.std.proofs.Math.Seq.{drop-cons}
use Rattle.prim_rules.specs.Texts.{digits_in}

-- the bytes before this place are digits, and make this number
pub record Read (text : List ℕ) (at number : ℕ) : Type 0 where
  pub exact : ℕ
  pub capped : number ≡ min exact (2 ^ 64 - 1)
  pub value : digits_value 10 text ≡ digits_value_after 10 exact (drop at text)
  pub digits : list_all is_ascii_digit text ≡ list_all is_ascii_digit (drop at text)

pub read_none : (text : List ℕ) → Read text 0 0
read_none text = record { exact = 0; capped = omega arith; value = refl; digits = refl }

digit_is : (byte : ℕ) → is_ascii_digit byte ≡ true → digit_value byte ≡ byte - 48
digit_is byte digit = grind arith

next_is : (text : List ℕ) (at byte : ℕ) → at < length text → byte ≡ get_or text at 0
    → drop at text ≡ byte ∷ drop (at + 1) text
next_is text at byte within is =
    let more : suc at ≡ at + 1 = omega arith in
    drop-cons text at 0 within ∙ ap₂ (λ (first count : ℕ). first ∷ drop count text) (sym is) more

-- one digit more
pub read_more : (text : List ℕ) (at number byte next : ℕ) → Read text at number → at < length text
    → byte ≡ get_or text at 0 → is_ascii_digit byte ≡ true
    → next ≡ min (min (number * 10) (2 ^ 64 - 1) + (byte - 48)) (2 ^ 64 - 1) → Read text (at + 1) next
read_more text at number byte next read within is digit more =
    let here = next_is text at byte within is in
    let one = digit_is byte digit in
    record {
      exact = read.exact * 10 + digit_value byte;
      capped = omega (arith, one, more, read.capped);
      value = read.value ∙ ap (digits_value_after 10 read.exact) here;
      digits = read.digits ∙ ap (list_all is_ascii_digit) here
          ∙ ap (λ (b : Bool). b && list_all is_ascii_digit (drop (at + 1) text)) digit;
    }

-- all bytes
pub read_all : (text : List ℕ) (at number : ℕ) → Read text at number → length text ≤ at → false ≡ (length text == 0)
    → Some number ≡ option_map (λ exact. min exact (2 ^ 64 - 1)) (digits_in text)
read_all [] at number read past some = absurd (false≢true some)
read_all (first ∷ rest) at number read past some =
    let none = nothing (first ∷ rest) at past in
    let all : list_all is_ascii_digit (first ∷ rest) ≡ true = read.digits ∙ ap (list_all is_ascii_digit) none in
    let is : digits_value 10 (first ∷ rest) ≡ read.exact = read.value ∙ ap (digits_value_after 10 read.exact) none in
    ap Some (read.capped ∙ ap (λ (exact : ℕ). min exact (2 ^ 64 - 1)) (sym is))
    ∙ sym (ap (λ (b : Bool). option_map (λ exact. min exact (2 ^ 64 - 1)) (cond b (Some (digits_value 10
    (first ∷ rest))) None)) all)
  where
    nothing : (xs : List ℕ) (count : ℕ) → length xs ≤ count → drop count xs ≡ []
    nothing [] zero past = refl
    nothing [] (suc count) past = refl
    nothing (x ∷ xs) zero past = absurd (omega arith)
    nothing (x ∷ xs) (suc count) past = nothing xs count (omega arith)
