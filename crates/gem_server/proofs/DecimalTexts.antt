-- Numbers in decimal as texts: they are short, and are shown as they are.
use Rattle.std.proofs.Common.{◌≡◌, ℕ, ◌+◌, ◌%◌, ◌^◌, ◌<◌, Bool, true, false, ◌&&◌, ◌||◌, List, [], ◌∷◌, refl, ap, ◌∙◌, arith}
use Rattle.std.proofs.lemmas.Bool.{le-leb, and_from}
use Rattle.std.proofs.lemmas.Fmt.{decimal_by_steps, length-decimal-le}
use Rattle.std.proofs.lemmas.List.Folds.{list_all-append}
use Rattle.std.specs.Prelude.{length}
use Rattle.std.specs.Fmt.{decimal}
use Rattle.std.specs.List.{list_all}
use Rattle.gem_meaning.specs.texts.NameBytes.{starts_name, is_name_byte}
use Rattle.gem_meaning.specs.gem_replies.Escapes.{escaped}
use Rattle.gem_meaning.specs.prim_rules.Printing.{is_short}
use Rattle.gem_replies.proofs.Plain.{name_as_it_is}

or_second : (one other : Bool) → other ≡ true → (one || other) ≡ true
or_second true other is = refl
or_second false other is = is

digit_byte : (digit : ℕ) → digit < 10 → is_name_byte (48 + digit) ≡ true
digit_byte digit below = or_second (starts_name (48 + digit)) _
    (and_from _ _ (le-leb 48 (48 + digit) (omega arith)) (le-leb (48 + digit) 57 (omega (arith, below))))

digit_bytes : (n : ℕ) → n < 2 ^ 64 → list_all is_name_byte (decimal n) ≡ true
digit_bytes n small = decimal_by_steps (λ (m : ℕ) (digits : List ℕ). list_all is_name_byte digits ≡ true)
    (λ m below. ap (λ (b : Bool). b && true) (digit_byte m below))
    (λ m digits above all. list_all-append is_name_byte digits ((48 + m % 10) ∷ [])
    ∙ and_from _ _ all (ap (λ (b : Bool). b && true) (digit_byte (m % 10) (omega arith))))
    n small

pub decimal_shown : (n : ℕ) → n < 2 ^ 64 → escaped (decimal n) ≡ decimal n
decimal_shown n small = name_as_it_is (decimal n) (digit_bytes n small)

pub decimal_short : (n : ℕ) → n < 1000000 → is_short (decimal n) ≡ true
decimal_short n small =
    let digits = length-decimal-le 6 n (omega arith) (omega (arith, small)) (omega (arith, small)) in
    le-leb (length (decimal n)) 65536 (omega (arith, digits))
