-- Lists without items.
use Rattle.std.proofs.Common.{◌≡◌, ◌==◌, Bool, true, false, true≢false, List, [], ◌∷◌, length, ap, arith}
use Rattle.std.proofs.lemmas.Bool.Decides.{nat_tests}
use Rattle.std.proofs.lemmas.List.{nil_from_length}

abbrev is_empty_list : {A : Type 0} → List A → Bool
is_empty_list [] = true
is_empty_list (x ∷ xs) = false

pub nothing_is_filled : {A : Type 0} {x : A} {xs : List A} → [] ≡ x ∷ xs → ⊥
nothing_is_filled e = true≢false (ap is_empty_list e)

-- a list whose length is tested to be 0 has no items
pub empty_if : {A : Type 0} (xs : List A) → (length xs == 0) ≡ true → xs ≡ []
empty_if xs none = nil_from_length xs (grind (arith, nat_tests))

-- and where the test fails it has some
pub filled_if : {A : Type 0} (xs : List A) → (length xs == 0) ≡ false → xs ≡ [] → ⊥
filled_if xs some none = let e : length xs ≡ 0 = ap length none in grind (arith, nat_tests)
