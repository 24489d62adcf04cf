-- A look-up by a key in a list whose keys rise by one.
use Rattle.std.proofs.Common.{◌≡◌, ◌==◌, ℕ, zero, suc, ◌+◌, Bool, true, false, ◌&&◌, List, [], ◌∷◌, slice_get, Option, Some, IfSome, if◌then◌else◌, refl, arith}
use Rattle.std.specs.List.{find}
use Rattle.std.proofs.lemmas.Bool.{false≢true}
use Rattle.std.proofs.lemmas.Bool.Decides.{nat_tests}

-- the parts of a test of two parts that holds
both : (a b : Bool) → (a && b) ≡ true → (a ≡ true) × (b ≡ true)
both true b is = (refl, is)
both false b is = absurd (false≢true is)

module _ {X : Type 0} (key : X → ℕ) where
  -- the keys are the numbers from a start on
  abbrev pub in_order : ℕ → List X → Bool
  in_order start [] = true
  in_order start (x ∷ xs) = key x == start && in_order (suc start) xs

  -- so the element with a key stands as many places on
  pub find-in_order : (xs : List X) (start place number : ℕ) → in_order start xs ≡ true → number ≡ start + place → find (λ x. key x == number) xs ≡ slice_get xs place
  find-in_order [] start place number ordered is = refl
  find-in_order (x ∷ xs) start zero number ordered is =
      let here : (key x == number) ≡ true = grind (arith, nat_tests, (both (key x == start) (in_order (suc start) xs) ordered).0) in
      rw here refl
  find-in_order (x ∷ xs) start (suc place) number ordered is =
      let parts = both (key x == start) (in_order (suc start) xs) ordered in
      let apart : (key x == number) ≡ false = grind (arith, nat_tests, parts.0) in
      rw apart (find-in_order xs (suc start) place number parts.1 (omega arith))

  first_has_key : (number : ℕ) (x : X) (rest : Option X) (here : Bool) → (key x == number) ≡ here → IfSome rest (λ x. key x ≡ number) → IfSome (if here then Some x else rest) (λ x. key x ≡ number)
  first_has_key number x rest true is later = grind (arith, nat_tests)
  first_has_key number x rest false is later = later

  -- what a look-up finds has the key
  pub find-key : (xs : List X) (number : ℕ) → IfSome (find (λ x. key x == number) xs) (λ x. key x ≡ number)
  find-key [] number = tt
  find-key (x ∷ xs) number = first_has_key number x (find (λ x. key x == number) xs) (key x == number) refl (find-key xs number)
