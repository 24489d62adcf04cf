-- What callers conclude of lists that are pushed item by item.
use Rattle.std.proofs.Common.{◌≡◌, ℕ, suc, List, [], ◌∷◌, ◌++◌, length, refl, ap}
use Rattle.list_stack.specs.Lists.{with_last}

module _ {A : Type 0} where
  -- the last list alone grows
  pub with_last_at : (lists : List (List A)) (list : List A) (item : A) → with_last (lists ++ list ∷ []) item ≡ lists ++ (list ++ item ∷ []) ∷ []
  with_last_at [] list item = refl
  with_last_at (first ∷ []) list item = refl
  with_last_at (first ∷ next ∷ rest) list item = ap (λ ls. first ∷ ls) (with_last_at (next ∷ rest) list item)

  -- and the lists stay as many
  pub length-with_last : (lists : List (List A)) (item : A) → length (with_last lists item) ≡ length lists
  length-with_last [] item = refl
  length-with_last (list ∷ []) item = refl
  length-with_last (list ∷ next ∷ rest) item = ap (λ (n : ℕ). suc n) (length-with_last (next ∷ rest) item)
