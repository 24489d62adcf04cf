-- What stands in a list, by recursion.
use Rattle.std.proofs.Common.{◌≡◌, ℕ, zero, suc, ◌+◌, ◌<◌, ◌⊎◌, inl, inr, ⊎_elim, List, [], ◌∷◌, ◌++◌, length, get_or, Contains, flat_map, arith}

module _ {X : Type 0} where
  -- the item is one of the list
  abbrev pub IsOneOf : X → List X → Type 0
  IsOneOf x [] = ⊥
  IsOneOf x (y ∷ ys) = (y ≡ x) ⊎ IsOneOf x ys

  at_place : (x y : X) (ys : List X) (k : ℕ) → k < length (y ∷ ys) → get_or (y ∷ ys) k x ≡ x
      → (y ≡ x) ⊎ Contains ys x
  at_place x y ys zero below is = inl is
  at_place x y ys (suc k) below is = inr (k, omega arith, is)

  pub one_of : (x : X) (ys : List X) → Contains ys x → IsOneOf x ys
  one_of x [] c = let below = c.1 in absurd (omega arith)
  one_of x (y ∷ ys) c = ⊎_elim inl (λ there. inr (one_of x ys there)) (at_place x y ys c.0 c.1 c.2)

  pub contained : (x : X) (ys : List X) → IsOneOf x ys → Contains ys x
  contained x [] none = absurd none
  contained x (y ∷ ys) (inl same) = (0, omega arith, same)
  contained x (y ∷ ys) (inr there) =
      let c = contained x ys there in let below = c.1 in (suc c.0, omega arith, c.2)

  -- in two lists, one after the other
  pub in_first : (x : X) (ys zs : List X) → IsOneOf x ys → IsOneOf x (ys ++ zs)
  in_first x [] zs none = absurd none
  in_first x (y ∷ ys) zs (inl same) = inl same
  in_first x (y ∷ ys) zs (inr there) = inr (in_first x ys zs there)

  pub in_second : (x : X) (ys zs : List X) → IsOneOf x zs → IsOneOf x (ys ++ zs)
  in_second x [] zs there = there
  in_second x (y ∷ ys) zs there = inr (in_second x ys zs there)

  pub in_either : (x : X) (ys zs : List X) → IsOneOf x (ys ++ zs) → IsOneOf x ys ⊎ IsOneOf x zs
  in_either x [] zs there = inr there
  in_either x (y ∷ ys) zs (inl same) = inl (inl same)
  in_either x (y ∷ ys) zs (inr there) = ⊎_elim (λ h. inl (inr h)) inr (in_either x ys zs there)

-- in what the items of a list give
module _ {N X : Type 0} (f : N → List X) where
  pub given_by : (x : X) (ns : List N) → IsOneOf x (flat_map f ns) → (n : N) × IsOneOf x (f n)
  given_by x [] none = absurd none
  given_by x (n ∷ ns) there =
      ⊎_elim (λ h. (n, h)) (given_by x ns) (in_either x (f n) (flat_map f ns) there)

  pub given_in : (x : X) (n : N) (ns : List N) → IsOneOf n ns → IsOneOf x (f n)
      → IsOneOf x (flat_map f ns)
  given_in x n [] none there = absurd none
  given_in x n (m ∷ ns) (inl same) there =
      in_first x (f m) (flat_map f ns) (rw same there)
  given_in x n (m ∷ ns) (inr more) there =
      in_second x (f m) (flat_map f ns) (given_in x n ns more there)
