-- Lists of views that are read by their seats.
use Rattle.std.proofs.Common.{◌≡◌, ℕ, zero, suc, ◌<◌, ◌⊎◌, inl, inr, ⊎_elim, List, [], ◌∷◌, ◌++◌, length, refl, sym, arith}
use mathlib.Core.Option.{some, some-injective, some-ne-none}
use lib.ListN.{get_elem?}

module _ {A : Type 0} where
  -- a seat that has a view is one of the seats
  pub seat_within : (l : List A) (i : ℕ) (a : A) → get_elem? l i ≡ some a → i < length l
  seat_within [] i a e = absurd (some-ne-none a (sym e))
  seat_within (x ∷ xs) zero a e = omega arith
  seat_within (x ∷ xs) (suc i) a e = let r = seat_within xs i a e in omega arith

  -- a view behind all others
  pub at_end : (l : List A) (a b : A) (i : ℕ) → get_elem? (l ++ a ∷ []) i ≡ some b → (get_elem? l i ≡ some b) ⊎ ((i ≡ length l) × (a ≡ b))
  at_end [] a b zero e = inr (refl, some-injective a b e)
  at_end [] a b (suc i) e = absurd (some-ne-none b (sym e))
  at_end (x ∷ xs) a b zero e = inl e
  at_end (x ∷ xs) a b (suc i) e = ⊎_elim (λ l. inl l) (λ r. let h = r.0 in inr ((omega arith), r.1)) (at_end xs a b i e)
