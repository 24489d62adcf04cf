-- Tests of all items of a list, place by place.
use Rattle.std.proofs.Common.{◌≡◌, ◌∙◌, refl, sym, ap, ℕ, ◌+◌, Bool, true, false, ◌&&◌, Some, List, [], ◌∷◌, take}
use Rattle.std.specs.List.{list_all, slice_get}
use Rattle.std.proofs.lemmas.Bool.{and_from}
use Rattle.std.proofs.lemmas.List.Folds.{list_all_more, list_all_at}
use Rattle.std.proofs.lemmas.Option.{slice_get_within, get_or_from_slice_get}

module _ {X : Type 0} (test : X → Bool) (xs : List X) (at : ℕ) where
  -- it holds of the items before a place, and of the item there
  pub one_holds : (x : X) → slice_get xs at ≡ Some x → list_all test (take at xs) ≡ true → test x ≡ true
      → list_all test (take (at + 1) xs) ≡ true
  one_holds x here before holds = list_all_more test xs at x (slice_get_within xs at x here)
      ∙ and_from _ _ before (ap test (get_or_from_slice_get xs at x x here) ∙ holds)

  -- it doesn't hold of the item at a place
  pub one_fails : (x : X) → slice_get xs at ≡ Some x → test x ≡ false → false ≡ list_all test xs
  one_fails x here fails = sym (list_all_at test xs at x (slice_get_within xs at x here)
      (ap test (get_or_from_slice_get xs at x x here) ∙ fails))

-- two tests of all items are one
pub both_hold : {X : Type 0} (test other : X → Bool) (xs : List X)
    → list_all (λ x. test x && other x) xs ≡ (list_all test xs && list_all other xs)
both_hold test other [] = refl
both_hold test other (x ∷ xs) = ap (λ b. (test x && other x) && b) (both_hold test other xs)
    ∙ by (test x) (other x) (list_all test xs) (list_all other xs)
  where
    by : (a b c d : Bool) → ((a && b) && (c && d)) ≡ ((a && c) && (b && d))
    by false b c d = refl
    by true false false d = refl
    by true false true d = refl
    by true true c d = refl
