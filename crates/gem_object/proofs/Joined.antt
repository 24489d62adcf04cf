-- What is added to a list, one item after the other.
use Rattle.std.proofs.Common.{◌≡◌, ℕ, ◌+◌, ◌<◌, List, [], ◌∷◌, ◌++◌, Option, Some, None, length, take, get_or, refl, ap, sym, ◌∙◌}
use Rattle.std.specs.List.{flat_map, filter_map, slice_get, cons_option}
use Rattle.std.specs.Option.{option_to_list}
use Rattle.std.proofs.Math.Seq.{take-length}
use Rattle.std.proofs.lemmas.List.{take_more, flat_map_more}
use Rattle.std.proofs.lemmas.Option.{slice_get_within, get_or_from_slice_get}

module _ {X A : Type 0} (f : X → List A) (xs : List X) where
  -- one item more is added
  pub one_added : (at : ℕ) (x : X) (before now next : List A) → at < length xs → x ≡ get_or xs at x
      → now ≡ before ++ flat_map f (take at xs) → next ≡ now ++ f x
      → next ≡ before ++ flat_map f (take (at + 1) xs)
  one_added at x before now next below is here added =
      added ∙ ap (λ list. list ++ f x) here ∙ flat_map_more f before (take at xs) x
      ∙ ap (λ ys. before ++ flat_map f ys)
      (sym (take_more xs at x below ∙ ap (λ y. take at xs ++ y ∷ []) (sym is)))

  -- the same where a look-up gave the item
  pub found_added : (at : ℕ) (x : X) (before now next : List A) → slice_get xs at ≡ Some x
      → now ≡ before ++ flat_map f (take at xs) → next ≡ now ++ f x
      → next ≡ before ++ flat_map f (take (at + 1) xs)
  found_added at x before now next found = one_added at x before now next
      (slice_get_within xs at x found) (sym (get_or_from_slice_get xs at x x found))

  -- all items are added
  pub all_added : (at : ℕ) (before now : List A) → at ≡ length xs
      → now ≡ before ++ flat_map f (take at xs) → now ≡ before ++ flat_map f xs
  all_added at before now over here =
      here ∙ ap (λ ys. before ++ flat_map f ys) (ap (λ k. take k xs) over ∙ take-length xs)

-- a list before what an item gives, if it gives something
onto : {A : Type 0} (o : Option A) (some more : List A) → some ≡ more
    → option_to_list o ++ some ≡ cons_option o more
onto None some more same = same
onto (Some a) some more same = ap (λ rest. a ∷ rest) same

-- what each item gives, if it gives something, as lists that are joined
pub given : {X A : Type 0} (f : X → Option A) (xs : List X)
    → flat_map (λ x. option_to_list (f x)) xs ≡ filter_map f xs
given f [] = refl
given f (x ∷ xs) = onto (f x) _ _ (given f xs)

-- the same after another list, for items that were read from elsewhere
pub given_after : {X A : Type 0} (f : X → Option A) (xs read : List X) (before now : List A)
    → read ≡ xs → now ≡ before ++ flat_map (λ x. option_to_list (f x)) read
    → now ≡ before ++ filter_map f xs
given_after f xs read before now same added = added ∙ ap (λ more. before ++ more)
    (given f read ∙ ap (filter_map f) same)
