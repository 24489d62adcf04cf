-- What holds of each item of a list, by recursion.
use Rattle.std.proofs.Common.{◌≡◌, refl, List, [], ◌∷◌, ◌++◌, Option, Some, None, map, true, cond, Bool, false}
use Rattle.std.specs.List.{AllByRecursion, cons_option, filter, filter_map, flat_map}
use Rattle.std.specs.Option.{IfSome}

module _ {X Y : Type 0} (f : X → Option Y) (Q : Y → Type 0) where
  to_one : (found : Option Y) (rest : List Y) → AllByRecursion Q (cons_option found rest)
      → IfSome found Q × AllByRecursion Q rest
  to_one None rest all = (tt, all)
  to_one (Some y) rest all = (all.0, all.1)

  from_one : (found : Option Y) (rest : List Y) → IfSome found Q → AllByRecursion Q rest
      → AllByRecursion Q (cons_option found rest)
  from_one None rest here all = all
  from_one (Some y) rest here all = (here, all)

  pub to_each : (xs : List X) → AllByRecursion Q (filter_map f xs) → AllByRecursion (λ x. IfSome (f x) Q) xs
  to_each [] all = tt
  to_each (x ∷ xs) all = let both = to_one (f x) (filter_map f xs) all in (both.0, to_each xs both.1)

  pub from_each : (xs : List X) → AllByRecursion (λ x. IfSome (f x) Q) xs → AllByRecursion Q (filter_map f xs)
  from_each [] all = tt
  from_each (x ∷ xs) all = from_one (f x) (filter_map f xs) all.0 (from_each xs all.1)

module _ {X : Type 0} (Q : X → Type 0) where
  pub all_left : (xs ys : List X) → AllByRecursion Q (xs ++ ys) → AllByRecursion Q xs
  all_left [] ys all = tt
  all_left (x ∷ xs) ys all = (all.0, all_left xs ys all.1)

  pub all_right : (xs ys : List X) → AllByRecursion Q (xs ++ ys) → AllByRecursion Q ys
  all_right [] ys all = all
  all_right (x ∷ xs) ys all = all_right xs ys all.1

  pub all_both : (xs ys : List X) → AllByRecursion Q xs → AllByRecursion Q ys → AllByRecursion Q (xs ++ ys)
  all_both [] ys first second = second
  all_both (x ∷ xs) ys first second = (first.0, all_both xs ys first.1 second)

  pub all_weaker : (R : X → Type 0) → ((x : X) → Q x → R x) → (xs : List X) → AllByRecursion Q xs
      → AllByRecursion R xs
  all_weaker R weaker [] all = tt
  all_weaker R weaker (x ∷ xs) all = (weaker x all.0, all_weaker R weaker xs all.1)

  pub all_of : ((x : X) → Q x) → (xs : List X) → AllByRecursion Q xs
  all_of each [] = tt
  all_of each (x ∷ xs) = (each x, all_of each xs)

  -- two facts of each item
  pub all_two : (R : X → Type 0) (xs : List X) → AllByRecursion Q xs → AllByRecursion R xs
      → AllByRecursion (λ x. Q x × R x) xs
  all_two R [] first second = tt
  all_two R (x ∷ xs) first second = ((first.0, second.0), all_two R xs first.1 second.1)

  pub all_mapped : {Y : Type 0} (f : Y → X) (ys : List Y) → AllByRecursion (λ y. Q (f y)) ys
      → AllByRecursion Q (map f ys)
  all_mapped f [] all = tt
  all_mapped f (y ∷ ys) all = (all.0, all_mapped f ys all.1)

  -- the items that pass a test
  passed : (test : X → Bool) (x : X) (rest : List X) (b : Bool) → test x ≡ b → Q x
      → AllByRecursion (λ y. Q y × (test y ≡ true)) rest
      → AllByRecursion (λ y. Q y × (test y ≡ true)) (cond b (x ∷ rest) rest)
  passed test x rest true is here all = ((here, is), all)
  passed test x rest false is here all = all

  pub all_passed : (test : X → Bool) (xs : List X) → AllByRecursion Q xs
      → AllByRecursion (λ x. Q x × (test x ≡ true)) (filter test xs)
  all_passed test [] all = tt
  all_passed test (x ∷ xs) all = passed test x (filter test xs) (test x) refl all.0 (all_passed test xs all.1)

  -- what holds of all that the items give holds item by item, and back
  pub each_given : {Y : Type 0} (f : Y → List X) (ys : List Y) → AllByRecursion Q (flat_map f ys)
      → AllByRecursion (λ y. AllByRecursion Q (f y)) ys
  each_given f [] all = tt
  each_given f (y ∷ ys) all =
      (all_left (f y) (flat_map f ys) all, each_given f ys (all_right (f y) (flat_map f ys) all))

  pub all_given : {Y : Type 0} (f : Y → List X) (ys : List Y) → AllByRecursion (λ y. AllByRecursion Q (f y)) ys
      → AllByRecursion Q (flat_map f ys)
  all_given f [] all = tt
  all_given f (y ∷ ys) all = all_both (f y) (flat_map f ys) all.0 (all_given f ys all.1)
