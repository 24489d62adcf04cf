-- A list that is filled with one item for each of another list.
use Rattle.std.proofs.Common.{◌≡◌, ◌∙◌, refl, sym, ap, subst, ℕ, zero, suc, ◌+◌, ◌≤◌, ◌<◌, ◌⊎◌, inl, inr, List, [], ◌∷◌, ◌++◌, length, length-append, None, Some, arith, append_assoc}
use Rattle.std.specs.List.{slice_get}
use Rattle.script_run.specs.Workers.{Each}

none_some : {X : Type 0} (x : X) → None ≡ Some x → ⊥
none_some x is = absurd cc

-- what stands in a list with one item more stood there, or is that item
last_or_before : {X : Type 0} (xs : List X) (y : X) (place : ℕ) (x : X) → slice_get (xs ++ y ∷ []) place ≡ Some x
    → (slice_get xs place ≡ Some x) ⊎ ((place ≡ length xs) × (y ≡ x))
last_or_before [] y zero x is = inr (refl, cc)
last_or_before [] y (suc place) x is = absurd (none_some x is)
last_or_before (z ∷ xs) y zero x is = inl is
last_or_before (z ∷ xs) y (suc place) x is = further (last_or_before xs y place x is)
  where
    further : (slice_get xs place ≡ Some x) ⊎ ((place ≡ length xs) × (y ≡ x))
        → (slice_get xs place ≡ Some x) ⊎ ((suc place ≡ suc (length xs)) × (y ≡ x))
    further (inl before) = inl before
    further (inr (at, same)) = inr (ap suc at, same)

-- each item is so, and so is one more
pub each_more : {X : Type 0} (IsSo : ℕ → X → Type 0) (xs : List X) (y : X) → Each IsSo xs → IsSo (length xs) y
    → Each IsSo (xs ++ y ∷ [])
each_more IsSo xs y each here place x is = go (last_or_before xs y place x is)
  where
    go : (slice_get xs place ≡ Some x) ⊎ ((place ≡ length xs) × (y ≡ x)) → IsSo place x
    go (inl before) = each place x before
    go (inr (at, same)) = subst (λ z. IsSo place z) same (subst (λ n. IsSo n y) (sym at) here)

-- there is an item at each place
pub item_there : {X : Type 0} (xs : List X) (place : ℕ) → place < length xs → (x : X) × (slice_get xs place ≡ Some x)
item_there [] place lt = absurd (omega (arith, lt))
item_there (x ∷ xs) zero lt = (x, refl)
item_there (x ∷ xs) (suc place) lt = item_there xs place (omega (arith, lt))

-- of an item in the middle
pub each_at : {X : Type 0} (IsSo : ℕ → X → Type 0) (all xs : List X) (x : X) (ys : List X) → Each IsSo all
    → xs ++ x ∷ ys ≡ all → IsSo (length xs) x
each_at IsSo all xs x ys each is = each (length xs) x (sym (ap (λ zs. slice_get zs (length xs)) is) ∙ middle xs)
  where
    middle : (zs : List _) → slice_get (zs ++ x ∷ ys) (length zs) ≡ Some x
    middle [] = refl
    middle (z ∷ zs) = middle zs

-- So far an item was made for each of these, there is room for one for each of the rest, and each is
-- as it should be at its place.
pub record Filling {X Y : Type 0} (IsSo : ℕ → Y → Type 0) (all done rest : List X) (made : List Y) (room : ℕ) : Type 0 where
  pub counted : length made ≡ length done
  pub steps : done ++ rest ≡ all
  pub room_is : length made + length rest ≤ room
  pub each : Each IsSo made

pub filling_more : {X Y : Type 0} (IsSo : ℕ → Y → Type 0) (all done : List X) (x : X) (rest : List X) (made : List Y) (y : Y) (room later : ℕ)
    → room ≤ later → Filling IsSo all done (x ∷ rest) made room → IsSo (length made) y
    → Filling IsSo all (done ++ x ∷ []) rest (made ++ y ∷ []) later
filling_more IsSo all done x rest made y room later more filled here = record {
  counted = let counted = filled.counted in
      omega (arith, counted, length-append made (y ∷ []), length-append done (x ∷ []));
  steps = append_assoc done (x ∷ []) rest ∙ filled.steps;
  room_is = let room_is = filled.room_is in omega (arith, room_is, more, length-append made (y ∷ []));
  each = each_more IsSo made y filled.each here;
}
