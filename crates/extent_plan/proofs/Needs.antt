-- Sums, and leaves that an image has and hasn't.
use Rattle.std.proofs.Common.{◌≡◌, ◌⊎◌, inl, inr, ℕ, zero, suc, ◌+◌, ◌-◌, ◌*◌, ◌/◌, ◌<◌, ◌≤◌, true, false, [], length, None, Some, refl, sym, ap, subst, ◌∙◌, length-append, arith}
use Rattle.std.specs.FinMap.{get}
use Rattle.std.proofs.lemmas.Bool.Decides.{nat_tests}
use Rattle.gem_object.specs.declared.object.Object.{Object}
use Rattle.gem_image.specs.Image.{Image}
use Rattle.extent_pages.specs.Contents.{leaf_size}
use Rattle.extent_plan.specs.Leaves.{name_in, stored_at, objects_before, leaf_objects}
use Rattle.extent_plan.specs.Needed.{sum_below, has_leaf}
use Rattle.extent_plan.proofs.Stored.{some_own}

-- ---- sums

pub sum_more : (f : ℕ → ℕ) (n : ℕ) → sum_below (n + 1) f ≡ sum_below n f + f n
unfolding sum_below
sum_more f n = let next : n + 1 ≡ suc n = omega arith in ap (λ (m : ℕ). sum_below m f) next

-- where a function is 0 nothing is added
pub sum_over : (f : ℕ → ℕ) (low high : ℕ) → low ≤ high → ((k : ℕ) → low ≤ k → k < high → f k ≡ 0) → sum_below high f ≡ sum_below low f
unfolding sum_below
sum_over f low zero least none = let same : 0 ≡ low = omega (arith, least) in ap (λ (m : ℕ). sum_below m f) same
sum_over f low (suc high) least none = by (split low high (omega (arith, least))) (λ less. sum_over f low high less (λ k from below. none k from (omega (arith, below)))) where
  split : (a b : ℕ) → a ≤ b + 1 → (a ≤ b) ⊎ (b + 1 ≡ a)
  split a b most = search arith

  by : (low ≤ high) ⊎ (high + 1 ≡ low) → (low ≤ high → sum_below high f ≡ sum_below low f) → sum_below high f + f high ≡ sum_below low f
  by (inl less) further = omega (arith, further less, none high less (omega arith))
  by (inr same) further = sym (sum_more f high) ∙ ap (λ (m : ℕ). sum_below m f) same

-- ---- leaves that an image has and hasn't

no_objects : (image : Image) (leaf before : ℕ) → ((place : ℕ) → place < before → get image (name_in leaf place) ≡ None)
    → length (objects_before image leaf before) ≡ 0
unfolding objects_before
no_objects image leaf zero none = refl
no_objects image leaf (suc before) none =
    let last : stored_at (name_in leaf before) (get image (name_in leaf before)) ≡ [] = ap (stored_at (name_in leaf before)) (none before (omega arith)) in
    omega (
      arith,
      length-append (objects_before image leaf before) (stored_at (name_in leaf before) (get image (name_in leaf before))),
      no_objects image leaf before (λ place below. none place (omega (arith, below))),
      ap length last,
    )

pub no_leaf : (image : Image) (leaf : ℕ) → ((name : ℕ) → name / leaf_size ≡ leaf → get image name ≡ None) → has_leaf image leaf ≡ false
no_leaf image leaf none =
    let empty = no_objects image leaf leaf_size (λ place below. none (name_in leaf place) (omega (arith, below))) in
    grind (arith, nat_tests, empty)

pub is_leaf : (image : Image) (leaf : ℕ) → 0 < length (leaf_objects image leaf) → has_leaf image leaf ≡ true
is_leaf image leaf some = grind (arith, nat_tests, some)

-- an object stands in the leaf of its name
pub leaf_there : (image : Image) (oid leaf : ℕ) (object : Object) → get image oid ≡ Some object → leaf ≡ oid / leaf_size → has_leaf image leaf ≡ true
leaf_there image oid leaf object there own =
    let place : ℕ = oid - leaf_size * leaf in
    let name_is : oid ≡ name_in leaf place = omega (arith, own) in
    is_leaf image leaf (some_own image leaf place leaf_size object (omega (arith, own))
    (subst (λ (n : ℕ). get image n ≡ Some object) name_is there))
