-- The sum of the items before a place, and of one item more.
use Rattle.std.proofs.Common.{◌≡◌, ℕ, ◌+◌, List, Some, take, ap, ◌∙◌}
use Rattle.std.specs.List.{sum_by, slice_get}
use Rattle.std.proofs.lemmas.List.Sums.{sum_by_more}
use Rattle.std.proofs.lemmas.Option.{slice_get_within, get_or_from_slice_get}

pub next_sum : {X : Type 0} (f : X → ℕ) (xs : List X) (at : ℕ) (x : X) → slice_get xs at ≡ Some x
    → sum_by f (take (at + 1) xs) ≡ sum_by f (take at xs) + f x
next_sum f xs at x here = sum_by_more f xs at x (slice_get_within xs at x here)
    ∙ ap (λ y. sum_by f (take at xs) + f y) (get_or_from_slice_get xs at x x here)
