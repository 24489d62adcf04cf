-- Which numbers the items of a list have that are numbered from 1.
use Rattle.std.proofs.Common.{◌<◌, ◌≤◌, ◌↔◌, ℕ, zero, suc, List, length, IsSome, arith}
use Rattle.std.specs.List.{slice_get}
use Rattle.std.proofs.lemmas.Bool.{false≢true}
use Rattle.std.proofs.lemmas.Option.{slice_get_cases}
use Rattle.gem_sound.specs.Kernel.{numbered}

inside : {X : Type 0} (items : List X) (at : ℕ) → IsSome (slice_get items at) ↔ (at < length items)
inside items at = grind (arith, slice_get_cases)

pub numbers : {X : Type 0} (items : List X) (number : ℕ)
    → IsSome (numbered items number) ↔ ((0 < number) × (number ≤ length items))
numbers items zero = (λ none. absurd (false≢true none), λ bounds. absurd (omega (arith, bounds.0)))
numbers items (suc before) = (
  λ some. (omega arith, omega (arith, (inside items before).0 some)),
  λ bounds. (inside items before).1 (omega (arith, bounds.1)),
)
