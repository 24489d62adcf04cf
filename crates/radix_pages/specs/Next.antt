-- The lowest key from a number on.
use Rattle.std.specs.Prelude.{◌≡◌, ℕ, ◌<◌, ◌≤◌, Option, None, Some, option_map}
use Rattle.std.specs.Borrow.{Bor}
use Rattle.std.specs.Ordering.{nat_cmp}
use Rattle.std.specs.FinMap.{FinMap, get}

-- f has nothing from one number up to the one before another
abbrev pub NoneBetween : {X : Type 0} → (ℕ → Option X) → ℕ → ℕ → Type 0
NoneBetween f from to = (key : ℕ) → from ≤ key → key < to → f key ≡ None

-- the lowest key from a number on at which f has something, with what it has there, and none
-- exactly where f has nothing from that number on
abbrev pub IsNextAt : {X : Type 0} → (ℕ → Option X) → ℕ → Option (ℕ × X) → Type 0
IsNextAt f from None = (key : ℕ) → from ≤ key → f key ≡ None
IsNextAt f from (Some entry) =
    (from ≤ entry.0) × ((f entry.0 ≡ Some entry.1) × NoneBetween f from entry.0)

-- the same in a map
abbrev pub IsNext : {X : Type 0} → FinMap nat_cmp X → ℕ → Option (ℕ × X) → Type 0
IsNext m from entry = IsNextAt (get m) from entry

-- an entry whose value is borrowed, by what is borrowed
abbrev pub entry_copied : {X : Type 0} → Option (ℕ × Bor X) → Option (ℕ × X)
entry_copied entry = option_map (λ e. (e.0, e.1.now)) entry
