-- A table of places, at each of which something may stand.
use Rattle.std.specs.Prelude.{◌≡◌, ℕ, List, Option, Some, None, slice_get, option_and_then}

-- what stands at a place, if anything
abbrev pub held_at : {X : Type 0} → List (Option X) → ℕ → Option X
held_at places at = option_and_then (λ held. held) (slice_get places at)

-- nothing stands there
abbrev pub NoneHeld : {X : Type 0} → List (Option X) → Type 0
NoneHeld places = (at : ℕ) → held_at places at ≡ None

-- what holds of all that stands there
abbrev pub AllHeld : {X : Type 0} → (X → Type 0) → List (Option X) → Type 0
AllHeld {X} P places = (at : ℕ) (x : X) → held_at places at ≡ Some x → P x
