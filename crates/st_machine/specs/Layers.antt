-- What stands on a stack that all activations share: what the activation that runs has put there,
-- above what those have put there that wait for it.
use Rattle.std.specs.Prelude.{◌≡◌, ℕ, List, [], ◌∷◌, ◌++◌, reverse, take, drop, Option, None, Some}

pub record Layers (A : Type 0) : Type 0 where
  -- what the activation that runs has put there, the last one first
  pub own : List A
  -- what stands below, the last one last
  pub below : List A

-- before anything runs
abbrev pub nothing_on : (A : Type 0) → Layers A
nothing_on A = record { own = []; below = [] }

-- an activation begins: all that stands there is below it
abbrev pub begun : {A : Type 0} → Layers A → Layers A
begun layers = record { own = []; below = layers.below ++ reverse layers.own }

-- It ends, where so many items stood below the activation that goes on: what that one had put there
-- stands above them again.
abbrev pub ended : {A : Type 0} → ℕ → Layers A → Layers A
ended base layers =
    record { own = reverse (drop base layers.below); below = take base layers.below }

-- The same where what the one that ends has put there stays, above what that one had put.
abbrev pub kept : {A : Type 0} → ℕ → Layers A → Layers A
kept base layers = record {
  own = layers.own ++ reverse (drop base layers.below);
  below = take base layers.below;
}

-- the uppermost item was taken away, where there is one
abbrev pub Popped : {A : Type 0} → Option A → (before after : List A) → Type 0
Popped None before after = (before ≡ []) × (after ≡ [])
Popped (Some item) before after = before ≡ item ∷ after
