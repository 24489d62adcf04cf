-- What a load leaves.
use Rattle.std.specs.Prelude.{◌≡◌, ◌≤◌, ◌*◌, ℕ, pos, List, length, sum_by}
use Rattle.std.specs.List.{AllByRecursion}
use Rattle.gem_meaning.specs.gem_object.declared.value.Value.{Value}
use Rattle.gem_meaning.specs.gem_image.Image.{Image}
use Rattle.gem_meaning.specs.declared.event.What.{What}
use Rattle.gem_meaning.specs.declared.event.What.TheVariants.{Placed}
use Rattle.gem_meaning.specs.Events.{Event, Told, standing}
use Rattle.load_maker.specs.Numbers.{load_sum}
use Rattle.gem_server.specs.Rounds.{IsLoaded, round_name}

-- the item is a name that a round adds
abbrev pub IsRoundName : Value → Type 0
IsRoundName item = (number : ℕ) × (number ≤ 9) × (item ≡ round_name number)

-- The counter stands here with this value, and the bag with so many names of rounds.
pub record HoldsLoad (counter bag : ℕ) (image : Image) : Type 0 where
  pub pairs : List (Value × ℕ)
  pub loaded : IsLoaded image (pos counter) pairs
  pub named : AllByRecursion (λ pair. IsRoundName pair.0) pairs
  pub counted : sum_by (λ pair. pair.1) pairs ≡ bag

-- the event is a commit
abbrev pub IsCommit : What → Type 0
IsCommit (Placed entry) = Unit {0}
IsCommit _ = ⊥

-- The load committed once in each round, and nothing else happened. The counter has come to the sum of
-- the load's numbers, and in the bag there is a name for each round of each session.
pub record CommitsEachRound (seed sessions rounds : ℕ) (t : Told) : Type 0 where
  pub only : AllByRecursion (λ (event : Event). IsCommit event.1) t.events
  pub count : length t.events ≡ sessions * rounds
  pub after : HoldsLoad (load_sum seed sessions rounds) (sessions * rounds) (standing t).image
