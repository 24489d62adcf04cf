-- The pages that are marked.
use Rattle.std.specs.Prelude.{◌≡◌, ℕ, ◌+◌, ◌<◌, ◌≤◌, Bool, false, List, length, get_or}
use Rattle.std.specs.List.{flat_map}
use Rattle.extent_pages.specs.Pages.{is_one_of}
use Rattle.extent_plan.specs.declared.place.LeafPlace.{LeafPlace}
use Rattle.extent_plan.specs.Runs.{AscendFrom, behind}

-- the pages of leaves
abbrev pub pages_in : List LeafPlace → List ℕ
pages_in leaves = flat_map (λ (leaf : LeafPlace). leaf.pages.items) leaves

-- whether a page is marked
abbrev pub marked : List Bool → ℕ → Bool
marked marks page = get_or marks page false

-- these are the numbers from one on and before another for which a test holds, in ascending order
pub record Collected (from : ℕ) (test : ℕ → Bool) (numbers : List ℕ) (to : ℕ) : Type 0 where
  pub ascend : AscendFrom from numbers
  pub last : behind from numbers ≤ to
  pub few : from + length numbers ≤ to
  pub are : (number : ℕ) → from ≤ number → number < to → is_one_of number numbers ≡ test number
  pub low : (number : ℕ) → number < from → is_one_of number numbers ≡ false
  pub high : (number : ℕ) → to ≤ number → is_one_of number numbers ≡ false
