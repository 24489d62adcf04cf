-- Items that go from the end of one list to another.
use Rattle.std.specs.Prelude.{◌≡◌, ℕ, ◌≤◌, List, [], ◌∷◌, ◌++◌, length, reverse}

-- no more than so many were taken from the end
pub record LeftOf {A : Type 0} (whole : List A) (count : ℕ) (left : List A) : Type 0 where
  pub taken : List A
  pub few : length taken ≤ count
  pub whole_is : whole ≡ left ++ taken

-- So many were taken from the end, and stand at the end of the other list, the last one first.
pub record PoppedBy {A : Type 0} (old whole : List A) (count : ℕ) (new left : List A) : Type 0 where
  pub taken : List A
  pub many : length taken ≡ count
  pub whole_is : whole ≡ left ++ taken
  pub new_is : new ≡ old ++ reverse taken

-- The same in their order.
pub record MovedBy {A : Type 0} (old whole : List A) (count : ℕ) (new left : List A) : Type 0 where
  pub taken : List A
  pub many : length taken ≡ count
  pub whole_is : whole ≡ left ++ taken
  pub new_is : new ≡ old ++ taken

-- They are a new list on top.
pub record OpenedBy {A : Type 0} (old : List (List A)) (whole : List A) (count : ℕ)
    (new : List (List A)) (left : List A) : Type 0 where
  pub taken : List A
  pub many : length taken ≡ count
  pub whole_is : whole ≡ left ++ taken
  pub new_is : new ≡ old ++ taken ∷ []
