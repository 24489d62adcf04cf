-- Where lists that stand one behind the other begin, and where their items stand.
use Rattle.std.specs.Prelude.{◌≡◌, ℕ, suc, ◌+◌, ◌<◌, ◌≤◌, List, [], ◌∷◌, length, get_or, Option, None, Some}

-- the places ascend, and none is past the end, where the items are so many
abbrev pub Ascend : List ℕ → ℕ → Type 0
Ascend [] size = Unit {0}
Ascend (start ∷ starts) size = (start ≤ get_or starts 0 size) × Ascend starts size

-- they are where lists begin: the first list begins at the first item, and without lists there are
-- no items
pub record AreStarts (starts : List ℕ) (size : ℕ) : Type 0 where
  pub first : get_or starts 0 size ≡ 0
  pub ascend : Ascend starts size

-- where the item at a place of a list stands among the items of all lists; None if it is none
abbrev pub IsPlace : List ℕ → ℕ → (list at : ℕ) → Option ℕ → Type 0
IsPlace starts size list at None =
    list < length starts → get_or starts (suc list) size ≤ get_or starts list 0 + at
IsPlace starts size list at (Some place) =
    (list < length starts) × (place ≡ get_or starts list 0 + at)
    × (place < get_or starts (suc list) size)
