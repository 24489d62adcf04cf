-- Two ascending lists of names as one.
use Rattle.std.specs.Prelude.{ℕ, List, [], ◌∷◌}
use Rattle.std.specs.Ordering.{nat_cmp, match_ordering}

-- a name and the names after it, of which `rest` makes one with other names, merged with these
abbrev pub merged_in : ℕ → List ℕ → (List ℕ → List ℕ) → List ℕ → List ℕ
merged_in name names rest [] = name ∷ names
merged_in name names rest (other ∷ others) = match_ordering (nat_cmp name other)
    (name ∷ rest (other ∷ others))
    (name ∷ rest others)
    (other ∷ merged_in name names rest others)

-- the names of both lists in order; a name that stands in both stands once
abbrev pub union : List ℕ → List ℕ → List ℕ
union [] others = others
union (name ∷ names) others = merged_in name names (union names) others
