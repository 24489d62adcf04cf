-- Lists of pairs, each of an author's number and an entry, and what an author knows of such a list.
use Rattle.std.specs.Prelude.{◌≡◌, ◌==◌, ℕ, ◌≤◌, not, ◌⊎◌, List, [], ◌∷◌, ◌++◌}
use Rattle.std.specs.List.{All, filter}

-- the author is one of these
abbrev pub Has : List ℕ → ℕ → Type 0
Has [] author = ⊥
Has (one ∷ more) author = (one ≡ author) ⊎ Has more author

-- all of these authors but this one
abbrev pub without : ℕ → List ℕ → List ℕ
without author authors = filter (λ one. not (one == author)) authors

-- the pairs of one author, in order
abbrev pub of_author : {E : Type 0} → ℕ → List (ℕ × E) → List (ℕ × E)
of_author author pairs = filter (λ pair. pair.0 == author) pairs

-- authors are the numbers from 1 to this one
abbrev pub IsAuthor : ℕ → ℕ → Type 0
IsAuthor authors author = (1 ≤ author) × (author ≤ authors)

-- each of the pairs is of an author
abbrev pub AreAuthors : {E : Type 0} → ℕ → List (ℕ × E) → Type 0
AreAuthors authors pairs = All (λ pair. IsAuthor authors pair.0) pairs

-- what was seen is a front of the list, and no pair of the author follows it: all the author's own
-- stand in what was seen
pub record Knows {E : Type 0} (author : ℕ) (seen list : List (ℕ × E)) : Type 0 where
  pub rest : List (ℕ × E)
  pub front : list ≡ seen ++ rest
  pub own : of_author author rest ≡ []

-- the same for each of these authors
pub record AllKnow {E : Type 0} (authors : List ℕ) (seen list : List (ℕ × E)) : Type 0 where
  pub rest : List (ℕ × E)
  pub front : list ≡ seen ++ rest
  pub own : (author : ℕ) → Has authors author → of_author author rest ≡ []
