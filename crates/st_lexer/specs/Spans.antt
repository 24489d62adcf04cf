-- Where tokens stand in their text.
use Rattle.std.specs.Prelude.{ℕ, ◌<◌, ◌≤◌, List, [], ◌∷◌}
use Rattle.st_grammar.specs.Tokens.{Token}

-- the tokens begin at `at` or later, stand one after another, each with one byte at least, and have
-- ended by `stop`
abbrev pub SpansAscend : (at stop : ℕ) → List Token → Type 0
SpansAscend at stop [] = at ≤ stop
SpansAscend at stop (t ∷ ts) = (at ≤ t.from) × (t.from < t.to) × SpansAscend t.to stop ts
