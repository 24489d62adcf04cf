-- The sign of a number where it is written.
use Rattle.std.specs.Prelude.{ℕ, ℤ, pos, negsuc, List, [], ◌∷◌}

-- `-`, which has the code 45, before a negative number
abbrev pub sign_of : ℤ → List ℕ
sign_of (pos number) = []
sign_of (negsuc before) = 45 ∷ []
