-- What a call does to a count of faults.
use Rattle.std.specs.Prelude.{◌≡◌, ℕ, Bool, true, false}
use Rattle.gem_io.specs.Faults.{HasRisen}

-- it stays where the call went well, and rises where it didn't
abbrev pub IsCounted : (before after : ℕ) → (well : Bool) → Type 0
IsCounted before after true = after ≡ before
IsCounted before after false = HasRisen before after
