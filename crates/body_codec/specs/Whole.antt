-- Bytes that are one whole effect.
use Rattle.std.specs.Prelude.{ℕ, List, [], ◌∷◌, Option, Some, None, Result, Ok, Err}
use Rattle.gem_record.specs.declared.effect.Effect.{Effect}
use Rattle.body_codec.specs.declared.fault.Flaw.{Flaw}
use Rattle.body_codec.specs.ReadingBodies.{effect_at}

-- what is read, where it is all of the bytes
abbrev pub all_of : {X : Type 0} → Result (X × List ℕ) Flaw → Option X
all_of (Err flaw) = None
all_of (Ok (x, [])) = Some x
all_of (Ok (x, byte ∷ rest)) = None

-- the effect of the commit of this number that the bytes are, if they are one
unfoldable pub whole_effect : ℕ → List ℕ → Option Effect
whole_effect number bytes = all_of (effect_at number bytes)
