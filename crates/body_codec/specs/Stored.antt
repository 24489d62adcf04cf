-- What objects and effects have a spelling, and that no spelling is the front of another.
use Rattle.std.specs.Prelude.{◌≡◌, ◌<◌, ◌^◌, ℕ, List, ◌++◌, length, All}
use Rattle.gem_object.specs.Spelling.{IsOid, IsSpelled}
use Rattle.gem_object.specs.declared.object.Object.{Object}
use Rattle.gem_record.specs.Names.{AscendByName}
use Rattle.gem_record.specs.declared.effect.Effect.{Effect}

-- Bytes begin with the spelling of one thing at most: where the spellings of two, each with
-- something behind it, are the same bytes, the two are the same, and so is what stands behind.
abbrev pub TellsApart : {X : Type 0} → (X → Type 0) → (X → List ℕ) → Type 0
TellsApart {X} IsStored spelled = (x y : X) (rest more : List ℕ) → IsStored x → IsStored y
    → spelled x ++ rest ≡ spelled y ++ more → (x ≡ y) × (rest ≡ more)

-- an object that has a spelling, and that was changed by the commit of this number
pub record IsStored (number : ℕ) (object : Object) : Type 0 where
  pub spelled : IsSpelled object
  pub changed : object.changed ≡ number

-- the same of an object and of its name
pub record IsStoredAt (number : ℕ) (changed : ℕ × Object) : Type 0 where
  pub name : IsOid changed.0
  pub object : IsStored number changed.1

-- The effect of the commit of this number: it has an object at least, the names ascend, and the
-- commit changed each object.
pub record IsStoredEffect (number : ℕ) (effect : Effect) : Type 0 where
  pub number_is : effect.number ≡ number
  pub some : 0 < length effect.objects
  pub count : length effect.objects < 2 ^ 32
  pub each : All (IsStoredAt number) effect.objects
  pub ascend : AscendByName effect.objects
