-- What is answered of bytes: the thing whose spelling they begin with, or the first fault.
use Rattle.std.specs.Prelude.{◌≡◌, ℕ, ◌-◌, ◌≤◌, List, length, take, drop}
use Rattle.body_codec.specs.declared.fault.BodyRule.{BodyRule}
use Rattle.body_codec.specs.declared.fault.BodyFault.{BodyFault}
use Rattle.body_codec.specs.declared.fault.BodyFault.TheVariants.{Bad, NoMemory}
use Rattle.body_codec.specs.declared.fault.ReadError.{ReadError}
use Rattle.body_codec.specs.declared.fault.ReadError.TheVariants as errors
use Rattle.body_codec.specs.Reading.{Reader, breaks}

module _ {X : Type 0} (IsOne : X → Type 0) (spelled : X → List ℕ) where
  -- the bytes begin with the spelling of this thing, which has this size
  pub record IsRead (bytes : List ℕ) (x : X) (size : ℕ) : Type 0 where
    pub is_one : IsOne x
    pub front : take size bytes ≡ spelled x
    pub size_is : size ≡ length (spelled x)

  -- the bytes begin with the spelling of none
  abbrev pub NoneIsRead : List ℕ → Type 0
  NoneIsRead bytes = (x : X) (size : ℕ) → IsRead bytes x size → ⊥

-- The first field that fails, where fields are read so, begins at this offset, and breaks this
-- rule.
pub record IsFirstFault {X : Type 0} (read : Reader X) (bytes : List ℕ) (at : ℕ)
    (broken : BodyRule) : Type 0 where
  pub inside : at ≤ length bytes
  pub fails : read bytes ≡ breaks (drop at bytes) broken

-- what is told of an error in reading so many bytes
abbrev pub fault_of : ℕ → ReadError → BodyFault
fault_of size errors.Memory = NoMemory
fault_of size (errors.Flaw flaw) = Bad (size - flaw.left) flaw.rule
