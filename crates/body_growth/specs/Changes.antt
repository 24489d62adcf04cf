-- How a body's slots and stored bytes change: what goes away and what comes.
use Rattle.std.specs.Prelude.{◌≡◌, ◌≤◌, ◌+◌, ◌-◌, ◌^◌, ℕ, min, Option, Some, is_some}
use Rattle.gem_object.specs.Slots.{slots_of}
use Rattle.gem_object.specs.Sizes.{fields_size}
use Rattle.gem_object.specs.declared.body.Body.{Body}
use Rattle.body_growth.specs.declared.change.Change.{Change}

-- one number is another one after so much went of it and so much came
pub record Shifts (old freed taken new : ℕ) : Type 0 where
  pub had : freed ≤ old
  pub is : new + freed ≡ old + taken

-- a number that stays at 2^64 - 1 once it is there
abbrev pub counted : ℕ → ℕ
counted number = min number (2 ^ 64 - 1)

-- the bytes of a body's fields, as they are counted
abbrev pub bytes_of : Body → ℕ
bytes_of body = counted (fields_size body)

-- The change says what goes and comes between two bodies, where its bytes stay at 2^64 - 1 once they
-- are there. At most two slots go.
pub record Changes (change : Change) (old new : Body) : Type 0 where
  pub slots : Shifts (slots_of old) change.slots_freed change.slots_taken (slots_of new)
  pub few : change.slots_freed ≤ 2
  pub freed : ℕ
  pub taken : ℕ
  pub bytes : Shifts (fields_size old) freed taken (fields_size new)
  pub freed_is : change.bytes_freed ≡ counted freed
  pub taken_is : change.bytes_taken ≡ counted taken

-- This tells the change between a body and the new one, and no change exactly where there is no new
-- one.
pub record Tells (told : Option Change) (old : Body) (new : Option Body) : Type 0 where
  pub taken : is_some told ≡ is_some new
  pub changes : (change : Change) (after : Body) → told ≡ Some change → new ≡ Some after
      → Changes change old after
