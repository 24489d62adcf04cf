-- What a crash leaves of what a keeper stores. Each thing that it may leave is told by what is found
-- there, and `None` is told where nothing can be found.
use Rattle.std.specs.Prelude.{◌≡◌, ◌<◌, ◌≤◌, ◌⊎◌, ◌+◌, ◌^◌, ℕ, List, [], ◌∷◌, ◌++◌, length, Option}
use Rattle.gem_image.specs.Image.{Image, with_objects}
use Rattle.gem_record.specs.declared.mode.Mode.{Mode}
use Rattle.gem_record.specs.declared.effect.Effect.{Effect}
use Rattle.gem_record.specs.declared.limits.TheConstants.{LOG_LIMIT}
use Rattle.body_codec.specs.Stored.{IsStoredEffect}
use Rattle.tran_log.specs.Log.{spelled_record}
use Rattle.gem_keeper.specs.Found.{Found, StandsFor}

-- The body is the record of the effect of the commit after this number, in some mode, with the gate
-- behind it, closed. One that is longer than any log may be of anything.
pub record IsNextBody (number : ℕ) (effect : Effect) (body : List ℕ) : Type 0 where
  pub mode : Mode
  pub body_is : body ≡ spelled_record mode effect ++ 0 ∷ []
  pub small : number + 1 < 2 ^ 63
  pub stored : length body ≤ LOG_LIMIT → IsStoredEffect (number + 1) effect

-- It stands for the image with so many commits, or for that with one commit more.
abbrev pub StandsForEither : Image → (number : ℕ) → Effect → Option Found → Type 0
StandsForEither image number effect left = StandsFor image number left
    ⊎ StandsFor (with_objects image effect.objects) (number + 1) left

-- By a keeper's moments, what it stands for as it reads, and what a crash may leave of it since a
-- moment:
module _ {K : Type 0} (moment : K → ℕ) (stands : K → Option Found)
    (left_since : K → ℕ → Option Found → Type 0) where
  -- What the keeper stands for as it reads fits, and so does all that a crash at this moment may
  -- leave of it.
  pub record FitsNow (keeper : K) (Fits : Option Found → Type 0) : Type 0 where
    pub reads : Fits (stands keeper)
    pub crash : (left : Option Found) → left_since keeper (moment keeper) left → Fits left

module _ {K : Type 0} (moment : K → ℕ) (left_since : K → ℕ → Option Found → Type 0) where
  -- From one state of a keeper to a later one: all fits that a crash since the moment of the first
  -- may leave, and what one at the moment of the second may; and what one since an earlier moment may
  -- leave fits, or it might have left that before.
  pub record KeepsOnly (old new : K) (Fits : Option Found → Type 0) : Type 0 where
    pub later : moment old ≤ moment new
    pub each : (left : Option Found) → left_since new (moment old) left → Fits left
    pub now : (left : Option Found) → left_since new (moment new) left → Fits left
    pub before : (t : ℕ) (left : Option Found) → t ≤ moment old → left_since new t left
        → left_since old t left ⊎ Fits left
