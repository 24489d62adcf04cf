-- Superclasses, followed from a class on, and how many names classes have with those that they
-- inherit.
use Rattle.std.specs.Prelude.{◌≡◌, ℕ, ◌^◌, ◌-◌, List, [], ◌∷◌, length, min, Option, Some, None}
use Rattle.std.specs.List.{AllByRecursion}
use Rattle.gem_object.specs.texts.Bytes.{Bytes as Text}
use Rattle.gem_object.specs.declared.body.ClassBody.{ClassBody}
use Rattle.gem_image.specs.Image.{Objects}
use Rattle.gem_sound.specs.Parts.{class_at}
use Rattle.gem_sound.specs.Inherited.{HasNames}
use Rattle.image_check.specs.declared.chains.Step.{Step}
use Rattle.image_check.specs.declared.chains.Seen.{Seen}
use Rattle.image_check.specs.declared.chains.Seen.TheVariants.{Known, Above, Nothing}

-- the superclasses of the class end at Object, and it has so many names with those that it
-- inherits. The number stays at 2^64 - 1 once it is there.
pub record IsCount (objects : Objects) (class count : ℕ) : Type 0 where
  pub names : List Text
  pub chain : HasNames objects class names
  pub count_is : count ≡ min (length names) (2 ^ 64 - 1)

-- the superclasses don't end at Object
abbrev pub IsEndless : Objects → ℕ → Type 0
IsEndless objects class = (names : List Text) → HasNames objects class names → ⊥

abbrev pub IsCountOf : Objects → ℕ → Option ℕ → Type 0
IsCountOf objects class None = IsEndless objects class
IsCountOf objects class (Some count) = IsCount objects class count

-- what is kept of classes that were looked at: each with how many names it has
pub record AreCounts (objects : Objects) (entries : List (ℕ × ℕ)) : Type 0 where
  pub each : AllByRecursion (λ entry. IsCount objects entry.0 entry.1) entries

-- a class with its own names, and its superclass
pub record IsStep (objects : Objects) (step : Step) (above : ℕ) : Type 0 where
  pub class : ClassBody
  pub there : class_at objects step.class ≡ Some class
  pub own : step.own ≡ length class.names
  pub superclass : class.superclass ≡ Some above

-- the steps lead from one class to another
abbrev pub AreSteps : Objects → List Step → ℕ → ℕ → Type 0
AreSteps objects [] from to = from ≡ to
AreSteps objects (step ∷ steps) from to =
    (step.class ≡ from) × (above : ℕ) × IsStep objects step above × AreSteps objects steps above to

-- the steps lead from a class to one that has so many names
pub record IsClimb (objects : Objects) (class : ℕ) (steps : List Step) (count : ℕ) : Type 0 where
  pub top : ℕ
  pub steps_are : AreSteps objects steps class top
  pub count_is : IsCount objects top count

-- what is seen at a class: its count, where it is known; its superclass; or that there is none
abbrev pub IsSeen : Objects → ℕ → Seen → Type 0
IsSeen objects class (Known count) = IsCount objects class count
IsSeen objects class (Above own above) =
    IsStep objects (record { class = class; own = own }) above
IsSeen objects class Nothing = IsEndless objects class
