-- What a commit makes of a sound image: what the law on it says, as lemmas here take it.
use Rattle.gem_meaning.specs.gem_image.Image.{IsImage}
use Rattle.gem_meaning.specs.gem_sound.Sound.{IsSoundImage}
use Rattle.gem_meaning.specs.object_programs.Laws.{Stays}
use Rattle.gem_meaning.specs.Effect.{MergesFit}
use Rattle.commit_soundness.specs.Placing.{Placing, record_placed, image_made, CanRun}

-- A commit whose merged objects can be stored makes a sound image, which can be stored; and every
-- object stays, with its fixed part.
pub record CommitsKeep : Type 0 where
  pub sound : (p : Placing) → CanRun p → MergesFit p.place (record_placed p)
      → IsSoundImage (image_made p)
  pub image : (p : Placing) → CanRun p → MergesFit p.place (record_placed p) → IsImage (image_made p)
  pub stays : (p : Placing) → CanRun p → Stays p.place (image_made p)
