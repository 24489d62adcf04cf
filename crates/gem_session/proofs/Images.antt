-- That what a view shows stays, as history_laws says it.
use Rattle.std.proofs.Common.{◌≤◌, ℕ}
use Rattle.running_objects.specs.object_programs.Laws.{Stays}
use Rattle.gem_meaning.specs.Events.{Told, image_at, standing}
use Rattle.gem_meaning.specs.Serial.{CanServe, IsSerial}

-- each object of an image that there was is in the image that stands, with its fixed part
abbrev pub ImagesStay : Type 0
ImagesStay = (t : Told) (view : ℕ) → CanServe t.opened → IsSerial t → t.opened.number ≤ view → view ≤ (standing t).number
    → Stays (image_at (standing t) view) (standing t).image
