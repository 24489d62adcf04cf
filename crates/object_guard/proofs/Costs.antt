-- Limits of objects.
use Rattle.std.proofs.Common.{◌≡◌, refl, ap, ◌&&◌, List, [], ◌∷◌, map}
use Rattle.std.specs.List.{list_all}
use Rattle.gem_object.specs.declared.object.Object.{Object}
use Rattle.object_programs.specs.gem_image.Image.{contents_of}
use Rattle.object_programs.specs.Budget.{is_within_limits}

-- each of the objects is within the limits
pub limits_are : (objects : List Object) → list_all (λ (object : Object). is_within_limits (contents_of object)) objects
    ≡ list_all is_within_limits (map contents_of objects)
limits_are [] = refl
limits_are (object ∷ rest) = ap (λ b. is_within_limits (contents_of object) && b) (limits_are rest)
