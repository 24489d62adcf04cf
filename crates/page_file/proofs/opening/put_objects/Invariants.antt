use Rattle.std.proofs.Common.{◌≡◌, All, length}
use Rattle.gem_object.specs.Spelling.{IsSpelled}
use Rattle.page_file.specs.Opening.{objects_put}
use Rattle.page_file.proofs.opening.put_objects.Given as goal

abbrev pub invariant-loop-entry : goal.invariant-loop-entry
invariant-loop-entry g l =
    (objects_put l.objects.items l.image ≡ objects_put l.fn.objects.items l.fn.image)
    × All (λ entry. IsSpelled entry.1) l.objects.items

abbrev pub decreases-loop-entry : goal.decreases-loop-entry
decreases-loop-entry g l = length l.objects.items
