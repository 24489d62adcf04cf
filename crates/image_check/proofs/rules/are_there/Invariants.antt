use Rattle.std.proofs.Common.{All, take, IsSome}
use Rattle.gem_image.specs.Image.{objects_in}
use Rattle.image_check.proofs.rules.are_there.Given as goal

abbrev pub invariant-loop-name : goal.invariant-loop-name
invariant-loop-name l = All (λ name. IsSome (objects_in l.image name)) (take l.name-index l.names)
