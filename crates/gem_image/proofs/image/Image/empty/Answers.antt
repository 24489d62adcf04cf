use Rattle.gem_image.proofs.Puts.{empty_is}
use Rattle.gem_image.proofs.image.Image.empty.Goals as goal

pub invariant_of-result : goal.invariant_of-result
invariant_of-result c = empty_is _ c.new.ensures
