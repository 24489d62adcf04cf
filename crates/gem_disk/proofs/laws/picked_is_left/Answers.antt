use Rattle.gem_disk.proofs.Leaves.{picked_image}
use Rattle.gem_disk.proofs.laws.picked_is_left.Goals as goal

pub returns : goal.returns
returns c = picked_image
