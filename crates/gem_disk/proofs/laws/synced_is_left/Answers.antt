use Rattle.gem_disk.proofs.Leaves.{only_synced}
use Rattle.gem_disk.proofs.laws.synced_is_left.Goals as goal

pub returns : goal.returns
returns c = only_synced
