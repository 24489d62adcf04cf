use Rattle.gem_server.proofs.Honest.{new_is_honest}
use Rattle.gem_server.proofs.laws.new_disks_are_honest.Goals as goal

pub returns : goal.returns
returns c = new_is_honest
