use Rattle.gem_server.proofs.StoreCompletes.{looking_completes as it_does}
use Rattle.gem_server.proofs.laws.looking_completes.Goals as goal

pub returns : goal.returns
returns c = it_does
