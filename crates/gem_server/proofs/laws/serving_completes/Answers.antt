use Rattle.gem_server.proofs.StoreCompletes.{serving_completes as it_does}
use Rattle.gem_server.proofs.laws.serving_completes.Goals as goal

pub returns : goal.returns
returns c = it_does
