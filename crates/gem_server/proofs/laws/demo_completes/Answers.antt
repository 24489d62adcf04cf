use Rattle.gem_server.proofs.Demos.{demo_completes as it_does}
use Rattle.gem_server.proofs.laws.demo_completes.Goals as goal

pub returns : goal.returns
returns c = it_does
