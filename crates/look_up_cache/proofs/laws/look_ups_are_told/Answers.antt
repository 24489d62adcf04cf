use Rattle.look_up_cache.proofs.Told.{method_told}
use Rattle.look_up_cache.proofs.laws.look_ups_are_told.Goals as goal

pub returns : goal.returns
returns c = λ frame receiver selector found before after does. method_told frame receiver selector found before after does
