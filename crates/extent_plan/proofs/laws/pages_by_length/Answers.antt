use Rattle.extent_plan.proofs.Same.{chain_many}
use Rattle.extent_plan.proofs.laws.pages_by_length.Goals as goal

pub returns : goal.returns
returns c file taken chain is = (chain_many file chain.pages chain.payload taken is.links is.free).0
