use Rattle.gem_world.proofs.Before.{private_made, private_shared, private_ordinary, private_nothing}
use Rattle.gem_world.proofs.laws.what_is_private.Goals as goal

pub returns-clause-made : goal.returns-clause-made
returns-clause-made c = private_made

pub returns-clause-shared : goal.returns-clause-shared
returns-clause-shared c = private_shared

pub returns-clause-ordinary : goal.returns-clause-ordinary
returns-clause-ordinary c = private_ordinary

pub returns-clause-nothing : goal.returns-clause-nothing
returns-clause-nothing c = private_nothing
