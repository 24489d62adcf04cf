use Rattle.gem_world.proofs.Before.{read_ordinary, read_shared, read_later, read_nothing}
use Rattle.gem_world.proofs.laws.what_is_read.Goals as goal

pub returns-clause-ordinary : goal.returns-clause-ordinary
returns-clause-ordinary c = read_ordinary

pub returns-clause-shared : goal.returns-clause-shared
returns-clause-shared c = read_shared

pub returns-clause-later : goal.returns-clause-later
returns-clause-later c = read_later

pub returns-clause-nothing : goal.returns-clause-nothing
returns-clause-nothing c = read_nothing
