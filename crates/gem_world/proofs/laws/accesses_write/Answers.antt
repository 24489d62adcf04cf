use Rattle.gem_world.proofs.Accesses.{refused, read, written}
use Rattle.gem_world.proofs.laws.accesses_write.Goals as goal

pub returns-clause-refused : goal.returns-clause-refused
returns-clause-refused c = refused

pub returns-clause-read : goal.returns-clause-read
returns-clause-read c = read

pub returns-clause-written : goal.returns-clause-written
returns-clause-written c = written
