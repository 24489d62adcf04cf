use Rattle.gem_disk.proofs.Placed.{reads_back, take-placed, drop-placed}
use Rattle.gem_disk.proofs.laws.written_reads_back.Goals as goal

pub returns-clause-written : goal.returns-clause-written
returns-clause-written c = reads_back

pub returns-clause-before : goal.returns-clause-before
returns-clause-before c = take-placed

pub returns-clause-behind : goal.returns-clause-behind
returns-clause-behind c = drop-placed
