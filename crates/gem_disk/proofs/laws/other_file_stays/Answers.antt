use Rattle.gem_disk.proofs.Leaves.{other_reads, other_images}
use Rattle.gem_disk.proofs.laws.other_file_stays.Goals as goal

pub returns-clause-reads : goal.returns-clause-reads
returns-clause-reads c = other_reads

pub returns-clause-images : goal.returns-clause-images
returns-clause-images c = other_images
