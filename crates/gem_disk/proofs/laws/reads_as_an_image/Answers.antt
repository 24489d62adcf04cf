use Rattle.std.proofs.Common.{refl}
use Rattle.gem_disk.proofs.Leaves.{writes_on, cuts_on, syncs_on}
use Rattle.gem_disk.proofs.laws.reads_as_an_image.Goals as goal

pub returns-clause-at_first : goal.returns-clause-at_first
returns-clause-at_first c files = record { extent = refl; log = refl }

pub returns-clause-after_write : goal.returns-clause-after_write
returns-clause-after_write c = writes_on

pub returns-clause-after_cut : goal.returns-clause-after_cut
returns-clause-after_cut c = cuts_on

pub returns-clause-after_sync : goal.returns-clause-after_sync
returns-clause-after_sync c = syncs_on
