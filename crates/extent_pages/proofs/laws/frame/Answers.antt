use Rattle.extent_pages.proofs.Frame.{laid_kept}
use Rattle.extent_pages.proofs.Ways.{extent_reads, extent_takes}
use Rattle.extent_pages.proofs.Files.{opens, opened, open_kept}
use Rattle.extent_pages.proofs.laws.frame.Goals as goal

pub returns-clause-root : goal.returns-clause-root
returns-clause-root c book other page extent keeps e =
    extent_reads other page extent (laid_kept book other page extent keeps (extent_takes book page extent e))

pub returns-clause-file : goal.returns-clause-file
returns-clause-file c file image extent start keeps e =
    opens image extent (open_kept file image extent start keeps (opened file extent e))
