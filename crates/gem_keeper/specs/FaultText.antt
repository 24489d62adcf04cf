-- What is said of a checkpoint that wasn't made.
use Rattle.std.specs.Prelude.{ℕ, List, ◌++◌, codes}
use Rattle.std.specs.Fmt.{decimal}
use Rattle.gem_keeper.specs.declared.keeper.CheckFault.{CheckFault}
use Rattle.gem_keeper.specs.declared.keeper.CheckFault.TheVariants.{Full, Disk, NoMemory}

abbrev pub check_text : CheckFault → List ℕ
check_text (Full pages) = codes "a checkpoint of " ++ decimal pages ++ codes " pages"
check_text Disk = codes "disk fault"
check_text NoMemory = codes "out of memory"
