-- What is said of an extent that can't be opened.
use Rattle.std.specs.Prelude.{ℕ, List, ◌++◌, codes}
use Rattle.std.specs.Fmt.{decimal}
use Rattle.extent_pages.specs.declared.fault.PageRule.{PageRule}
use Rattle.extent_pages.specs.declared.fault.PageRule.TheVariants.{Outside, Taken, Used, Directory, Leaf, Object, Count}
use Rattle.extent_pages.specs.declared.fault.PageFault.{PageFault}
use Rattle.extent_pages.specs.declared.fault.PageFault.TheVariants.{NotPages, Disk, NoMemory}

-- the number of a rule
abbrev pub rule_number : PageRule → ℕ
rule_number Outside = 1
rule_number Taken = 2
rule_number Used = 3
rule_number Directory = 4
rule_number Leaf = 5
rule_number Object = 6
rule_number Count = 7

-- the page of an extent's first fault, by its offset, and its rule
abbrev pub fault_text : PageFault → List ℕ
fault_text (NotPages at rule) =
    codes "extent byte " ++ decimal at ++ codes " rule G" ++ decimal (rule_number rule)
fault_text Disk = codes "disk fault"
fault_text NoMemory = codes "out of memory"
