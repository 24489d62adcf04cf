-- What is said of a log that can't be opened or added to.
use Rattle.std.specs.Prelude.{ℕ, List, ◌++◌, codes}
use Rattle.std.specs.Fmt.{decimal}
use Rattle.tran_log.specs.declared.fault.LogRule.{LogRule}
use Rattle.tran_log.specs.declared.fault.LogRule.TheVariants.{Length, Number, Effect, Gate, Mode}
use Rattle.tran_log.specs.declared.fault.LogFault.{LogFault}
use Rattle.tran_log.specs.declared.fault.LogFault.TheVariants as faults
use Rattle.tran_log.specs.declared.log.AppendFault.{AppendFault}
use Rattle.tran_log.specs.declared.log.AppendFault.TheVariants.{Full, Disk}

-- the number of a rule
abbrev pub rule_number : LogRule → ℕ
rule_number Length = 1
rule_number Number = 2
rule_number Effect = 3
rule_number Gate = 4
rule_number Mode = 5

-- the place of a log's first fault, and its rule
abbrev pub fault_text : LogFault → List ℕ
fault_text (faults.NotLog at rule) =
    codes "log byte " ++ decimal at ++ codes " rule L" ++ decimal (rule_number rule)
fault_text faults.Disk = codes "disk fault"
fault_text faults.NoMemory = codes "out of memory"

-- how long the log is, and the record that has no room
abbrev pub append_text : AppendFault → List ℕ
append_text (Full length size) = codes "the log of " ++ decimal length
    ++ codes " bytes has no room for " ++ decimal size
append_text Disk = codes "disk fault"
