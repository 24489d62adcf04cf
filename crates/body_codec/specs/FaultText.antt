-- What is said of bytes that can't be read.
use Rattle.std.specs.Prelude.{ℕ, List, ◌++◌, codes}
use Rattle.std.specs.Fmt.{decimal}
use Rattle.body_codec.specs.declared.fault.BodyRule.{BodyRule}
use Rattle.body_codec.specs.declared.fault.BodyRule.TheVariants.{Length, Kind, Range, Order, Byte}
use Rattle.body_codec.specs.declared.fault.BodyFault.{BodyFault}
use Rattle.body_codec.specs.declared.fault.BodyFault.TheVariants.{Bad, NoMemory}

-- the number of a rule
abbrev pub rule_number : BodyRule → ℕ
rule_number Length = 1
rule_number Kind = 2
rule_number Range = 3
rule_number Order = 4
rule_number Byte = 5

-- where the first field that fails begins, and its rule
abbrev pub fault_text : BodyFault → List ℕ
fault_text (Bad at rule) =
    codes "byte " ++ decimal at ++ codes " rule B" ++ decimal (rule_number rule)
fault_text NoMemory = codes "out of memory"
