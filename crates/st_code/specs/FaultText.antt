-- Faults as text.
use Rattle.std.specs.Prelude.{ℕ, List, ◌++◌, codes}
use Rattle.std.specs.Fmt.{decimal}
use Rattle.st_code.specs.declared.fault.CodeFault.{CodeFault}
use Rattle.st_code.specs.declared.fault.CodeFault.TheVariants.{Byte, Jump, Operand, Stack, NoMemory}

abbrev pub fault_text : CodeFault → List ℕ
fault_text (Byte at) = codes "byte at " ++ decimal at
fault_text (Jump at) = codes "jump at " ++ decimal at
fault_text (Operand at) = codes "operand at " ++ decimal at
fault_text (Stack at) = codes "stack at " ++ decimal at
fault_text NoMemory = codes "out of memory"
