-- What a fault of a parse says.
use Rattle.std.specs.Prelude.{◌++◌, codes}
use Rattle.std.specs.Fmt.{decimal}
use Rattle.texts.specs.Bytes.{Bytes}
use Rattle.st_parser.specs.declared.faults.ParseFault.{ParseFault}
use Rattle.st_parser.specs.declared.faults.ParseFault.TheVariants.{Rule, NoMemory}

abbrev pub fault_text : ParseFault → Bytes
fault_text (Rule at rule) = codes "P" ++ decimal rule ++ codes " at " ++ decimal at
fault_text NoMemory = codes "out of memory"
