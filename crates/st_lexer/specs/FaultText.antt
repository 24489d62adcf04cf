-- What a fault of the tokens says.
use Rattle.std.specs.Prelude.{◌++◌, codes}
use Rattle.std.specs.Fmt.{decimal}
use Rattle.texts.specs.Bytes.{Bytes}
use Rattle.st_lexer.specs.declared.kinds.LexFault.{LexFault}
use Rattle.st_lexer.specs.declared.kinds.LexFault.TheVariants.{Bad, NoMemory}

abbrev pub fault_text : LexFault → Bytes
fault_text (Bad at rule) = codes "P" ++ decimal rule ++ codes " at " ++ decimal at
fault_text NoMemory = codes "out of memory"
