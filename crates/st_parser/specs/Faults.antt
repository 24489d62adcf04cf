-- The faults of a parse.
use Rattle.st_lexer.specs.declared.kinds.LexFault.{LexFault}
use Rattle.st_lexer.specs.declared.kinds.LexFault.TheVariants.{Bad, NoMemory as NoMemoryForTokens}
use Rattle.st_parser.specs.declared.faults.ParseFault.{ParseFault}
use Rattle.st_parser.specs.declared.faults.ParseFault.TheVariants.{Rule, NoMemory}

-- what becomes of a fault of the tokens
abbrev pub fault_from : LexFault → ParseFault
fault_from (Bad place rule) = Rule place rule
fault_from NoMemoryForTokens = NoMemory
