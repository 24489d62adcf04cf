use Rattle.std.proofs.Common.{[], length}
use Rattle.st_grammar_laws.specs.Machine.{pattern_keyword}
use Rattle.st_parser.specs.Descent.{Runs}
use Rattle.st_parser.proofs.declarations.keyword_pattern.Given as goal

abbrev pub invariant-parts : goal.invariant-parts
invariant-parts l = Runs (pattern_keyword l.first []) l.fn.r (pattern_keyword l.selector.items l.params.items) l.r

abbrev pub decreases-parts : goal.decreases-parts
decreases-parts l = length l.r
