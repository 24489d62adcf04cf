use Rattle.std.proofs.Common.{◌≤◌, length}
use Rattle.st_tree.specs.Trees.{Constants}
use Rattle.st_grammar_laws.specs.Machine.{Nest, element_run}
use Rattle.st_parser.specs.Descent.{Runs}
use Rattle.st_parser.proofs.literals.keyword_run.Given as goal

abbrev pub invariant-joined : goal.invariant-joined
invariant-joined l = record {
  runs : (n : Nest) (cs : Constants)
      → Runs (element_run n cs l.first) l.fn.r (element_run n cs l.symbol.items) l.r;
  shorter : length l.r ≤ length l.fn.r;
}

abbrev pub decreases-joined : goal.decreases-joined
decreases-joined l = length l.r
