use Rattle.std.proofs.Common.{◌≡◌, ◌≤◌, [], length}
use Rattle.st_tree.specs.Trees.{no_statements}
use Rattle.st_grammar_laws.specs.Machine.{Body, in_temps}
use Rattle.st_parser.specs.Descent.{Runs, params_of, filled}
use Rattle.st_parser.proofs.declarations.temporary_names.Given as goal

abbrev pub invariant-temps : goal.invariant-temps
invariant-temps l = record {
  runs : (b : Body) → params_of b ≡ l.params
      → Runs (in_temps (filled b [] no_statements)) l.fn.r
      (in_temps (filled b l.temps.items no_statements)) l.r;
  shorter : length l.r ≤ length l.fn.r;
}

abbrev pub decreases-temps : goal.decreases-temps
decreases-temps l = length l.r
