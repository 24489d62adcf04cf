use Rattle.st_grammar_laws.proofs.Function.{reads_tree, fails_tree, tree_reads, fault_fails}
use Rattle.st_grammar_laws.proofs.Supply.{supplies, stands}
use Rattle.st_grammar_laws.proofs.laws.as_function.Goals as goal

pub returns : goal.returns
returns c = record {
  tree = reads_tree;
  fault = fails_tree supplies stands;
  reads = tree_reads supplies stands;
  fails = fault_fails supplies stands;
}
