use Rattle.st_grammar_laws.proofs.OneAnswer.{one_tree, one_place, never_both, some_answer_there}
use Rattle.st_grammar_laws.proofs.Supply.{supplies, stands}
use Rattle.st_grammar_laws.proofs.laws.one_answer.Goals as goal

pub returns : goal.returns
returns c = record {
  trees = one_tree;
  places = one_place supplies stands;
  never_both = never_both supplies stands;
  always = some_answer_there supplies stands;
}
