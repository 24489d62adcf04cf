use Rattle.st_lexer.proofs.Once.{one_list, one_fault, not_both, some_answer}
use Rattle.st_lexer.proofs.laws.one_answer.Goals as goal

pub returns : goal.returns
returns c = record {
  lists = λ text ts us a b. one_list a b;
  faults = λ text place other r s a b. one_fault a b;
  never_both = λ text ts place r a b. not_both a b;
  always = λ text. some_answer 0 text;
}
