use Rattle.st_grammar.specs.Lexed.{tokens_of}
use Rattle.st_lexer.proofs.Function.{gives_tokens, gives_fault}
use Rattle.st_lexer.proofs.laws.as_function.Goals as goal

pub returns : goal.returns
unfolding tokens_of
returns c = record {
  tokens = λ text ts h. gives_tokens h;
  fault = λ text place r h. gives_fault h;
}
