use Rattle.look_up_cache.proofs.Keeps.{answered_remains}
use Rattle.look_up_cache.proofs.Operators.{integers_answer}
use Rattle.look_up_cache.proofs.laws.operators_are_remembered.Goals as goal

pub returns : goal.returns
returns c = record {
  answers = λ operator seen answered. integers_answer operator seen answered;
  remains = λ operator before after remains answered. answered_remains before after remains operator answered;
}
