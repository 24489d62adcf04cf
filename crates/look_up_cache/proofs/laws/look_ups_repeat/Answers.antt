use Rattle.look_up_cache.proofs.Gives.{begins_does, finds_does, known_does}
use Rattle.look_up_cache.proofs.laws.look_ups_repeat.Goals as goal

pub returns : goal.returns
returns c = record {
  begins = λ name start seen begins. begins_does name start seen begins;
  finds = λ start selector found seen finds. finds_does start selector found seen finds;
  whole = λ frame receiver selector found seen known. known_does frame receiver selector found seen known;
}
