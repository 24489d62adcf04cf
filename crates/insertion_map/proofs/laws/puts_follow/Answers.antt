use Rattle.insertion_map.proofs.Puts.{put_twice, puts_apart}
use Rattle.insertion_map.proofs.laws.puts_follow.Goals as goal

pub returns-clause-twice : goal.returns-clause-twice
returns-clause-twice g c = λ pairs one other x y tied. put_twice g.K.PartialEq.eq g.met.K.Eq.laws one other x y pairs tied

pub returns-clause-apart : goal.returns-clause-apart
returns-clause-apart g c = λ pairs one other x y apart there. puts_apart g.K.PartialEq.eq g.met.K.Eq.laws one other x y pairs apart there
