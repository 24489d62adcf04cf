use Rattle.insertion_map.proofs.Puts.{entry_put, distinct_put}
use Rattle.insertion_map.proofs.laws.put_is_shown.Goals as goal

pub returns-clause-entries : goal.returns-clause-entries
returns-clause-entries g c = λ pairs put key value. entry_put g.K.PartialEq.eq g.met.K.Eq.laws put key value pairs

pub returns-clause-distinct : goal.returns-clause-distinct
returns-clause-distinct g c = λ pairs key value distinct. distinct_put g.K.PartialEq.eq g.met.K.Eq.laws key value pairs distinct
