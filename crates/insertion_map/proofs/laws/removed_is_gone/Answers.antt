use Rattle.insertion_map.proofs.Removals.{entry_without, others_stay, absent_stays, distinct_without}
use Rattle.insertion_map.proofs.laws.removed_is_gone.Goals as goal

pub returns-clause-entries : goal.returns-clause-entries
returns-clause-entries g c = λ pairs removed key distinct. entry_without g.K.PartialEq.eq g.met.K.Eq.laws removed key pairs distinct

pub returns-clause-others : goal.returns-clause-others
returns-clause-others g c = λ pairs removed distinct. others_stay g.K.PartialEq.eq g.met.K.Eq.laws removed pairs distinct

pub returns-clause-absent : goal.returns-clause-absent
returns-clause-absent g c = λ pairs removed none. absent_stays g.K.PartialEq.eq removed pairs none

pub returns-clause-distinct : goal.returns-clause-distinct
returns-clause-distinct g c = λ pairs removed distinct. distinct_without g.K.PartialEq.eq removed pairs distinct
