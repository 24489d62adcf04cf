use Rattle.insertion_map.proofs.Puts.{new_last, keys_kept}
use Rattle.insertion_map.proofs.laws.put_keeps_order.Goals as goal

pub returns-clause-new : goal.returns-clause-new
returns-clause-new g c = λ pairs key value none. new_last g.K.PartialEq.eq key value pairs none

pub returns-clause-present : goal.returns-clause-present
returns-clause-present g c = λ pairs key value there. keys_kept g.K.PartialEq.eq key value pairs there
