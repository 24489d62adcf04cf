use Rattle.look_up_cache.proofs.Operators.{begun_for_integer}
use Rattle.look_up_cache.proofs.operator.start_of_integer.Goals as goal

pub returns-in-Int : goal.returns-in-Int
returns-in-Int c = begun_for_integer _ c.args.receiver.now c.start_of_plain.result c.in-Int.is c.start_of_plain.ensures
