use Rattle.std.proofs.lemmas.Nat.{or_lt}
use Rattle.prim_numbers.proofs.bits.either.Goals as goal

pub returns-clause-small : goal.returns-clause-small
returns-clause-small c = or_lt 63 c.args.bits c.args.others c.requires.one c.requires.other
