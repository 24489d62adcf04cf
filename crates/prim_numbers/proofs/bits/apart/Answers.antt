use Rattle.std.proofs.lemmas.Nat.{xor_lt}
use Rattle.prim_numbers.proofs.bits.apart.Goals as goal

pub returns-clause-small : goal.returns-clause-small
returns-clause-small c = xor_lt 63 c.args.bits c.args.others c.requires.one c.requires.other
