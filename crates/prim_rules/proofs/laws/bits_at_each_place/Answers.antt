use Rattle.prim_rules.proofs.Bits.{bit_of_and, bit_of_or, bit_of_xor}
use Rattle.prim_rules.proofs.laws.bits_at_each_place.Goals as goal

pub returns-clause-both : goal.returns-clause-both
returns-clause-both c = bit_of_and

pub returns-clause-any : goal.returns-clause-any
returns-clause-any c = bit_of_or

pub returns-clause-just_one : goal.returns-clause-just_one
returns-clause-just_one c = bit_of_xor
