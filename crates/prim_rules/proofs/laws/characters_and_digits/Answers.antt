use Rattle.std.specs.Prelude.{refl}
use Rattle.std.specs.Fmt.{digits}
use Rattle.prim_rules.proofs.laws.characters_and_digits.Goals as goal

pub returns-clause-capital : goal.returns-clause-capital
unfolding digits
returns-clause-capital c = refl

pub returns-clause-binary : goal.returns-clause-binary
unfolding digits
returns-clause-binary c = refl

pub returns-clause-minus : goal.returns-clause-minus
unfolding digits
returns-clause-minus c = refl

pub returns-clause-zero : goal.returns-clause-zero
unfolding digits
returns-clause-zero c = refl
