use Rattle.std.proofs.Common.{refl}
use Rattle.prim_rules.specs.Making.{make_and_enter}
use Rattle.prim_rules.proofs.later_laws.enters_in_order.Goals as goal

pub returns-clause-large : goal.returns-clause-large
unfolding make_and_enter
returns-clause-large c entered dictionary setting state small large = rw (small, large) refl

pub returns-clause-used_up : goal.returns-clause-used_up
unfolding make_and_enter
returns-clause-used_up c entered dictionary setting state small fits none =
    rw (small, fits, none) refl

pub returns-clause-too_little : goal.returns-clause-too_little
unfolding make_and_enter
returns-clause-too_little c entered dictionary setting state small fits names none =
    rw (small, fits, names, none) refl

pub returns-clause-no_space : goal.returns-clause-no_space
unfolding make_and_enter
returns-clause-no_space c entered dictionary setting state small fits names all left room none =
    rw (small, fits, names, room, all, left, none) refl
