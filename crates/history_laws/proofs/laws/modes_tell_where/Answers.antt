use Rattle.std.proofs.Common.{ap}
use Rattle.gem_meaning.specs.gem_record.declared.mode.Mode.{Mode}
use Rattle.gem_meaning.specs.Opened.{run_at}
use Rattle.gem_meaning.specs.Events.{image_at, ordinary_in, run_at_place}
use Rattle.history_laws.proofs.laws.modes_tell_where.Goals as goal

pub returns-clause-full : goal.returns-clause-full
unfolding run_at_place
returns-clause-full c o s e is =
    ap (λ (mode : Mode). run_at o e (ordinary_in mode s.image (image_at s e.view)) (image_at s e.view)) is

pub returns-clause-unchecked : goal.returns-clause-unchecked
unfolding run_at_place
returns-clause-unchecked c o s e is =
    ap (λ (mode : Mode). run_at o e (ordinary_in mode s.image (image_at s e.view)) (image_at s e.view)) is
