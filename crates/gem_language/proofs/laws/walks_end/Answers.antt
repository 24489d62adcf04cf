use Rattle.std.proofs.Common.{refl}
use Rattle.gem_language.proofs.Walks.{look_up_ends, names_end}
use Rattle.gem_language.proofs.laws.walks_end.Goals as goal

pub returns-clause-look_up : goal.returns-clause-look_up
returns-clause-look_up c to_super frame receiver selector setting state sound =
    look_up_ends setting state.world sound to_super frame receiver selector state (state.world.touched, refl)

pub returns-clause-names : goal.returns-clause-names
returns-clause-names c class setting state sound =
    names_end setting state.world sound class state (state.world.touched, refl)
