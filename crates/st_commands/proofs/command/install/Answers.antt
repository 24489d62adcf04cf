use Rattle.prim_parts.proofs.Does.{does_ran}
use Rattle.object_programs.specs.Local.{nothing}
use Rattle.gem_language.specs.tree_meaning.Place.{MadeBlock}
use Rattle.st_commands.proofs.command.install.Goals as goal

pub returns : goal.returns
returns g c = does_ran c.install.ensures (nothing MadeBlock)
