use Rattle.std.proofs.Common.{refl}
use Rattle.object_programs.specs.gem_sound.Kernel.{kernel_classes, kernel_bodies}
use Rattle.object_programs.specs.Guard.{names_at, fits}
use Rattle.object_programs.specs.Spelled.{is_spelled}
use Rattle.prim_rules.specs.Admitted.{kernel_parts}
use Rattle.prim_rules.proofs.later_laws.changed_objects_fit.Goals as goal

pub returns-clause-users : goal.returns-clause-users
unfolding kernel_parts kernel_classes kernel_bodies names_at fits is_spelled
returns-clause-users c = refl

pub returns-clause-segment : goal.returns-clause-segment
unfolding kernel_parts kernel_classes kernel_bodies names_at fits is_spelled
returns-clause-segment c = refl

pub returns-clause-user : goal.returns-clause-user
unfolding kernel_parts kernel_classes kernel_bodies names_at fits is_spelled
returns-clause-user c = refl
