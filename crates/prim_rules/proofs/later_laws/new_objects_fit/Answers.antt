use Rattle.std.proofs.Common.{refl}
use Rattle.object_programs.specs.gem_sound.Kernel.{kernel_classes, kernel_bodies}
use Rattle.object_programs.specs.Guard.{names_at, fits}
use Rattle.object_programs.specs.Spelled.{is_spelled}
use Rattle.prim_rules.specs.Admitted.{kernel_parts, fit_beside_kernel}
use Rattle.prim_rules.proofs.later_laws.new_objects_fit.Goals as goal

pub returns-clause-user : goal.returns-clause-user
unfolding fit_beside_kernel kernel_parts kernel_classes kernel_bodies names_at fits is_spelled
returns-clause-user c = refl

pub returns-clause-class : goal.returns-clause-class
unfolding fit_beside_kernel kernel_parts kernel_classes kernel_bodies names_at fits is_spelled
returns-clause-class c = refl

pub returns-clause-dictionary : goal.returns-clause-dictionary
unfolding fit_beside_kernel kernel_parts kernel_classes kernel_bodies names_at fits is_spelled
returns-clause-dictionary c = refl

pub returns-clause-array : goal.returns-clause-array
unfolding fit_beside_kernel kernel_parts kernel_classes kernel_bodies names_at fits is_spelled
returns-clause-array c = refl
