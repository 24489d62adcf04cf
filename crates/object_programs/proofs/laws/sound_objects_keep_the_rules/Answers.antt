use Rattle.object_programs.proofs.Rules.{keeps_references, keeps_methods, keeps_places, keeps_kernel, keeps_fitting, keeps_spelling, fits_here, kernel_here, sound_for, stored}
use Rattle.object_programs.proofs.laws.sound_objects_keep_the_rules.Goals as goal

pub returns-clause-references : goal.returns-clause-references
returns-clause-references c image setting world shows sound number object here =
    keeps_references image setting world shows number object here
    (fits_here image setting world shows number object sound here)

pub returns-clause-methods : goal.returns-clause-methods
returns-clause-methods c image setting world shows sound number object here =
    keeps_methods image setting world shows number object here
    (fits_here image setting world shows number object sound here)

pub returns-clause-classes : goal.returns-clause-classes
returns-clause-classes c image setting world shows sound number object here =
    keeps_places image setting world shows number object here
    (fits_here image setting world shows number object sound here)

pub returns-clause-bodies : goal.returns-clause-bodies
returns-clause-bodies c image setting world shows sound number object here =
    keeps_kernel image setting world shows number object here
    (fits_here image setting world shows number object sound here)

pub returns-clause-fitting : goal.returns-clause-fitting
returns-clause-fitting c image setting world shows sound number object here =
    keeps_fitting image setting world shows number object here
    (fits_here image setting world shows number object sound here)

pub returns-clause-spelled : goal.returns-clause-spelled
returns-clause-spelled c image setting world shows sound number object here =
    keeps_spelling image setting world shows number object here
    (fits_here image setting world shows number object sound here) sound

pub returns-clause-kernel : goal.returns-clause-kernel
returns-clause-kernel c image setting world shows sound number needed =
    kernel_here image setting world shows number sound needed

pub returns-clause-all : goal.returns-clause-all
returns-clause-all c image setting world shows sound =
    (sound_for image setting world shows sound, stored image setting world shows sound)
