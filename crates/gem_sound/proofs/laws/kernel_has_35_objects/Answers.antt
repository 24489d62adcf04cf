use Rattle.gem_sound.specs.Kernel.{kernel_classes, kernel_bodies}
use Rattle.gem_sound.proofs.Numbered.{numbers}
use Rattle.gem_sound.proofs.laws.kernel_has_35_objects.Goals as goal

pub returns-clause-objects : goal.returns-clause-objects
unfolding kernel_bodies kernel_classes
returns-clause-objects c number = numbers kernel_bodies number

pub returns-clause-classes : goal.returns-clause-classes
unfolding kernel_classes
returns-clause-classes c number = numbers kernel_classes number
