use Rattle.std.proofs.Common.{refl}
use Rattle.gem_sound.specs.Kernel.{kernel_bodies, kernel_classes}
use Rattle.image_check.proofs.kernel.bodies.Goals as goal

pub returns : goal.returns
unfolding kernel_bodies kernel_classes
returns c = refl
