use Rattle.kernel_image.proofs.KernelSound.{kernel_is_sound}
use Rattle.kernel_image.proofs.laws.kernel_is_sound.Goals as goal

pub returns : goal.returns
returns c = kernel_is_sound
