use Rattle.kernel_image.proofs.Named.{kernel_has}
use Rattle.kernel_image.proofs.KernelSound.{kernel_numbers}
use Rattle.kernel_image.proofs.laws.kernel_by_names.Goals as goal

pub returns-clause-objects : goal.returns-clause-objects
returns-clause-objects c = kernel_has

pub returns-clause-some : goal.returns-clause-some
returns-clause-some c = kernel_numbers
