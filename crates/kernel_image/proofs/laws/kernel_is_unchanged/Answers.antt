use Rattle.kernel_image.proofs.Unchanged.{kernel_unchanged}
use Rattle.kernel_image.proofs.laws.kernel_is_unchanged.Goals as goal

pub returns : goal.returns
returns c = kernel_unchanged
