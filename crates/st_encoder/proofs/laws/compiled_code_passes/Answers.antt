use Rattle.st_encoder.proofs.Texts.{text_passes}
use Rattle.st_encoder.proofs.laws.compiled_code_passes.Goals as goal

pub returns : goal.returns
returns c tree fits = text_passes tree fits
