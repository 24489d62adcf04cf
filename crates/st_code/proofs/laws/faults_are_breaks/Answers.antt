use Rattle.st_code.proofs.Breaks.{code_breaks}
use Rattle.st_code.proofs.laws.faults_are_breaks.Goals as goal

pub returns : goal.returns
returns c bytes literals blocks fault are is = code_breaks bytes literals blocks fault are is
