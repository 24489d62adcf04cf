use Rattle.gem_language.specs.Sends.{outside}
use Rattle.st_compiler.proofs.OneAnswer.{one_end}
use Rattle.st_compiler.proofs.laws.one_answer.Goals as goal

pub returns : goal.returns
returns c depth setting table code first second place stack frame state =
    one_end (outside depth) setting table code first second place stack frame state
