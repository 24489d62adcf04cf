use Rattle.gem_language.specs.Sends.{outside}
use Rattle.st_compiler.proofs.Heights.{rows_kept}
use Rattle.st_compiler.proofs.laws.rows_are_kept.Goals as goal

pub returns : goal.returns
returns c depth setting table one next back other another place stack frame state same also =
    rows_kept (outside depth) setting table one next back other another place stack frame state same also
