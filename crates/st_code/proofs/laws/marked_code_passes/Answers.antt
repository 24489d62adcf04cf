use Rattle.st_code.proofs.Passes.{passes}
use Rattle.st_code.proofs.laws.marked_code_passes.Goals as goal

pub returns : goal.returns
returns c bytes literals blocks lines marks are read content =
    passes literals blocks lines marks content bytes are read
