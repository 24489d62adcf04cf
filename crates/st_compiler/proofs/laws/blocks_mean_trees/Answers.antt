use Rattle.st_compiler.specs.TreeCode.{method_code, chunk_code}
use Rattle.gem_language.specs.Sends.{outside}
use Rattle.st_compiler.proofs.Whole.{all_has}
use Rattle.st_compiler.proofs.Blocks.{method_blocks, chunk_blocks}
use Rattle.st_compiler.proofs.laws.blocks_mean_trees.Goals as goal

pub returns-clause-method : goal.returns-clause-method
returns-clause-method c depth setting tree =
    let table = (method_code tree 0).pieces in
    (method_blocks (outside depth) setting table tree).right 0 (all_has table)

pub returns-clause-chunk : goal.returns-clause-chunk
returns-clause-chunk c depth setting tree =
    let table = (chunk_code tree 0).pieces in
    (chunk_blocks (outside depth) setting table tree).right 0 (all_has table)
