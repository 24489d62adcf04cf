use Rattle.std.proofs.Common.{slice_index_or}
use Rattle.tree_meaning.specs.Bodies.{method_body, chunk_body, block_body}
use Rattle.st_compiler.specs.TreeCode.{method_code, chunk_code}
use Rattle.gem_language.specs.Sends.{outside}
use Rattle.st_compiler.proofs.Whole.{all_has, method_runs, chunk_runs}
use Rattle.st_compiler.proofs.Blocks.{method_blocks, chunk_blocks}
use Rattle.st_compiler.proofs.OneAnswer.{every_run}
use Rattle.st_compiler.proofs.laws.every_run_means_tree.Goals as goal

pub returns-clause-method : goal.returns-clause-method
returns-clause-method c depth setting tree =
    let table = (method_code tree 0).pieces in
    every_run (outside depth) setting table (method_code tree 0).code (method_body (outside depth) tree)
    (method_runs (outside depth) setting table tree (all_has table))

pub returns-clause-chunk : goal.returns-clause-chunk
returns-clause-chunk c depth setting tree =
    let table = (chunk_code tree 0).pieces in
    every_run (outside depth) setting table (chunk_code tree 0).code (chunk_body (outside depth) tree)
    (chunk_runs (outside depth) setting table tree (all_has table))

pub returns-clause-blocks : goal.returns-clause-blocks
returns-clause-blocks c depth setting tree =
    let table = (method_code tree 0).pieces in
    λ at none within.
    let piece = slice_index_or table at none in
    every_run (outside depth) setting table piece.code
    (block_body (outside depth) piece.tree piece.place)
    ((method_blocks (outside depth) setting table tree).right 0 (all_has table) at none within)

pub returns-clause-chunk_blocks : goal.returns-clause-chunk_blocks
returns-clause-chunk_blocks c depth setting tree =
    let table = (chunk_code tree 0).pieces in
    λ at none within.
    let piece = slice_index_or table at none in
    every_run (outside depth) setting table piece.code
    (block_body (outside depth) piece.tree piece.place)
    ((chunk_blocks (outside depth) setting table tree).right 0 (all_has table) at none within)
