use Rattle.st_compiler.specs.TreeCode.{method_code, chunk_code}
use Rattle.gem_language.specs.Sends.{outside}
use Rattle.st_compiler.proofs.Whole.{all_has, method_runs, chunk_runs}
use Rattle.st_compiler.proofs.laws.code_means_tree.Goals as goal

pub returns-clause-method : goal.returns-clause-method
returns-clause-method c depth setting tree =
    method_runs (outside depth) setting (method_code tree 0).pieces tree
    (all_has (method_code tree 0).pieces)

pub returns-clause-chunk : goal.returns-clause-chunk
returns-clause-chunk c depth setting tree =
    chunk_runs (outside depth) setting (chunk_code tree 0).pieces tree
    (all_has (chunk_code tree 0).pieces)
