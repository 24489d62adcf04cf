-- The code of each part of a text does what the part means.
use Rattle.std.proofs.Common.{Option, None, Some, All}
use Rattle.gem_object.specs.texts.Bytes.{Bytes as Text}
use Rattle.st_tree.specs.Trees.{Program}
use Rattle.tree_meaning.specs.gem_world.World.{Setting}
use Rattle.tree_meaning.specs.Meaning.{Outside}
use Rattle.st_compiler.specs.Emitted.{text_code_by}
use Rattle.st_compiler.specs.Runs.{Runs, IsBlockCode}
use Rattle.st_compiler.proofs.Whole.{all_has, method_runs, chunk_runs}
use Rattle.st_compiler.proofs.Blocks.{method_blocks, chunk_blocks}
use Rattle.st_machine.specs.Parts.{table_of, no_piece, HasPart, part_code, text_run_by, part_run}
use Rattle.st_machine.specs.declared.shared_code.Part.{Part}
use Rattle.st_machine.specs.declared.shared_code.Part.TheVariants.{Whole, Block}

module _ (outside : Outside) (setting : Setting) (tree : Program) where
  text_runs : (selector : Option Text)
      → Runs outside setting (text_code_by selector tree 0).pieces (text_code_by selector tree 0).code
      (text_run_by selector outside tree)
  text_runs None = chunk_runs outside setting (text_code_by None tree 0).pieces tree
      (all_has (text_code_by None tree 0).pieces)
  text_runs (Some selector) = method_runs outside setting (text_code_by (Some selector) tree 0).pieces tree
      (all_has (text_code_by (Some selector) tree 0).pieces)

  blocks_run : (selector : Option Text)
      → All (IsBlockCode outside setting (text_code_by selector tree 0).pieces)
      (text_code_by selector tree 0).pieces
  blocks_run None = (chunk_blocks outside setting (text_code_by None tree 0).pieces tree).right 0
      (all_has (text_code_by None tree 0).pieces)
  blocks_run (Some selector) = (method_blocks outside setting (text_code_by (Some selector) tree 0).pieces tree).right 0
      (all_has (text_code_by (Some selector) tree 0).pieces)

  pub part_runs : (part : Part) → HasPart tree part
      → Runs outside setting (table_of tree) (part_code tree part) (part_run outside tree part)
  part_runs Whole has = text_runs tree.selector
  part_runs (Block number) has = blocks_run tree.selector number no_piece has
