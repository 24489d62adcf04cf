use Rattle.std.proofs.Common.{◌∙◌, ap, List, slice_get, option_map}
use Rattle.std.proofs.lemmas.Option.{slice_get-map}
use Rattle.st_tree.specs.Trees.{Program}
use Rattle.st_compiler.specs.Emitted.{Body, piece_body}
use Rattle.st_machine.specs.Parts.{table_of}
use Rattle.st_machine.proofs.shared_code.SharedCode.block.Goals as goal

pub returns : goal.returns
returns c =
    c.block_at.ensures
    ∙ (ap (λ (all : List Body). slice_get all c.args.number) c.blocks-2.ensures
    ∙ (slice_get-map piece_body (table_of c.compiled.result.now) c.args.number
    ∙ ap (λ (tree : Program). option_map piece_body (slice_get (table_of tree) c.args.number)) c.compiled.ensures))
