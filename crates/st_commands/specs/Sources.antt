-- The trees of methods' sources.
use Rattle.std.specs.Prelude.{◌≡◌, ◌≤◌, ◌^◌, Option, None, Some, Ok, Err}
use Rattle.gem_object.specs.texts.Bytes.{Bytes as Text}
use Rattle.st_tree.specs.Trees.{Program}
use Rattle.st_tree.specs.Falls.{size_program}
use Rattle.object_programs.specs.st_grammar.Grammar.{method}
use Rattle.object_programs.specs.st_grammar_laws.TreeOf.{TextFault, tree_of}

-- A method's source has this tree, which isn't larger than any text gives, or it has none.
abbrev pub IsTreeOf : Text → Option Program → Type 0
IsTreeOf source (Some tree) =
    (tree_of method source ≡ Ok tree) × (size_program tree ≤ 2 ^ 40)
IsTreeOf source None = (fault : TextFault) × (tree_of method source ≡ Err fault)
