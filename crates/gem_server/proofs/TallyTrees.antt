-- The trees of the tally's chunks.
use Rattle.std.proofs.Common.{◌≡◌, false, [], ◌∷◌, Ok, refl, codes}
use Rattle.gem_meaning.specs.texts.Bytes.{Bytes}
use Rattle.gem_meaning.specs.texts.Lines.{text_of_lines}
use Rattle.gem_meaning.specs.st_tree.Trees.{Program, statement}
use Rattle.gem_meaning.specs.st_grammar.Grammar.{chunk}
use Rattle.gem_meaning.specs.st_grammar.Lexed.{tokens_of}
use Rattle.gem_meaning.specs.st_grammar_laws.TreeOf.{tree_of}
use Rattle.gem_server.proofs.LoadTrees.{a_chunk, sent}

-- the chunk that prints the counter's value
abbrev pub value_chunk : Bytes
value_chunk = text_of_lines (codes "Hits value" ∷ [])

abbrev pub value_tree : Program
value_tree = a_chunk (statement false (sent (codes "Hits") (codes "value") []) ∷ [])

pub value_read : tree_of chunk value_chunk ≡ Ok value_tree
unfolding tree_of tokens_of
value_read = refl

-- the chunk that prints the bag's size
abbrev pub size_chunk : Bytes
size_chunk = text_of_lines (codes "Names size" ∷ [])

abbrev pub size_tree : Program
size_tree = a_chunk (statement false (sent (codes "Names") (codes "size") []) ∷ [])

pub size_read : tree_of chunk size_chunk ≡ Ok size_tree
unfolding tree_of tokens_of
size_read = refl
