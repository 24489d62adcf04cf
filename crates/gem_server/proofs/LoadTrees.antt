-- The trees of the chunks.
use Rattle.std.proofs.Common.{◌≡◌, false, List, [], ◌∷◌, Ok, None, refl, codes}
use Rattle.gem_meaning.specs.texts.Bytes.{Bytes}
use Rattle.gem_meaning.specs.texts.Lines.{text_of_lines}
use Rattle.gem_meaning.specs.st_tree.Trees.{Program, sym, Head, name, constant, Expression, expression, expressions, Statement, send, sends, statement, statements}
use Rattle.gem_meaning.specs.st_grammar.Grammar.{chunk}
use Rattle.gem_meaning.specs.st_grammar.Lexed.{tokens_of}
use Rattle.gem_meaning.specs.st_grammar_laws.TreeOf.{tree_of}

abbrev pub alone : Head → Expression
alone head = expression [] head (sends []) (sends [])

abbrev pub a_chunk : List Statement → Program
a_chunk all = record { selector = None; params = []; temps = []; body = statements all }

abbrev pub sent : Bytes → Bytes → List Expression → Expression
sent receiver selector arguments = expression [] (name receiver) (sends (send selector (expressions arguments) ∷ [])) (sends [])

abbrev pub setup_line : Bytes
setup_line = codes "Globals at: #Hits put: RcCounter new. Globals at: #Names put: RcIdentityBag new"

abbrev pub setup_chunk : Bytes
setup_chunk = text_of_lines (setup_line ∷ [])

abbrev pub set_tree : Bytes → Bytes → Statement
set_tree global class = statement false (sent (codes "Globals") (codes "at:put:") (alone (constant (sym global)) ∷ sent class (codes "new") [] ∷ []))

abbrev pub setup_tree : Program
setup_tree = a_chunk (set_tree (codes "Hits") (codes "RcCounter") ∷ set_tree (codes "Names") (codes "RcIdentityBag") ∷ [])

pub setup_read : tree_of chunk setup_chunk ≡ Ok setup_tree
unfolding tree_of tokens_of
setup_read = refl
