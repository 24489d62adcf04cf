-- What a parse answers.
use Rattle.std.specs.Prelude.{◌≡◌, ℕ, ◌+◌, ◌*◌, ◌≤◌, length, Ok, Err}
use Rattle.texts.specs.Bytes.{Bytes}
use Rattle.st_tree.specs.Trees.{Program}
use Rattle.st_tree.specs.Falls.{size_program}
use Rattle.st_grammar.specs.Grammar.{Form, chunk, method}
use Rattle.st_grammar.specs.Fails.{AnyRule, Reads, Fails, rule_number}
use Rattle.st_grammar_laws.specs.TreeOf.{tree_of}
use Rattle.st_parser.specs.declared.parse.Form.{Form as TextForm}
use Rattle.st_parser.specs.declared.parse.Form.TheVariants.{Chunk, Method}
use Rattle.st_parser.specs.declared.faults.ParseFault.{ParseFault}
use Rattle.st_parser.specs.declared.faults.ParseFault.TheVariants.{Rule, NoMemory}

abbrev pub form_of : TextForm → Form
form_of Chunk = chunk
form_of Method = method

-- The text has this tree: the grammar reads it so, and so does the function that definitions use. No tree is larger
-- than the bound.
pub record IsTree (form : Form) (text : Bytes) (tree : Program) : Type 0 where
  pub reads : Reads form text tree
  pub is : tree_of form text ≡ Ok tree
  pub bound : size_program tree ≤ 3 * length text + 3

-- The text has no tree, and fails at this place by this rule: the grammar says so, and so does the function.
pub record FailsAt (form : Form) (text : Bytes) (place : ℕ) (rule : AnyRule) : Type 0 where
  pub fails : Fails form text place rule
  pub is : tree_of form text ≡ Err (record { place = place; rule = rule })

-- a fault says where the text fails and by which rule, or that memory ran out
abbrev pub IsFault : Form → Bytes → ParseFault → Type 0
IsFault form text (Rule place number) = (r : AnyRule) × (number ≡ rule_number r) × FailsAt form text place r
IsFault form text NoMemory = Unit {0}
