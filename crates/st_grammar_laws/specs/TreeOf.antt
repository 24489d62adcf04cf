-- The tree of a text, or where and by which rule it fails, as a function, for definitions that need
-- one.
use Rattle.std.specs.Prelude.{ℕ, ◌-◌, List, length, drop, Result, Ok, Err}
use Rattle.texts.specs.Bytes.{Bytes}
use Rattle.st_tree.specs.Trees.{Program}
use Rattle.st_grammar.specs.Tokens.{Token}
use Rattle.st_grammar.specs.Lexed.{BadToken, tokens_of}
use Rattle.st_grammar.specs.Grammar.{Form, words_of}
use Rattle.st_grammar.specs.Fails.{every, place_of, AnyRule, of_token, of_grammar}
use Rattle.st_grammar_laws.specs.Machine.{Fault, start, machine_run}

-- a text without a tree: the place where it fails, and the rule that it breaks there
pub record TextFault : Type 0 where
  pub place : ℕ
  pub rule : AnyRule

-- so many tokens from the end are left
abbrev pub last_tokens : ℕ → List Token → List Token
last_tokens n ts = drop (length ts - n) ts

-- what the machine says of a text's tokens, with the fault's place in the text
abbrev pub in_text : Bytes → List Token → Result Program Fault → Result Program TextFault
in_text text ts (Ok program) = Ok program
in_text text ts (Err fault) = Err
    (record {
      place = place_of text
          (last_tokens (length fault.left) ts);
      rule = of_grammar fault.rule;
    })

-- a bad token comes before all else
abbrev pub of_tokens : Form → Bytes → Result (List Token) BadToken → Result Program TextFault
of_tokens form text (Ok ts) = in_text text ts (machine_run every (start form) (words_of text ts))
of_tokens form text (Err fault) = Err (record { place = fault.place; rule = of_token fault.rule })

unfoldable pub tree_of : Form → Bytes → Result Program TextFault
tree_of form text = of_tokens form text (tokens_of text)
