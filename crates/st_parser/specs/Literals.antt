-- The literals of one token.
use Rattle.std.specs.Prelude.{Bool, true, false, cond, Option, Some, None}
use Rattle.texts.specs.Bytes.{Bytes}
use Rattle.st_tree.specs.Trees.{Constant, Constants, char, str, sym}
use Rattle.st_grammar.specs.Tokens.{Kind, identifier, keyword, binary, bar, open_paren, open_array, close_paren, number, character, string, symbol, character_value, string_value, symbol_value}
use Rattle.st_grammar.specs.Grammar.{whole_number, is_minus}
use Rattle.st_grammar_laws.specs.Machine.{Nest, State, in_elements, element_minus, one_more}
use Rattle.st_tree.specs.declared.nodes.Literal.{Literal}
use Rattle.st_tree.specs.Views.{constant_of}

-- the literal that a token of this kind and with these bytes is on its own
abbrev pub atom_of : Kind → Bytes → Option Constant
atom_of number x = Some (whole_number x)
atom_of character x = Some (char (character_value x))
atom_of string x = Some (str (string_value x))
atom_of symbol x = Some (sym (symbol_value x))
atom_of _ x = None

abbrev pub constants_in : Option Literal → Option Constant
constants_in (Some l) = Some (constant_of l)
constants_in None = None

-- the brackets with which an array begins among the elements of one
abbrev pub opens_array : Kind → Bool
opens_array open_paren = true
opens_array open_array = true
opens_array _ = false

-- the kinds of token that are an element on their own, or none
abbrev pub is_other : Kind → Bool
is_other identifier = false
is_other keyword = false
is_other binary = false
is_other bar = false
is_other open_paren = false
is_other open_array = false
is_other close_paren = false
is_other _ = true

-- the machine after a binary selector among the elements of an array
abbrev pub behind_selector : Nest → Constants → Bytes → State
behind_selector n cs x = cond (is_minus x) (element_minus n cs x) (in_elements n (one_more cs (sym x)))
