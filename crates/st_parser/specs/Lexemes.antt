-- How a token in the hand of the parser is seen.
use Rattle.std.specs.Prelude.{Option, List, [], ◌∷◌, Some, None, ◌≡◌}
use Rattle.st_grammar.specs.Tokens as tokens
use Rattle.st_grammar.specs.Tokens.{Kind}
use Rattle.st_grammar.specs.Grammar.{Word, word}
use Rattle.st_lexer.specs.Views.{kind_seen}
use Rattle.st_parser.specs.declared.reader.Lexeme.{Lexeme}
use Rattle.st_lexer.specs.Numbers.{IsNumber}

abbrev pub word_of : Lexeme → Word
word_of l = word (kind_seen l.kind) l.bytes.now l.touches

-- all but the first
abbrev pub others : List Word → List Word
others [] = []
others (w ∷ ws) = ws

-- the first of the words, with the bytes of a number where it is one
abbrev pub Shows : Option Lexeme → List Word → Type 0
Shows None ws = ws ≡ []
Shows (Some l) ws = (ws ≡ word_of l ∷ others ws)

-- the token's bytes are those of a number, where it is one
abbrev pub HoldsNumber : Lexeme → Type 0
HoldsNumber l = kind_seen l.kind ≡ tokens.number → IsNumber l.bytes.now

abbrev pub NumberIn : Option Lexeme → Type 0
NumberIn None = Unit {0}
NumberIn (Some l) = HoldsNumber l
