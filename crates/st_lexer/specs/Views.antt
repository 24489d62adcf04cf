-- How the types of the lexer are seen.
use Rattle.std.specs.Prelude.{◌≡◌, List, map}
use Rattle.texts.specs.Bytes.{Bytes}
use Rattle.st_grammar.specs.Tokens as tokens
use Rattle.st_grammar.specs.Tokens.{Kind, TokenRule, Piece, Class, Stops, token_rule_number}
use Rattle.st_lexer.specs.declared.kinds.TokenKind.{TokenKind}
use Rattle.st_lexer.specs.declared.kinds.TokenKind.TheVariants.{Identifier, Keyword, Number}
use Rattle.st_lexer.specs.declared.kinds.TokenKind.TheVariants.{Character, Str, Symbol}
use Rattle.st_lexer.specs.declared.kinds.TokenKind.TheVariants.{Binary, Bar, Assign, Colon, Caret}
use Rattle.st_lexer.specs.declared.kinds.TokenKind.TheVariants.{Semicolon, Period}
use Rattle.st_lexer.specs.declared.kinds.TokenKind.TheVariants.{OpenParen, CloseParen, OpenBracket}
use Rattle.st_lexer.specs.declared.kinds.TokenKind.TheVariants.{CloseBracket, OpenArray}
use Rattle.st_lexer.specs.declared.kinds.Token.{Token}
use Rattle.st_lexer.specs.declared.kinds.LexFault.{LexFault}
use Rattle.st_lexer.specs.declared.kinds.LexFault.TheVariants.{Bad, NoMemory}
use Rattle.st_lexer.specs.declared.pieces.Class.{Class as ByteClass}
use Rattle.st_lexer.specs.declared.pieces.Class.TheVariants.{Blank, Comment, Name, Digit, Quote}
use Rattle.st_lexer.specs.declared.pieces.Class.TheVariants.{Dollar, Hash, Operator, ColonMark}
use Rattle.st_lexer.specs.declared.pieces.Class.TheVariants.{Other}
use Rattle.st_lexer.specs.declared.pieces.TokenRule.{TokenRule as RuleBroken}
use Rattle.st_lexer.specs.declared.pieces.TokenRule.TheVariants.{NoToken, NoEnd, NoForm}
use Rattle.st_lexer.specs.declared.pieces.Piece.{Piece as PieceRead}
use Rattle.st_lexer.specs.declared.pieces.Piece.TheVariants.{Gap, Word, Wrong}

abbrev pub kind_seen : TokenKind → Kind
kind_seen Identifier = tokens.identifier
kind_seen Keyword = tokens.keyword
kind_seen Number = tokens.number
kind_seen Character = tokens.character
kind_seen Str = tokens.string
kind_seen Symbol = tokens.symbol
kind_seen Binary = tokens.binary
kind_seen Bar = tokens.bar
kind_seen Assign = tokens.assign
kind_seen Colon = tokens.colon
kind_seen Caret = tokens.caret
kind_seen Semicolon = tokens.semicolon
kind_seen Period = tokens.period
kind_seen OpenParen = tokens.open_paren
kind_seen CloseParen = tokens.close_paren
kind_seen OpenBracket = tokens.open_bracket
kind_seen CloseBracket = tokens.close_bracket
kind_seen OpenArray = tokens.open_array

abbrev pub token_seen : Token → tokens.Token
token_seen t = record { kind = kind_seen t.kind; from = t.start; to = t.end }

abbrev pub tokens_seen : List Token → List tokens.Token
tokens_seen ts = map token_seen ts

abbrev pub class_seen : ByteClass → Class
class_seen Blank = tokens.blank
class_seen Comment = tokens.comment
class_seen Name = tokens.name
class_seen Digit = tokens.digit
class_seen Quote = tokens.quote
class_seen Dollar = tokens.dollar
class_seen Hash = tokens.hash
class_seen Operator = tokens.operator
class_seen ColonMark = tokens.colon_mark
class_seen Other = tokens.other

abbrev pub rule_seen : RuleBroken → TokenRule
rule_seen NoToken = tokens.p1
rule_seen NoEnd = tokens.p2
rule_seen NoForm = tokens.p3

abbrev pub piece_seen : PieceRead → Piece
piece_seen (Gap n) = tokens.gap n
piece_seen (Word k n) = tokens.token (kind_seen k) n
piece_seen (Wrong r) = tokens.bad (rule_seen r)

-- a fault of a text says where it stops and by which rule, or that memory ran out
abbrev pub IsFault : Bytes → LexFault → Type 0
IsFault text (Bad place rule) = (r : TokenRule) × (rule ≡ token_rule_number r)
    × Stops 0 text place r
IsFault text NoMemory = Unit {0}
