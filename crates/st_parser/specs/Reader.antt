-- What a reader has left of the tokens of a text.
use Rattle.std.specs.Prelude.{◌≡◌, ◌≤◌, List, [], ◌∷◌, length}
use Rattle.texts.specs.Bytes.{Bytes}
use Rattle.st_grammar.specs.Tokens.{number, Token, text_of}
use Rattle.st_lexer.specs.Numbers.{IsNumber}

-- the tokens lie in the text, and the bytes of the numbers among them are those of numbers
abbrev pub AreWhole : Bytes → List Token → Type 0
AreWhole text [] = Unit {0}
AreWhole text (t ∷ ts) = (t.from ≤ t.to) × (t.to ≤ length text)
    × (t.kind ≡ number → IsNumber (text_of text t)) × AreWhole text ts
