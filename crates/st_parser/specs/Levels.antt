-- What the parser sees of the words before an expression or a message.
use Rattle.std.specs.Prelude.{◌≡◌, Bool, true, false, Option, Some, None, List, ◌∷◌}
use Rattle.texts.specs.Bytes.{Bytes}
use Rattle.st_grammar.specs.Tokens.{Kind, identifier, assign}
use Rattle.st_grammar.specs.Grammar as grammar
use Rattle.st_grammar.specs.Grammar.{Word, word, of_binary, of_keyword, full}
use Rattle.st_parser.specs.declared.levels.Level.{Level}
use Rattle.st_parser.specs.declared.levels.Level.TheVariants.{OfBinary, OfKeyword, Full}
use Rattle.st_parser.specs.Descent.{starts, assigns, is_selector}
use Rattle.std.specs.Borrow.{Bor}
use Rattle.st_parser.specs.Lexemes.{others}

abbrev pub level_seen : Level → grammar.Level
level_seen OfBinary = of_binary
level_seen OfKeyword = of_keyword
level_seen Full = full

-- the name before a `:=`, where the words begin so
abbrev pub Assigned : Option (Bor Bytes) → List Word → Type 0
Assigned None ws = assigns ws ≡ false
Assigned (Some x) ws = (t : Bool) × (y : Bytes) × (u : Bool)
    × (ws ≡ word identifier x.now t ∷ (word assign y u ∷ others (others ws)))

-- the binary selector with which the words begin, where they do
abbrev pub Selects : Option (Bor Bytes) → List Word → Type 0
Selects None ws = starts is_selector ws ≡ false
Selects (Some x) ws = (k : Kind) × (t : Bool) × (is_selector k ≡ true) × (ws ≡ word k x.now t ∷ others ws)
