-- Which symbols are printed without quotes, by the tokens of their texts.
use Rattle.std.specs.Prelude.{ℕ, Bool, true, false, ◌&&◌, nat_eq, List, [], ◌∷◌}
use Rattle.gem_sound.specs.st_grammar.Tokens.{Kind, symbol, Token}

abbrev pub is_symbol : Kind → Bool
is_symbol symbol = true
is_symbol _ = false

-- whether the first of these tokens is a symbol that ends at this place of a text
abbrev pub begins_with_symbol : (size : ℕ) → List Token → Bool
begins_with_symbol size [] = false
begins_with_symbol size (token ∷ rest) = is_symbol token.kind && nat_eq token.to size
