-- The tokens of a text as a function, for definitions that need one. What it gives is what `Lexes`
-- and `Stops` say.
use Rattle.std.specs.Prelude.{ℕ, zero, suc, ◌+◌, ◌-◌, List, [], ◌∷◌, Result, Ok, Err}
use Rattle.texts.specs.Bytes.{Bytes}
use Rattle.st_grammar.specs.Tokens.{TokenRule, Token, Piece, end, gap, token, bad, piece}

-- a text's first bad token: where it begins, and the rule that it breaks
pub record BadToken : Type 0 where
  pub place : ℕ
  pub rule : TokenRule

abbrev pub onto_tokens : Token → Result (List Token) BadToken → Result (List Token) BadToken
onto_tokens t (Ok ts) = Ok (t ∷ ts)
onto_tokens t (Err fault) = Err fault

-- The tokens of a text that begins with this piece at this offset. `on` gives those after its first
-- byte, so many bytes later.
abbrev pub behind_piece : (at : ℕ) → Piece → (on : ℕ → Result (List Token) BadToken)
    → Result (List Token) BadToken
behind_piece at end on = Ok []
behind_piece at (gap n) on = on (n - 1)
behind_piece at (token k n) on = onto_tokens (record { kind = k; from = at; to = at + n })
    (on (n - 1))
behind_piece at (bad r) on = Err (record { place = at; rule = r })

-- the tokens of a text whose first byte has this offset, after so many bytes
abbrev pub tokens_behind : (at skip : ℕ) → Bytes → Result (List Token) BadToken
tokens_behind at skip [] = Ok []
tokens_behind at (suc skip) (b ∷ rest) = tokens_behind (suc at) skip rest
tokens_behind at zero (b ∷ rest) = behind_piece at (piece (b ∷ rest))
    (λ skip. tokens_behind (suc at) skip rest)

-- a text's tokens, or its first bad token
unfoldable pub tokens_of : Bytes → Result (List Token) BadToken
tokens_of text = tokens_behind 0 0 text
