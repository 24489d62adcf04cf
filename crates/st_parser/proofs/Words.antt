-- The words of a text's tokens.
use Rattle.std.proofs.Common.{◌≡◌, ℕ, List, [], ◌∷◌, suc, length, refl, sym, ap, ◌∙◌, Bool}
use Rattle.std.specs.Prelude.{◌==◌}
use Rattle.texts.specs.Bytes.{Bytes}
use Rattle.st_grammar.specs.Grammar.{Word, word, words_after}
use Rattle.st_grammar.specs.Tokens.{identifier, assign, text_of}
use Rattle.st_parser.specs.Lexemes.{others}
use Rattle.st_lexer.specs.Views.{tokens_seen, token_seen, kind_seen}
use Rattle.st_lexer.specs.declared.kinds.Token.{Token}

-- a word for each token
pub length_words : (stop : ℕ) (text : Bytes) (ts : List Token)
    → length ts ≡ length (words_after stop text (tokens_seen ts))
length_words stop text [] = refl
length_words stop text (t ∷ ts) = ap (λ n. suc n) (length_words t.end text ts)

-- the words of two tokens at the front
pub assigned_words : (stop : ℕ) (text : Bytes) (ts : List Token) (n a : Token) (rest : List Token)
    (ws : List Word) → ts ≡ n ∷ (a ∷ rest) → kind_seen n.kind ≡ identifier
    → kind_seen a.kind ≡ assign
    → words_after stop text (tokens_seen ts) ≡ ws
    → (t : Bool) × (y : Bytes) × (u : Bool)
    × (ws ≡ word identifier (text_of text (token_seen n)) t ∷ (word assign y u ∷ others (others ws)))
assigned_words stop text ts n a rest ws e k j v =
    let whole : ws ≡ word (kind_seen n.kind) (text_of text (token_seen n)) (n.start == stop)
    ∷ (word (kind_seen a.kind) (text_of text (token_seen a)) (a.start == n.end)
    ∷ words_after a.end text (tokens_seen rest)) = sym v ∙ ap (λ l. words_after stop text (tokens_seen l)) e in
    let behind : words_after a.end text (tokens_seen rest)
    ≡ others (others ws) = sym (ap (λ l. others (others l)) whole) in
    let kinds : ws ≡ word identifier (text_of text (token_seen n)) (n.start == stop)
    ∷ (word assign (text_of text (token_seen a)) (a.start == n.end) ∷ words_after a.end text (tokens_seen rest)) =
    whole ∙ ap (λ q. word q (text_of text (token_seen n)) (n.start == stop)
    ∷ (word (kind_seen a.kind) (text_of text (token_seen a)) (a.start == n.end)
    ∷ words_after a.end text (tokens_seen rest))) k
    ∙ ap (λ q. word identifier (text_of text (token_seen n)) (n.start == stop)
    ∷ (word q (text_of text (token_seen a)) (a.start == n.end) ∷ words_after a.end text (tokens_seen rest))) j in (
      n.start == stop,
      text_of text (token_seen a),
      a.start == n.end,
      kinds
          ∙ ap (λ l. word identifier (text_of text (token_seen n)) (n.start == stop)
          ∷ (word assign (text_of text (token_seen a)) (a.start == n.end) ∷ l)) behind,
    )
