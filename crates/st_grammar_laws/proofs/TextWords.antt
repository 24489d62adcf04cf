-- The words of a text that begins like another.
use Rattle.std.proofs.Common.{◌≡◌, refl, sym, ap, ap₂, ◌∙◌, subst, ℕ, suc, ◌+◌, ◌-◌, ◌<◌, ◌≤◌, ◌==◌, Bool, false, List}
use Rattle.std.proofs.Common.{[], ◌∷◌, ◌++◌, length, take, drop, arith, length-take}
use Rattle.std.proofs.lemmas.List.{drop-take, take-take, take-append-le}
use Rattle.std.proofs.lemmas.Bool.{ne_eqb}
use Rattle.texts.specs.Bytes.{Bytes}
use Rattle.st_grammar.specs.Tokens.{Kind, Token, token, piece, Lexes, at_end, after_token, text_of, end_after}
use Rattle.st_grammar.specs.Grammar.{Word, word, words_after, words_of}
use Rattle.st_grammar.specs.Fails.{BeginsAlike}
use Rattle.st_lexer.specs.Spans.{SpansAscend}
use Rattle.st_lexer.proofs.Ascending.{within}
use Rattle.st_lexer.proofs.Fronts.{front_and_more}
use Rattle.st_grammar_laws.proofs.Paths.{words_joined}

pub end_joined : (at : ℕ) (seen : List Token) (t : Token) → end_after at (seen ++ t ∷ []) ≡ t.to
end_joined at [] t = refl
end_joined at (u ∷ us) t = end_joined u.to us t

-- where tokens stand
ascends_to : (at stop : ℕ) (ts : List Token) → SpansAscend at stop ts → at ≤ stop
ascends_to at stop [] h = h
ascends_to at stop (t ∷ ts) h =
    let later : t.to ≤ stop = ascends_to t.to stop ts h.2 in
    omega (arith, h.0, h.1, later)

front_ascends : (at stop : ℕ) (seen left : List Token) → SpansAscend at stop (seen ++ left)
    → SpansAscend at (end_after at seen) seen × (end_after at seen ≤ stop)
front_ascends at stop [] left h = (omega arith, ascends_to at stop left h)
front_ascends at stop (t ∷ ts) left h =
    let rest = front_ascends t.to stop ts left h.2 in
    ((h.0, h.1, rest.0), rest.1)

-- the same tokens in texts that begin alike
text_same : (stop : ℕ) (text other : Bytes) (t : Token) → take stop other ≡ take stop text → t.from < t.to → t.to ≤ stop
    → text_of other t ≡ text_of text t
text_same stop text other t alike some fits =
    let size : ℕ = t.to - t.from in
    let inside : t.from + size ≤ stop = omega arith in
    let front : take (t.from + size) other ≡ take (t.from + size) text =
    sym (take-take (t.from + size) stop other inside) ∙ ap (take (t.from + size)) alike
    ∙ take-take (t.from + size) stop text inside in
    sym (drop-take t.from size other) ∙ ap (drop t.from) front ∙ drop-take t.from size text

words_alike : (at stop : ℕ) (text other : Bytes) (seen : List Token) → take stop other ≡ take stop text
    → SpansAscend at stop seen → words_after at other seen ≡ words_after at text seen
words_alike at stop text other [] alike h = refl
words_alike at stop text other (t ∷ ts) alike h =
    let same : text_of other t ≡ text_of text t = text_same stop text other t alike h.1 (ascends_to t.to stop ts h.2) in
    ap₂ (λ (x : Bytes) (ws : List Word). word t.kind x (t.from == at) ∷ ws) same
    (words_alike t.to stop text other ts alike h.2)

pub words_same : (text other : Bytes) (seen left : List Token) → Lexes 0 text (seen ++ left)
    → BeginsAlike text seen other → words_of other seen ≡ words_of text seen
words_same text other seen left lexes alike =
    let spans = front_ascends 0 (length text) seen left (within text (seen ++ left) lexes) in
    words_alike 0 (end_after 0 seen) text other seen alike spans.0

pub ends_inside : (text : Bytes) (seen left : List Token) → Lexes 0 text (seen ++ left) → end_after 0 seen ≤ length text
ends_inside text seen left lexes = (front_ascends 0 (length text) seen left (within text (seen ++ left) lexes)).1

-- A text that begins like this one up to the end of the tokens seen, has them, and then has these words.
pub record Continued (text : Bytes) (seen : List Token) (ws : List Word) : Type 0 where
  pub other : Bytes
  pub more : List Token
  pub alike : BeginsAlike text seen other
  pub lexes : Lexes 0 other (seen ++ more)
  pub words : words_of other (seen ++ more) ≡ words_of text seen ++ ws

-- the same with one word
pub record OneMore (text : Bytes) (seen : List Token) (w : Word) : Type 0 where
  pub other : Bytes
  pub next : Token
  pub later : end_after 0 seen ≤ next.to
  pub alike : BeginsAlike text seen other
  pub lexes : Lexes 0 other (seen ++ next ∷ [])
  pub words : words_of other (seen ++ next ∷ []) ≡ words_of text seen ++ w ∷ []

-- a front of a text, and then a space and another text
pub front_long : (text : Bytes) (seen left : List Token) → Lexes 0 text (seen ++ left)
    → length (take (end_after 0 seen) text) ≡ end_after 0 seen
front_long text seen left lexes = omega (arith, length-take (end_after 0 seen) text, ends_inside text seen left lexes)

pub front_alike : (text back : Bytes) (seen left : List Token) → Lexes 0 text (seen ++ left)
    → BeginsAlike text seen (take (end_after 0 seen) text ++ back)
front_alike text back seen left lexes =
    let long : length (take (end_after 0 seen) text) ≡ end_after 0 seen = front_long text seen left lexes in
    take-append-le (end_after 0 seen) (take (end_after 0 seen) text) back (omega arith)
    ∙ take-take (end_after 0 seen) (end_after 0 seen) text (omega arith)

pub none_more : (text : Bytes) (seen left : List Token) → Lexes 0 text (seen ++ left) → Continued text seen []
none_more text seen left lexes = record {
  other = take (end_after 0 seen) text ++ 32 ∷ [];
  more = [];
  alike = front_alike text (32 ∷ []) seen left lexes;
  lexes = front_and_more text [] seen left [] lexes (at_end refl);
  words = words_joined 0 (take (end_after 0 seen) text ++ 32 ∷ []) seen []
      ∙ ap (λ (ws : List Word). ws ++ [])
      (words_same text (take (end_after 0 seen) text ++ 32 ∷ []) seen left lexes
      (front_alike text (32 ∷ []) seen left lexes));
}

-- one token after a space
drop_front : (n : ℕ) (front back : Bytes) → length front ≡ n → drop (n + 1) (front ++ 32 ∷ back) ≡ back
drop_front n [] back e = ap (λ (m : ℕ). drop (m + 1) (32 ∷ back)) (sym e)
drop_front n (c ∷ front) back e =
    subst (λ (m : ℕ). drop (m + 1) (c ∷ front ++ 32 ∷ back) ≡ back) e
    (ap (λ (m : ℕ). drop m (c ∷ front ++ 32 ∷ back)) (longer (length front))
    ∙ drop_front (length front) front back refl) where
      longer : (m : ℕ) → suc m + 1 ≡ suc (m + 1)
      longer m = omega arith

whole : (x : Bytes) → take (length x) x ≡ x
whole [] = refl
whole (b ∷ bs) = ap (λ (cs : Bytes). b ∷ cs) (whole bs)

text_behind : (n : ℕ) (k : Kind) (front x : Bytes) → length front ≡ n
    → text_of (front ++ 32 ∷ x) (record { kind = k; from = n + 1 + 0; to = n + 1 + (0 + length x) }) ≡ x
text_behind n k front x e =
    let at : n + 1 + 0 ≡ n + 1 = omega arith in
    let size : (n + 1 + (0 + length x)) - (n + 1 + 0) ≡ length x = omega arith in
    ap₂ (λ (m a : ℕ). take m (drop a (front ++ 32 ∷ x))) size at ∙ ap (take (length x)) (drop_front n front x e)
    ∙ whole x

apart : (n : ℕ) → (n + 1 + 0 == n) ≡ false
apart n = ne_eqb (n + 1 + 0) n (λ e. omega arith)

one_token : (k : Kind) (x : Bytes) → piece x ≡ token k (length x)
    → Lexes 0 x (record { kind = k; from = 0; to = 0 + length x } ∷ [])
one_token k x e = after_token e (at_end (ap piece (nothing_left x))) where
  nothing_left : (y : Bytes) → drop (length y) y ≡ []
  nothing_left [] = refl
  nothing_left (b ∷ bs) = nothing_left bs

pub one_more : (text : Bytes) (seen left : List Token) (k : Kind) (x : Bytes) → Lexes 0 text (seen ++ left)
    → piece x ≡ token k (length x) → OneMore text seen (word k x false)
one_more text seen left k x lexes e =
    let stop : ℕ = end_after 0 seen in
    let other : Bytes = take stop text ++ 32 ∷ x in
    let long : end_after 0 seen ≤ end_after 0 seen + 1 + (0 + length x) = omega arith in
    let next : Token = record { kind = k; from = stop + 1 + 0; to = stop + 1 + (0 + length x) } in
    let alike : BeginsAlike text seen other = front_alike text (32 ∷ x) seen left lexes in
    let new : text_of other next ≡ x = text_behind stop k (take stop text) x (front_long text seen left lexes) in
    record {
      other = other;
      next = next;
      later = long;
      alike = alike;
      lexes = front_and_more text x seen left (record { kind = k; from = 0; to = 0 + length x } ∷ []) lexes
          (one_token k x e);
      words = words_joined 0 other seen (next ∷ [])
          ∙ ap₂ (λ (ws us : List Word). ws ++ us) (words_same text other seen left lexes alike)
          (ap₂ (λ (y : Bytes) (t : Bool). word k y t ∷ []) new (apart stop));
    }
