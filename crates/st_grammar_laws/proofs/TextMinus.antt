-- Each text whose tokens lead the machine to a state goes on to a text with a tree.
use Rattle.std.proofs.Common.{◌≡◌, refl, sym, ap, ap₂, ◌∙◌, subst, ℕ, ◌+◌, ◌-◌, ◌≤◌, ◌==◌, Bool, true, List, [], ◌∷◌}
use Rattle.std.proofs.Common.{◌++◌, length, take, drop, arith, append_assoc, append-nil}
use Rattle.std.proofs.Common.{eq-eqb}
use Rattle.texts.specs.Bytes.{Bytes}
use Rattle.st_grammar.specs.Tokens.{binary, number, Token, Lexes, at_end, after_token, text_of, end_after}
use Rattle.st_grammar.specs.Grammar.{Word, word, Kept, Form, is_sign, words_after, words_of}
use Rattle.st_grammar.specs.Fails.{BeginsAlike, Continues}
use Rattle.st_grammar_laws.specs.Machine.{State, minus, start}
use Rattle.st_grammar_laws.proofs.Viable.{one_word, close_slot}
use Rattle.st_grammar_laws.proofs.Paths.{Path, words_joined}
use Rattle.st_grammar_laws.proofs.TextWords.{end_joined, words_same, Continued, OneMore, front_long, front_alike}
use Rattle.st_grammar_laws.proofs.TextEnds.{slot_spelled, behind_one, words_more, continued_reads, continues_apart}
use Rattle.st_grammar_laws.proofs.MinusFronts.{minus_and_more}
use Rattle.st_grammar_laws.proofs.MinusSigns.{in_minus, ends_in_sign, path_signs, no_path, sign_is}

-- the last of some tokens
pub record Last (ts : List Token) : Type 0 where
  pub others : List Token
  pub final : Token
  pub whole : ts ≡ others ++ final ∷ []

last_of : (t : Token) (ts : List Token) → Last (t ∷ ts)
last_of t [] = record { others = []; final = t; whole = refl }
last_of t (u ∷ us) =
    let rest : Last (u ∷ us) = last_of u us in
    record { others = t ∷ rest.others; final = rest.final; whole = ap (λ (ts : List Token). t ∷ ts) rest.whole }

last_sign : (at : ℕ) (text : Bytes) (seen : List Token) (t : Token)
    → ends_in_sign (words_after at text (seen ++ t ∷ [])) ≡ is_sign t.kind (text_of text t)
last_sign at text [] t = refl
last_sign at text (u ∷ []) t = refl
last_sign at text (u ∷ v ∷ us) t = last_sign u.to text (v ∷ us) t

-- a `1` that touches a `-`
behind_front : (f : Bytes) → drop (length f) (f ++ 49 ∷ []) ≡ 49 ∷ []
behind_front [] = refl
behind_front (b ∷ bs) = behind_front bs

digit_text : (n : ℕ) (front : Bytes) → length front ≡ n
    → text_of (front ++ 49 ∷ []) (record { kind = number; from = n + 0; to = n + 1 }) ≡ 49 ∷ []
digit_text n front e =
    let at : n + 0 ≡ length front = omega (arith, e) in
    let size : (n + 1) - (n + 0) ≡ 1 = omega arith in
    ap₂ (λ (m a : ℕ). take m (drop a (front ++ 49 ∷ []))) size at ∙ ap (take 1) (behind_front front)

touching : (n : ℕ) → (n + 0 == n) ≡ true
touching n =
    let e : n + 0 ≡ n = omega arith in
    eq-eqb (n + 0) n e

digit_more : (text : Bytes) (seen left : List Token) (t : Token) → Lexes 0 text ((seen ++ t ∷ []) ++ left)
    → t.kind ≡ binary → text_of text t ≡ 45 ∷ [] → OneMore text (seen ++ t ∷ []) one_word
digit_more text seen left t lexes kind minus_text =
    let all : List Token = seen ++ t ∷ [] in
    let stop : ℕ = end_after 0 all in
    let other : Bytes = take stop text ++ 49 ∷ [] in
    let next : Token = record { kind = number; from = stop + 0; to = stop + 1 } in
    let later : end_after 0 (seen ++ t ∷ []) ≤ end_after 0 (seen ++ t ∷ []) + 1 = omega arith in
    let apart : Lexes 0 text (seen ++ t ∷ left) = subst
    (λ (ts : List Token). Lexes 0 text ts) (append_assoc seen (t ∷ []) left) lexes in
    let one : Lexes 0 (49 ∷ []) (record { kind = number; from = 0; to = 1 } ∷ []) = after_token
    {n = 1} refl (at_end refl) in
    let new : Lexes 0 (take t.to text ++ 49 ∷ []) (seen ++ t ∷ record
    { kind = number; from = t.to + 0; to = t.to + 1 } ∷ []) =
    minus_and_more text (49 ∷ []) seen left (record
    { kind = number; from = 0; to = 1 } ∷ []) t apart kind minus_text refl one in
    let there : Lexes 0 other (seen ++ t ∷ next ∷ []) =
    subst (λ (n : ℕ). Lexes 0 (take n text ++ 49 ∷ []) (seen ++ t ∷ record
    { kind = number; from = n + 0; to = n + 1 } ∷ [])) (sym (end_joined 0 seen t)) new in
    let alike : BeginsAlike text all other = front_alike text (49 ∷ []) all left lexes in
    let bytes : text_of other next ≡ 49 ∷ [] = digit_text stop (take stop text) (front_long text all left lexes) in
    record {
      other = other;
      next = next;
      later = later;
      alike = alike;
      lexes = subst (λ (ts : List Token). Lexes 0 other ts) (sym (append_assoc seen (t ∷ []) (next ∷ []))) there;
      words = words_joined 0 other all (next ∷ [])
          ∙ ap₂ (λ (ws us : List Word). ws ++ us) (words_same text other all left lexes alike)
          (ap₂ (λ (y : Bytes) (b : Bool). word number y b ∷ []) bytes (touching stop));
    }

minus_continued : (text : Bytes) (seen left : List Token) (ws : List Word) → Lexes 0 text (seen ++ left)
    → OneMore text seen one_word
    → ((other : Bytes) (all rest : List Token) → Lexes 0 other (all ++ rest) → Continued other all ws)
    → Continued text seen (one_word ∷ ws)
minus_continued text seen left ws lexes o onward =
    behind_one text seen one_word ws o
    (onward o.other (seen ++ o.next ∷ []) []
    (subst (λ (ts : List Token). Lexes 0 o.other ts) (sym (append-nil (seen ++ o.next ∷ []))) o.lexes))

sign_more : (text : Bytes) (seen left : List Token) → Lexes 0 text (seen ++ left) → Last seen
    → ends_in_sign (words_of text seen) ≡ true → OneMore text seen one_word
sign_more text seen left lexes l h =
    let kind : is_sign l.final.kind (text_of text l.final) ≡ true = sym (last_sign 0 text l.others l.final)
    ∙ ap (λ (ts : List Token). ends_in_sign (words_of text ts)) (sym l.whole) ∙ h in
    let both = sign_is l.final.kind (text_of text l.final) kind in
    subst (λ (ts : List Token). OneMore text ts one_word) (sym l.whole)
    (digit_more text l.others left l.final
    (subst (λ (ts : List Token). Lexes 0 text (ts ++ left)) l.whole lexes) both.0 both.1)

minus_goes_on : (kept : Kept) (form : Form) (text : Bytes) (seen left : List Token) (s : State) → in_minus s ≡ true
    → Lexes 0 text (seen ++ left) → Path kept (start form) (words_of text seen) s → OneMore text seen one_word
minus_goes_on kept form text [] left s m lexes path = no_path form path m
minus_goes_on kept form text (t ∷ ts) left s m lexes path = sign_more text (t ∷ ts) left lexes (last_of t ts)
    (path_signs kept (start form) s _ _ path m)

-- A text whose tokens seen lead the machine to a state begins as some text with a tree does, up to the end of these tokens.
pub continues : (kept : Kept) (form : Form) (text : Bytes) (seen left : List Token) (s : State)
    → Lexes 0 text (seen ++ left) → Path kept (start form) (words_of text seen) s → Continues kept form text seen
continues kept form text seen left (minus k names) lexes path =
    continued_reads kept form text seen (minus k names) path
    (minus_continued text seen left (close_slot k) lexes
    (minus_goes_on kept form text seen left (minus k names) refl lexes path)
    (λ other all rest h. words_more (close_slot k) (slot_spelled k) other all rest h))
continues kept form text seen left s lexes path = continues_apart kept form text seen left s lexes path tt
