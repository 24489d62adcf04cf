-- Texts that go on with the words that complete a state.
use Rattle.std.proofs.Common.{◌≡◌, refl, sym, ap, ◌∙◌, subst, ℕ, zero, suc, ◌+◌, ◌≤◌, cond, true, false, true≢false}
use Rattle.std.proofs.Common.{List, [], ◌∷◌, ◌++◌, length, take, drop, replicate, arith, append_assoc, append-nil}
use Rattle.std.specs.List.{prefix_len}
use Rattle.std.proofs.lemmas.List.{take-take}
use Rattle.texts.specs.Bytes.{Bytes}
use Rattle.texts.specs.NameBytes.{is_name_byte}
use Rattle.st_grammar.specs.Tokens.{identifier, keyword, Piece, Token, token, piece, is_keyword_end, Lexes, end_after}
use Rattle.st_grammar.specs.Grammar.{Word, word, Kept, Form, words_of}
use Rattle.st_grammar.specs.Fails.{Continues}
use Rattle.st_grammar_laws.specs.Machine.{Body, top, in_block, Seat, in_body, in_paren, Wide, alone, keyword_part, Slot}
use Rattle.st_grammar_laws.specs.Machine.{outer, binary_part, Nest, of_head, in_array, State, at_pattern}
use Rattle.st_grammar_laws.specs.Machine.{pattern_operator, pattern_keyword, pattern_more, header, in_temps, begin}
use Rattle.st_grammar_laws.specs.Machine.{ended, want, named, minus, have, after_semicolon, in_params, param_wanted}
use Rattle.st_grammar_laws.specs.Machine.{in_elements, element_minus, element_run, machine_run, start}
use Rattle.st_grammar_laws.proofs.Sound.{sound}
use Rattle.st_grammar_laws.proofs.Viable.{longest, close_body, close_seat, close_wide, close_slot, close_nest, end_of}
use Rattle.st_grammar_laws.proofs.Viable.{leads}
use Rattle.st_grammar_laws.proofs.Paths.{Path, run_path}
use Rattle.st_grammar_laws.proofs.TextWords.{end_joined, Continued, OneMore, none_more, one_more}

-- words that a space stands before, each of which is a token by itself
abbrev pub AreSpelled : List Word → Type 0
AreSpelled [] = Unit {0}
AreSpelled (word k x t ∷ ws) = (t ≡ false) × (piece x ≡ token k (length x)) × AreSpelled ws

-- the letters of a name
abbrev letters : ℕ → Bytes
letters n = replicate n 97

letters_prefix : (n : ℕ) → prefix_len is_name_byte (letters n) ≡ n
letters_prefix zero = refl
letters_prefix (suc n) = ap (λ (m : ℕ). 1 + m) (letters_prefix n) ∙ one_and n where
  one_and : (m : ℕ) → 1 + m ≡ suc m
  one_and m = omega arith

letters_long : (n : ℕ) → length (letters n) ≡ n
letters_long zero = refl
letters_long (suc n) = ap suc (letters_long n)

nothing_left : (n : ℕ) → drop n (letters n) ≡ []
nothing_left zero = refl
nothing_left (suc n) = nothing_left n

abbrev word_by : (n : ℕ) → Bytes → Piece
word_by n text = cond (is_keyword_end (drop n text)) (token keyword (n + 1)) (token identifier n)

name_piece : (n : ℕ) → piece (letters (suc n)) ≡ token identifier (length (letters (suc n)))
name_piece n =
    ap (λ (m : ℕ). word_by m (letters (suc n))) (letters_prefix (suc n))
    ∙ ap (λ (l : Bytes). cond (is_keyword_end l) (token keyword (suc n + 1)) (token identifier (suc n)))
    (nothing_left (suc n))
    ∙ ap (λ (m : ℕ). token identifier m) (sym (letters_long (suc n)))

-- the words that complete a state, but for the number that touches a `-`
mutual
  body_spelled : (b : Body) → AreSpelled (close_body b)
  body_spelled (top selector ps ts body) = tt
  body_spelled (in_block k names ps ts body) = (refl, refl, slot_spelled k)

  seat_spelled : (o : Seat) → AreSpelled (close_seat o)
  seat_spelled (in_body b r) = body_spelled b
  seat_spelled (in_paren k names) = (refl, refl, slot_spelled k)

  wide_spelled : (w : Wide) → AreSpelled (close_wide w)
  wide_spelled (alone o) = seat_spelled o
  wide_spelled (keyword_part o role f selector es) = seat_spelled o

  pub slot_spelled : (k : Slot) → AreSpelled (close_slot k)
  slot_spelled (outer w) = wide_spelled w
  slot_spelled (binary_part w role f x) = wide_spelled w

nest_spelled : (n : Nest) → AreSpelled (close_nest n)
nest_spelled (of_head k names) = (refl, refl, slot_spelled k)
nest_spelled (in_array n cs) = (refl, refl, nest_spelled n)

-- A space may stand before the words that complete the state: no number has to touch a `-`.
abbrev pub StandsApart : State → Type 0
StandsApart (minus k names) = ⊥
StandsApart s = Unit {0}

end_spelled : (s : State) → StandsApart s → AreSpelled (end_of s)
end_spelled at_pattern h = (refl, refl, tt)
end_spelled (pattern_operator selector) h = (refl, refl, tt)
end_spelled (pattern_keyword selector ps) h = (refl, name_piece (longest ps), tt)
end_spelled (pattern_more selector ps) h = tt
end_spelled (header b) h = body_spelled b
end_spelled (in_temps b) h = (refl, refl, body_spelled b)
end_spelled (begin b) h = body_spelled b
end_spelled (ended b) h = body_spelled b
end_spelled (want k names) h = (refl, refl, (refl, refl, slot_spelled k))
end_spelled (named k names y) h = (refl, refl, slot_spelled k)
end_spelled (minus k names) h = absurd h
end_spelled (have k e next) h = slot_spelled k
end_spelled (after_semicolon o e) h = (refl, refl, seat_spelled o)
end_spelled (in_params k names ps) h = (refl, refl, slot_spelled k)
end_spelled (param_wanted k names ps) h = (refl, name_piece (longest ps), (refl, refl, slot_spelled k))
end_spelled (in_elements n cs) h = nest_spelled n
end_spelled (element_minus n cs m) h = nest_spelled n
end_spelled (element_run n cs r) h = nest_spelled n

-- one word, and then others
pub behind_one : (text : Bytes) (seen : List Token) (w : Word) (ws : List Word) (o : OneMore text seen w)
    → Continued o.other (seen ++ o.next ∷ []) ws → Continued text seen (w ∷ ws)
behind_one text seen w ws o c =
    let stop : end_after 0 (seen ++ o.next ∷ []) ≡ o.next.to = end_joined 0 seen o.next in
    let later : end_after 0 seen ≤ end_after 0 (seen ++ o.next ∷ []) = subst
    (λ (n : ℕ). end_after 0 seen ≤ n) (sym stop) o.later in
    let same : take (end_after 0 seen) c.other ≡ take (end_after 0 seen) o.other =
    sym (take-take (end_after 0 seen) (end_after 0 (seen ++ o.next ∷ [])) c.other later)
    ∙ ap (take (end_after 0 seen)) c.alike
    ∙ take-take (end_after 0 seen) (end_after 0 (seen ++ o.next ∷ [])) o.other later in
    let tokens : (seen ++ o.next ∷ []) ++ c.more ≡ seen ++ o.next ∷ c.more = append_assoc seen (o.next ∷ []) c.more in
    record {
      other = c.other;
      more = o.next ∷ c.more;
      alike = same ∙ o.alike;
      lexes = subst (λ (ts : List Token). Lexes 0 c.other ts) tokens c.lexes;
      words = ap (words_of c.other) (sym tokens) ∙ c.words ∙ ap (λ (us : List Word). us ++ ws) o.words
          ∙ append_assoc (words_of text seen) (w ∷ []) ws;
    }

pub words_more : (ws : List Word) → AreSpelled ws → (text : Bytes) (seen left : List Token)
    → Lexes 0 text (seen ++ left) → Continued text seen ws
words_more [] h text seen left lexes = none_more text seen left lexes
words_more (word k x true ∷ ws) h text seen left lexes = absurd (true≢false h.0)
words_more (word k x false ∷ ws) h text seen left lexes =
    let o : OneMore text seen (word k x false) = one_more text seen left k x lexes h.1 in
    behind_one text seen (word k x false) ws o
    (words_more ws h.2 o.other (seen ++ o.next ∷ []) []
    (subst (λ (ts : List Token). Lexes 0 o.other ts) (sym (append-nil (seen ++ o.next ∷ []))) o.lexes))

-- A text whose tokens seen lead the machine to a state goes on, where the words of that state do.
pub continued_reads : (kept : Kept) (form : Form) (text : Bytes) (seen : List Token) (s : State)
    → Path kept (start form) (words_of text seen) s → Continued text seen (end_of s) → Continues kept form text seen
continued_reads kept form text seen s path c =
    let end = leads kept s in
    record {
      other = c.other;
      more = c.more;
      program = end.0;
      alike = c.alike;
      lexes = c.lexes;
      reads = sound kept form (words_of c.other (seen ++ c.more)) end.0 (ap (machine_run kept (start form)) c.words
          ∙ run_path path (end_of s) ∙ end.1);
    }

pub continues_apart : (kept : Kept) (form : Form) (text : Bytes) (seen left : List Token) (s : State)
    → Lexes 0 text (seen ++ left) → Path kept (start form) (words_of text seen) s → StandsApart s
    → Continues kept form text seen
continues_apart kept form text seen left s lexes path h = continued_reads kept form text seen s path
    (words_more (end_of s) (end_spelled s h) text seen left lexes)
