-- What is left of a load to be written makes of what was written what the whole makes of the start.
use Rattle.std.proofs.Common.{◌≡◌, ℕ, suc, ◌-◌, ◌+◌, ◌≤◌, ◌<◌, [], ◌∷◌, ◌++◌, Result, OnOk, sym, ap, subst, ◌∙◌, append_assoc, append-nil, codes, arith}
use Rattle.std.proofs.lemmas.Result.{on_ok_weaker}
use Rattle.std.proofs.lemmas.Grind.{flat_map-append}
use Rattle.std.specs.List.{flat_map}
use Rattle.texts.specs.Bytes.{Bytes}
use Rattle.texts.specs.Lines.{text_of_lines}
use Rattle.load_maker.specs.Numbers.{next_state, number_of, round_numbers, state_after, load_numbers}
use Rattle.load_maker.specs.Scripts.{chunk_lines, round_lines, session_lines}

-- the same text is written
pub wrote : {T E : Type 0} (r : Result T E) (old new text bytes : Bytes) → bytes ≡ text → OnOk r (new ≡ old ++ bytes)
    → OnOk r (new ≡ old ++ text)
wrote r old new text bytes same = let P : Bytes → Type 0 = λ b. OnOk r (new ≡ old ++ b) in subst P same

-- more is written after what was written
pub went_on : {T E : Type 0} (r : Result T E) (old between new text more : Bytes) → between ≡ old ++ text
    → OnOk r (new ≡ between ++ more) → OnOk r (new ≡ old ++ (text ++ more))
went_on r old between new text more is =
    on_ok_weaker r (λ then. then ∙ ap (λ t. t ++ more) is ∙ append_assoc old text more)

-- four pieces, as a format joins them and as a line's text does
from_left : (a b c d e : Bytes) → a ++ (b ++ (c ++ (d ++ e))) ≡ a ++ b ++ c ++ d ++ e
from_left a b c d e =
    sym (append_assoc (a ++ b ++ c) d e ∙ append_assoc (a ++ b) c (d ++ e) ∙ append_assoc a b (c ++ (d ++ e)))

-- a round, as the code joins it from its number's digits
pub round_pieces : (digits : Bytes) → codes "run" ++ 10 ∷ codes "Hits incrementBy: "
    ++ (digits ++ (codes ". Names add: #n" ++ (digits ++ (10 ∷ [] ++ (codes "%" ++ 10 ∷ codes "commit" ++ 10 ∷ [])))))
    ≡ text_of_lines (chunk_lines (codes "run") (codes "Hits incrementBy: " ++ digits ++ codes ". Names add: #n" ++ digits)
    ++ codes "commit" ∷ [])
round_pieces digits = ap (λ text. codes "run" ++ 10 ∷ codes "Hits incrementBy: " ++ text)
    (from_left digits (codes ". Names add: #n") digits (10 ∷ []) (codes "%" ++ 10 ∷ codes "commit" ++ 10 ∷ []))

-- the text of so many rounds after this state
abbrev pub rounds_text : ℕ → ℕ → Bytes
rounds_text rounds state = text_of_lines (flat_map round_lines (round_numbers rounds state))

-- the text of so many sessions, each of so many rounds, after this state
abbrev pub sessions_text : (sessions rounds state : ℕ) → Bytes
sessions_text sessions rounds state = text_of_lines (flat_map session_lines (load_numbers sessions rounds state))

-- one piece of what is left is written
piece_more : (whole written next piece rest left : Bytes) → next ≡ written ++ piece → left ≡ piece ++ rest
    → written ++ left ≡ whole → next ++ rest ≡ whole
piece_more whole written next piece rest left is falls so_far =
    ap (λ text. text ++ rest) is ∙ append_assoc written piece rest ∙ ap (λ text. written ++ text) (sym falls) ∙ so_far

-- nothing is left
nothing_left : (whole written left : Bytes) → left ≡ [] → written ++ left ≡ whole → written ≡ whole
nothing_left whole written left none so_far = sym (append-nil written) ∙ ap (λ text. written ++ text) (sym none) ∙ so_far

one_round : (left state : ℕ) → rounds_text (suc left) state
    ≡ text_of_lines (round_lines (number_of (next_state state))) ++ rounds_text left (next_state state)
one_round left state = flat_map-append (λ line. line ++ 10 ∷ []) (round_lines (number_of (next_state state)))
    (flat_map round_lines (round_numbers left (next_state state)))

one_session : (left rounds state : ℕ) → sessions_text (suc left) rounds state
    ≡ text_of_lines (session_lines (round_numbers rounds state)) ++ sessions_text left rounds (state_after rounds state)
one_session left rounds state = flat_map-append (λ line. line ++ 10 ∷ []) (session_lines (round_numbers rounds state))
    (flat_map session_lines (load_numbers left rounds (state_after rounds state)))

pub round_more : (rounds i : ℕ) (whole written next : Bytes) (state later number : ℕ) → i < rounds → later ≡ next_state state
    → number ≡ number_of later → next ≡ written ++ text_of_lines (round_lines number)
    → written ++ rounds_text (rounds - i) state ≡ whole → next ++ rounds_text (rounds - (i + 1)) later ≡ whole
round_more rounds i whole written next state later number below step drawn is so_far =
    let k : rounds - i ≡ suc (rounds - (i + 1)) = omega arith in
    let made : next ≡ written ++ text_of_lines (round_lines (number_of (next_state state))) =
    is ∙ ap (λ (n : ℕ). written ++ text_of_lines (round_lines n)) (drawn ∙ ap number_of step) in
    let falls : rounds_text (rounds - i) state
    ≡ text_of_lines (round_lines (number_of (next_state state))) ++ rounds_text (rounds - (i + 1)) (next_state state) =
    ap (λ (left : ℕ). rounds_text left state) k ∙ one_round (rounds - (i + 1)) state in
    ap (λ (s : ℕ). next ++ rounds_text (rounds - (i + 1)) s) step
    ∙ piece_more whole written next _ _ (rounds_text (rounds - i) state) made falls so_far

pub state_more : (rounds i state later last : ℕ) → i < rounds → later ≡ next_state state
    → state_after (rounds - i) state ≡ last → state_after (rounds - (i + 1)) later ≡ last
state_more rounds i state later last below step so_far =
    let k : rounds - i ≡ suc (rounds - (i + 1)) = omega arith in
    ap (λ (s : ℕ). state_after (rounds - (i + 1)) s) step ∙ sym (ap (λ (left : ℕ). state_after left state) k) ∙ so_far

pub rounds_end : (rounds i : ℕ) (whole written : Bytes) (state : ℕ) → rounds ≤ i
    → written ++ rounds_text (rounds - i) state ≡ whole → written ≡ whole
rounds_end rounds i whole written state over so_far =
    let k : rounds - i ≡ 0 = omega arith in
    nothing_left whole written (rounds_text (rounds - i) state) (ap (λ (left : ℕ). rounds_text left state) k) so_far

pub state_end : (rounds i state last : ℕ) → rounds ≤ i → state_after (rounds - i) state ≡ last → state ≡ last
state_end rounds i state last over so_far =
    let k : rounds - i ≡ 0 = omega arith in
    sym (ap (λ (left : ℕ). state_after left state) k) ∙ so_far

pub load_begins : (sessions rounds seed state : ℕ) (written : Bytes) → written ≡ [] → state ≡ seed
    → written ++ sessions_text (sessions - 0) rounds state ≡ sessions_text sessions rounds seed
load_begins sessions rounds seed state written none begun =
    let k : sessions - 0 ≡ sessions = omega arith in
    ap (λ text. text ++ sessions_text (sessions - 0) rounds state) none
    ∙ ap (λ (left : ℕ). sessions_text left rounds state) k
    ∙ ap (λ (s : ℕ). sessions_text sessions rounds s) begun

pub session_more : (sessions rounds i : ℕ) (whole written next : Bytes) (state later : ℕ) → i < sessions
    → later ≡ state_after rounds state → next ≡ written ++ text_of_lines (session_lines (round_numbers rounds state))
    → written ++ sessions_text (sessions - i) rounds state ≡ whole
    → next ++ sessions_text (sessions - (i + 1)) rounds later ≡ whole
session_more sessions rounds i whole written next state later below step is so_far =
    let k : sessions - i ≡ suc (sessions - (i + 1)) = omega arith in
    let falls : sessions_text (sessions - i) rounds state ≡ text_of_lines (session_lines (round_numbers rounds state))
    ++ sessions_text (sessions - (i + 1)) rounds (state_after rounds state) =
    ap (λ (left : ℕ). sessions_text left rounds state) k ∙ one_session (sessions - (i + 1)) rounds state in
    ap (λ (s : ℕ). next ++ sessions_text (sessions - (i + 1)) rounds s) step
    ∙ piece_more whole written next _ _ (sessions_text (sessions - i) rounds state) is falls so_far

pub sessions_end : (sessions rounds i : ℕ) (whole written : Bytes) (state : ℕ) → sessions ≤ i
    → written ++ sessions_text (sessions - i) rounds state ≡ whole → written ≡ whole
sessions_end sessions rounds i whole written state over so_far =
    let k : sessions - i ≡ 0 = omega arith in
    nothing_left whole written (sessions_text (sessions - i) rounds state)
    (ap (λ (left : ℕ). sessions_text left rounds state) k) so_far
