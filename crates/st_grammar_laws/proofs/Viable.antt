-- From every state of the machine some words lead to the end.
use Rattle.std.proofs.Common.{◌≡◌, refl, ap, ap₂, ◌∙◌, ℕ, ◌<◌, max, Bool, true, false, cond, not, ◌&&◌, ◌||◌, Some, Ok}
use Rattle.std.proofs.Common.{bytes_eq, List, [], ◌∷◌, ◌++◌, length, replicate, arith}
use Rattle.std.proofs.lemmas.List.{length-replicate}
use Rattle.std.proofs.lemmas.Slice.Eq.{bytes_eq-Decides}
use Rattle.texts.specs.Bytes.{Bytes}
use Rattle.st_tree.specs.Trees.{sym as symbol_of, array, Constants, block, closure, name, Expression, no_statements}
use Rattle.st_tree.specs.Trees.{Program}
use Rattle.st_grammar.specs.Tokens.{identifier, number, bar, close_paren, close_bracket}
use Rattle.st_grammar.specs.Grammar.{Word, word, GrammarRule, p7, Kept, is_super, is_among, may_declare, Next}
use Rattle.st_grammar.specs.Grammar.{any_message, no_message}
use Rattle.st_grammar_laws.specs.Machine.{as_message, as_cascade, Body, top, in_block, Seat, in_body, in_paren, Wide}
use Rattle.st_grammar_laws.specs.Machine.{alone, keyword_part, Slot, outer, binary_part, Nest, of_head, in_array, State}
use Rattle.st_grammar_laws.specs.Machine.{at_pattern, pattern_operator, pattern_keyword, pattern_more, header, in_temps}
use Rattle.st_grammar_laws.specs.Machine.{begin, ended, want, named, minus, have, after_semicolon, in_params}
use Rattle.st_grammar_laws.specs.Machine.{param_wanted, in_elements, element_minus, element_run, goes, breaks, stuck}
use Rattle.st_grammar_laws.specs.Machine.{check, bare, added, one_more, unary, held, closed_in, round_at, square_at}
use Rattle.st_grammar_laws.specs.Machine.{params_step, last_at, seat_in, close_block, program_of, close_array}
use Rattle.st_grammar_laws.specs.Machine.{machine_step, last, blame, go, finish, machine_run, have_step}

-- a name that isn't among these, of a letter more than the longest of them
abbrev pub longest : List Bytes → ℕ
longest [] = 0
longest (x ∷ xs) = max (length x) (longest xs)

abbrev pub fresh : List Bytes → Bytes
fresh names = 97 ∷ replicate (longest names) 97

differs_by : (x y : Bytes) (b : Bool) → (b ≡ true → x ≡ y) → length y < length x → b ≡ false
differs_by x y true same shorter =
    let e : length x ≡ length y = ap length (same refl) in
    let none : ⊥ = omega arith in
    absurd none
differs_by x y false same shorter = refl

differs : (x y : Bytes) → length y < length x → bytes_eq x y ≡ false
differs x y shorter = differs_by x y (bytes_eq x y) (bytes_eq-Decides x y).0 shorter

not_among : (names : List Bytes) (x : Bytes) → longest names < length x → is_among names x ≡ false
not_among [] x longer = refl
not_among (y ∷ ys) x longer =
    let first : length y < length x = omega arith in
    let others : longest ys < length x = omega arith in
    ap₂ ◌||◌ (differs x y first) (not_among ys x others)

letters_long : (n b : ℕ) → length (replicate n b) ≡ n
letters_long n b = length-replicate n b

fresh_declared : (names : List Bytes) → may_declare names (fresh names) ≡ true
fresh_declared names =
    let longer : longest names < length (fresh names) = omega (arith, letters_long (longest names) 97) in
    ap not (not_among names (fresh names) longer)

-- the words that complete a state: names, `1` that touches a `-`, `|`, `]` and `)`
abbrev pub name_word : Bytes → Word
name_word x = word identifier x false

abbrev pub letter : Word
letter = name_word (97 ∷ [])

abbrev pub one_word : Word
one_word = word number (49 ∷ []) true

abbrev pub bar_word : Word
bar_word = word bar (124 ∷ []) false

abbrev pub square_word : Word
square_word = word close_bracket (93 ∷ []) false

abbrev pub round_word : Word
round_word = word close_paren (41 ∷ []) false

-- the brackets that close what is begun around a place
abbrev mutual
  pub close_body : Body → List Word
  close_body (top selector ps ts body) = []
  close_body (in_block k names ps ts body) = square_word ∷ close_slot k

  pub close_seat : Seat → List Word
  close_seat (in_body b r) = close_body b
  close_seat (in_paren k names) = round_word ∷ close_slot k

  pub close_wide : Wide → List Word
  close_wide (alone o) = close_seat o
  close_wide (keyword_part o role f selector es) = close_seat o

  pub close_slot : Slot → List Word
  close_slot (outer w) = close_wide w
  close_slot (binary_part w role f x) = close_wide w

abbrev pub close_nest : Nest → List Word
close_nest (of_head k names) = round_word ∷ close_slot k
close_nest (in_array n cs) = round_word ∷ close_nest n

abbrev pub end_of : State → List Word
end_of at_pattern = letter ∷ []
end_of (pattern_operator selector) = letter ∷ []
end_of (pattern_keyword selector ps) = name_word (fresh ps) ∷ []
end_of (pattern_more selector ps) = []
end_of (header b) = close_body b
end_of (in_temps b) = bar_word ∷ close_body b
end_of (begin b) = close_body b
end_of (ended b) = close_body b
end_of (want k names) = letter ∷ letter ∷ close_slot k
end_of (named k names y) = letter ∷ close_slot k
end_of (minus k names) = one_word ∷ close_slot k
end_of (have k e next) = close_slot k
end_of (after_semicolon o e) = letter ∷ close_seat o
end_of (in_params k names ps) = square_word ∷ close_slot k
end_of (param_wanted k names ps) = name_word (fresh ps) ∷ square_word ∷ close_slot k
end_of (in_elements n cs) = close_nest n
end_of (element_minus n cs m) = close_nest n
end_of (element_run n cs r) = close_nest n

abbrev pub Leads : Kept → State → List Word → Type 0
Leads kept s ws = (program : Program) × (machine_run kept s ws ≡ Ok program)

by_step : (kept : Kept) (s : State) (w : Word) (s' : State) (ws : List Word) → machine_step kept s w ≡ goes s'
    → Leads kept s' ws → Leads kept s (w ∷ ws)
by_step kept s w s' ws e h = (h.0, ap (go (blame kept s) (w ∷ ws) (λ (x : State). machine_run kept x ws)) e ∙ h.1)

at_last : (kept : Kept) (s : State) (program : Program) → last s ≡ Some program → Leads kept s []
at_last kept s program e = (program, ap (finish (blame kept s)) e)

allowed : (kept : Kept) (r : GrammarRule) (s : State) → check kept r true s ≡ goes s
allowed kept r s = ap (λ (b : Bool). cond b (goes s) (breaks r)) (always_true (kept r)) where
  always_true : (b : Bool) → cond b true true ≡ true
  always_true true = refl
  always_true false = refl

declares : (kept : Kept) (names : List Bytes) (s : State) → check kept p7 (may_declare names (fresh names)) s ≡ goes s
declares kept names s = ap (λ (b : Bool). check kept p7 b s) (fresh_declared names) ∙ allowed kept p7 s

-- a state that takes the brackets and the end as an expression does
mutual
  seat_leads : (kept : Kept) (o : Seat) (e : Expression) (s : State) → last s ≡ last_at o e
      → machine_step kept s round_word ≡ round_at o e → machine_step kept s square_word ≡ square_at o e
      → Leads kept s (close_seat o)
  seat_leads kept (in_body (top selector ps ts body) r) e s end round square = at_last kept s _ end
  seat_leads kept (in_body (in_block k names ps ts body) r) e s end round square = by_step kept s square_word _
      (close_slot k) square (slot_leads kept k _ any_message)
  seat_leads kept (in_paren k names) e s end round square = by_step kept s round_word _ (close_slot k) round
      (slot_leads kept k _ any_message)

  wide_leads : (kept : Kept) (w : Wide) (e : Expression) (s : State) → last s ≡ last_at (seat_in w) (closed_in w e)
      → machine_step kept s round_word ≡ round_at (seat_in w) (closed_in w e)
      → machine_step kept s square_word ≡ square_at (seat_in w) (closed_in w e) → Leads kept s (close_wide w)
  wide_leads kept (alone o) e s end round square = seat_leads kept o e s end round square
  wide_leads kept (keyword_part o role f selector es) e s end round square = seat_leads kept o
      (closed_in (keyword_part o role f selector es) e) s end round square

  slot_leads : (kept : Kept) (k : Slot) (e : Expression) (next : Next) → Leads kept (have k e next) (close_slot k)
  slot_leads kept (outer w) e next = wide_leads kept w e (have (outer w) e next) refl refl refl
  slot_leads kept (binary_part w role f x) e next = wide_leads kept w (held (binary_part w role f x) e)
      (have (binary_part w role f x) e next) refl refl refl

-- a state that takes `]` and the end as a body does
body_leads : (kept : Kept) (b : Body) (s : State) → last s ≡ program_of b
    → machine_step kept s square_word ≡ close_block b → Leads kept s (close_body b)
body_leads kept (top selector ps ts body) s end square = at_last kept s _ end
body_leads kept (in_block k names ps ts body) s end square = by_step kept s square_word _ (close_slot k) square
    (slot_leads kept k _ any_message)

begin_leads : (kept : Kept) (b : Body) → Leads kept (begin b) (close_body b)
begin_leads kept b = body_leads kept b (begin b) refl refl

header_leads : (kept : Kept) (b : Body) → Leads kept (header b) (close_body b)
header_leads kept b = body_leads kept b (header b) refl refl

-- `super` takes the letter as a message, and so does any name
letter_sent : (k : Slot) (y : Bytes) (e : Expression)
    → cond (is_super y && false) stuck (have_step k e any_message identifier (97 ∷ []))
    ≡ goes (have k (added as_message e (unary (97 ∷ []))) any_message)
letter_sent k y e = ap (λ (b : Bool). cond b stuck (have_step k e any_message identifier (97 ∷ [])))
    (and_false (is_super y)) where
      and_false : (b : Bool) → (b && false) ≡ false
      and_false true = refl
      and_false false = refl

named_leads : (kept : Kept) (k : Slot) (names : List Bytes) (y : Bytes)
    → Leads kept (named k names y) (letter ∷ close_slot k)
named_leads kept k names y = by_step kept (named k names y) letter _ (close_slot k)
    (letter_sent k y (bare names (name y))) (slot_leads kept k _ any_message)

-- parameters, and literal arrays
params_close : (kept : Kept) (k : Slot) (names ps : List Bytes)
    → params_step kept k names ps close_bracket (93 ∷ [])
    ≡ goes (have k (bare names (block (closure ps [] no_statements))) any_message)
params_close kept k names [] = refl
params_close kept k names (p ∷ ps) = refl

params_lead : (kept : Kept) (k : Slot) (names ps : List Bytes)
    → Leads kept (in_params k names ps) (square_word ∷ close_slot k)
params_lead kept k names ps = by_step kept (in_params k names ps) square_word _ (close_slot k)
    (params_close kept k names ps) (slot_leads kept k _ any_message)

nest_leads : (kept : Kept) (n : Nest) (cs : Constants) (s : State)
    → machine_step kept s round_word ≡ goes (close_array n (array cs)) → Leads kept s (close_nest n)
nest_leads kept (of_head k names) cs s round = by_step kept s round_word _ (close_slot k) round
    (slot_leads kept k _ any_message)
nest_leads kept (in_array n ds) cs s round =
    by_step kept s round_word _ (close_nest n) round
    (nest_leads kept n (one_more ds (array cs)) (in_elements n (one_more ds (array cs))) refl)

-- Every state is completed by its words, whichever rules are kept.
pub leads : (kept : Kept) (s : State) → Leads kept s (end_of s)
leads kept at_pattern = by_step kept at_pattern letter (header (top (Some (97 ∷ [])) [] [] no_statements)) [] refl
    (header_leads kept (top (Some (97 ∷ [])) [] [] no_statements))
leads kept (pattern_operator selector) =
    by_step kept (pattern_operator selector) letter (header (top (Some selector) ((97 ∷ []) ∷ []) [] no_statements)) []
    (allowed kept p7 (header (top (Some selector) ((97 ∷ []) ∷ []) [] no_statements)))
    (header_leads kept (top (Some selector) ((97 ∷ []) ∷ []) [] no_statements))
leads kept (pattern_keyword selector ps) =
    by_step kept (pattern_keyword selector ps) (name_word (fresh ps)) (pattern_more selector (ps ++ fresh ps ∷ [])) []
    (declares kept ps (pattern_more selector (ps ++ fresh ps ∷ [])))
    (at_last kept (pattern_more selector (ps ++ fresh ps ∷ [])) _ refl)
leads kept (pattern_more selector ps) = at_last kept (pattern_more selector ps) _ refl
leads kept (header b) = header_leads kept b
leads kept (in_temps b) = by_step kept (in_temps b) bar_word (begin b) (close_body b) refl (begin_leads kept b)
leads kept (begin b) = begin_leads kept b
leads kept (ended b) = body_leads kept b (ended b) refl refl
leads kept (want k names) = by_step kept (want k names) letter (named k names (97 ∷ [])) (letter ∷ close_slot k) refl
    (named_leads kept k names (97 ∷ []))
leads kept (named k names y) = named_leads kept k names y
leads kept (minus k names) = by_step kept (minus k names) one_word _ (close_slot k) refl
    (slot_leads kept k _ any_message)
leads kept (have k e next) = slot_leads kept k e next
leads kept (after_semicolon o e) = by_step kept (after_semicolon o e) letter
    (have (outer (alone o)) (added as_cascade e (unary (97 ∷ []))) no_message) (close_seat o) refl
    (slot_leads kept (outer (alone o)) (added as_cascade e (unary (97 ∷ []))) no_message)
leads kept (in_params k names ps) = params_lead kept k names ps
leads kept (param_wanted k names ps) = by_step kept (param_wanted k names ps) (name_word (fresh ps))
    (in_params k names (ps ++ fresh ps ∷ [])) (square_word ∷ close_slot k)
    (declares kept ps (in_params k names (ps ++ fresh ps ∷ []))) (params_lead kept k names (ps ++ fresh ps ∷ []))
leads kept (in_elements n cs) = nest_leads kept n cs (in_elements n cs) refl
leads kept (element_minus n cs m) = nest_leads kept n (one_more cs (symbol_of m)) (element_minus n cs m) refl
leads kept (element_run n cs r) = nest_leads kept n (one_more cs (symbol_of r)) (element_run n cs r) refl
