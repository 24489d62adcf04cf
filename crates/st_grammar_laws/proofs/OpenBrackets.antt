-- The machine's brackets are those that its tokens have left open.
use Rattle.std.proofs.Common.{◌≡◌, ℕ, Bool, true, false, cond, Some, List, [], ◌∷◌, refl, ap, ◌∙◌, subst}
use Rattle.texts.specs.Bytes.{Bytes}
use Rattle.st_tree.specs.Trees.{Expression, Statement, Constants, no_statements, name, sym as sym_constant}
use Rattle.st_grammar.specs.Tokens.{Kind, identifier, keyword, number, character, string, symbol, binary, bar, assign}
use Rattle.st_grammar.specs.Tokens.{colon, caret, semicolon, period, open_paren, close_paren, open_bracket}
use Rattle.st_grammar.specs.Tokens.{close_bracket, open_array, Token}
use Rattle.st_grammar.specs.Grammar.{word, GrammarRule, Kept, passes, is_minus, Next, any_message, takes_unary, goes_on}
use Rattle.st_grammar.specs.Grammar.{words_after, Form, chunk, method}
use Rattle.st_grammar.specs.Fails.{Bracket, square, round, open_behind, open_after, first_of, innermost}
use Rattle.st_grammar_laws.specs.Machine.{Body, top, in_block, Seat, in_body, in_paren, Wide, alone, keyword_part, Slot}
use Rattle.st_grammar_laws.specs.Machine.{outer, binary_part, Nest, of_head, in_array, State, at_pattern}
use Rattle.st_grammar_laws.specs.Machine.{pattern_operator, pattern_keyword, pattern_more, header, in_temps, begin}
use Rattle.st_grammar_laws.specs.Machine.{ended, want, named, minus, have, after_semicolon, in_params, param_wanted}
use Rattle.st_grammar_laws.specs.Machine.{in_elements, element_minus, element_run, Verdict, goes, breaks, stuck, check}
use Rattle.st_grammar_laws.specs.Machine.{bare, one_more, has_messages, with_statement, with_temp, wide_of, seat_of}
use Rattle.st_grammar_laws.specs.Machine.{held, next_in, closed, keyword_at, period_at, round_at, square_at}
use Rattle.st_grammar_laws.specs.Machine.{close_block, have_step, named_step, head_step, begin_step, header_step}
use Rattle.st_grammar_laws.specs.Machine.{params_step, close_array, elements_step, more_step, level_of, is_full}
use Rattle.st_grammar_laws.specs.Machine.{machine_step, bracket, bracket_body, bracket_seat, start}
use Rattle.st_grammar_laws.proofs.Paths.{Path, path_end, path_on}

-- the brackets that stand open around a place, the innermost first
abbrev mutual
  pub brackets_body : Body → List Bracket
  brackets_body (top selector ps ts body) = []
  brackets_body (in_block k names ps ts body) = square ∷ brackets_slot k

  pub brackets_seat : Seat → List Bracket
  brackets_seat (in_body b r) = brackets_body b
  brackets_seat (in_paren k names) = round ∷ brackets_slot k

  pub brackets_wide : Wide → List Bracket
  brackets_wide (alone o) = brackets_seat o
  brackets_wide (keyword_part o role f selector es) = brackets_seat o

  pub brackets_slot : Slot → List Bracket
  brackets_slot (outer w) = brackets_wide w
  brackets_slot (binary_part w role f x) = brackets_wide w

abbrev pub brackets_nest : Nest → List Bracket
brackets_nest (of_head k names) = round ∷ brackets_slot k
brackets_nest (in_array n cs) = round ∷ brackets_nest n

abbrev pub brackets : State → List Bracket
brackets at_pattern = []
brackets (pattern_operator selector) = []
brackets (pattern_keyword selector ps) = []
brackets (pattern_more selector ps) = []
brackets (header b) = brackets_body b
brackets (in_temps b) = brackets_body b
brackets (begin b) = brackets_body b
brackets (ended b) = brackets_body b
brackets (want k names) = brackets_slot k
brackets (named k names y) = brackets_slot k
brackets (minus k names) = brackets_slot k
brackets (have k e next) = brackets_slot k
brackets (after_semicolon o e) = brackets_seat o
brackets (in_params k names ps) = square ∷ brackets_slot k
brackets (param_wanted k names ps) = square ∷ brackets_slot k
brackets (in_elements n cs) = brackets_nest n
brackets (element_minus n cs m) = brackets_nest n
brackets (element_run n cs run) = brackets_nest n

seat_brackets : (k : Slot) → brackets_seat (seat_of k) ≡ brackets_slot k
seat_brackets (outer (alone o)) = refl
seat_brackets (outer (keyword_part o role f selector es)) = refl
seat_brackets (binary_part (alone o) role f x) = refl
seat_brackets (binary_part (keyword_part o role g selector es) role' f x) = refl

wide_brackets : (k : Slot) → brackets_wide (wide_of k) ≡ brackets_slot k
wide_brackets (outer w) = refl
wide_brackets (binary_part w role f x) = refl

body_brackets : (b : Body) (s : Statement) → brackets_body (with_statement b s) ≡ brackets_body b
body_brackets (top selector ps ts body) s = refl
body_brackets (in_block k names ps ts body) s = refl

temp_brackets : (b : Body) (x : Bytes) → brackets_body (with_temp b x) ≡ brackets_body b
temp_brackets (top selector ps ts body) x = refl
temp_brackets (in_block k names ps ts body) x = refl

-- where the verdict goes on, the state that it goes to has these brackets
abbrev Leaves : List Bracket → Verdict → Type 0
Leaves bs (goes u) = brackets u ≡ bs
Leaves bs (breaks r) = Unit {0}
Leaves bs stuck = Unit {0}

if_leaves : (bs : List Bracket) (v : Bool) (a b : Verdict) → Leaves bs a → Leaves bs b → Leaves bs (cond v a b)
if_leaves bs true a b p q = p
if_leaves bs false a b p q = q

check_leaves : (kept : Kept) (r : GrammarRule) (test : Bool) (u : State) (bs : List Bracket) → brackets u ≡ bs
    → Leaves bs (check kept r test u)
check_leaves kept r test u bs e = if_leaves bs (passes kept r test) (goes u) (breaks r) e tt

keyword_leaves : (w : Wide) (e : Expression) (next : Next) (x : Bytes)
    → Leaves (brackets_wide w) (keyword_at w e next x)
keyword_leaves (alone o) e next x = if_leaves (brackets_seat o) (goes_on next) _ stuck refl tt
keyword_leaves (keyword_part o role f selector es) e next x = refl

period_leaves : (o : Seat) (e : Expression) → Leaves (brackets_seat o) (period_at o e)
period_leaves (in_body b true) e = body_brackets b _
period_leaves (in_body b false) e = body_brackets b _
period_leaves (in_paren k names) e = tt

round_leaves : (o : Seat) (e : Expression) → Leaves (open_behind close_paren (brackets_seat o)) (round_at o e)
round_leaves (in_body b r) e = tt
round_leaves (in_paren k names) e = refl

block_leaves : (b : Body) → Leaves (open_behind close_bracket (brackets_body b)) (close_block b)
block_leaves (top selector ps ts body) = tt
block_leaves (in_block k names ps ts body) = refl

square_leaves : (o : Seat) (e : Expression) → Leaves (open_behind close_bracket (brackets_seat o)) (square_at o e)
square_leaves (in_body (top selector ps ts body) r) e = tt
square_leaves (in_body (in_block k names ps ts body) r) e = refl
square_leaves (in_paren k names) e = tt

have_leaves : (k : Slot) (e : Expression) (next : Next) (kind : Kind) (x : Bytes)
    → Leaves (open_behind kind (brackets_slot k)) (have_step k e next kind x)
have_leaves k e next identifier x = if_leaves (brackets_slot k) (takes_unary next) _ stuck refl tt
have_leaves k e next binary x = if_leaves (brackets_slot k) (goes_on (next_in k next)) _ stuck (wide_brackets k) tt
have_leaves k e next bar x = if_leaves (brackets_slot k) (goes_on (next_in k next)) _ stuck (wide_brackets k) tt
have_leaves k e next keyword x = subst
    (λ bs. Leaves bs (have_step k e next keyword x)) (wide_brackets k)
    (keyword_leaves (wide_of k) (held k e) (next_in k next) x)
have_leaves k e next semicolon x = if_leaves (brackets_slot k) (has_messages (closed k e)) _ stuck (seat_brackets k) tt
have_leaves k e next period x = subst
    (λ bs. Leaves bs (have_step k e next period x)) (seat_brackets k) (period_leaves (seat_of k) (closed k e))
have_leaves k e next close_paren x = subst
    (λ bs. Leaves (open_behind close_paren bs) (have_step k e next close_paren x)) (seat_brackets k)
    (round_leaves (seat_of k) (closed k e))
have_leaves k e next close_bracket x = subst
    (λ bs. Leaves (open_behind close_bracket bs) (have_step k e next close_bracket x)) (seat_brackets k)
    (square_leaves (seat_of k) (closed k e))
have_leaves k e next _ x = tt

named_leaves : (kept : Kept) (k : Slot) (names : List Bytes) (y : Bytes) (kind : Kind) (x : Bytes)
    → Leaves (open_behind kind (brackets_slot k)) (named_step kept k names y kind x)
named_leaves kept k names y assign x = if_leaves (brackets_slot k) (is_full (level_of k)) _ stuck
    (check_leaves kept _ _ _ (brackets_slot k) refl) tt
named_leaves kept k names y kind x = if_leaves (open_behind kind (brackets_slot k)) _ stuck
    (have_step k (bare names (name y)) any_message kind x) tt (have_leaves k (bare names (name y)) any_message kind x)

head_leaves : (kept : Kept) (k : Slot) (names : List Bytes) (kind : Kind) (x : Bytes)
    → Leaves (open_behind kind (brackets_slot k)) (head_step kept k names kind x)
head_leaves kept k names identifier x = refl
head_leaves kept k names number x = refl
head_leaves kept k names character x = refl
head_leaves kept k names string x = refl
head_leaves kept k names symbol x = refl
head_leaves kept k names binary x = if_leaves (brackets_slot k) (is_minus x) _ stuck refl tt
head_leaves kept k names open_paren x = check_leaves kept _ _ _ (round ∷ brackets_slot k) refl
head_leaves kept k names open_bracket x = check_leaves kept _ _ _ (square ∷ brackets_slot k) refl
head_leaves kept k names open_array x = check_leaves kept _ _ _ (round ∷ brackets_slot k) refl
head_leaves kept k names _ x = tt

begin_leaves : (kept : Kept) (b : Body) (kind : Kind) (x : Bytes)
    → Leaves (open_behind kind (brackets_body b)) (begin_step kept b kind x)
begin_leaves kept b caret x = refl
begin_leaves kept b close_bracket x = block_leaves b
begin_leaves kept b kind x = head_leaves kept (outer (alone (in_body b false))) [] kind x

header_leaves : (kept : Kept) (b : Body) (kind : Kind) (x : Bytes)
    → Leaves (open_behind kind (brackets_body b)) (header_step kept b kind x)
header_leaves kept b bar x = refl
header_leaves kept b kind x = begin_leaves kept b kind x

params_leaves : (kept : Kept) (k : Slot) (names ps : List Bytes) (kind : Kind) (x : Bytes)
    → Leaves (open_behind kind (square ∷ brackets_slot k)) (params_step kept k names ps kind x)
params_leaves kept k names ps colon x = refl
params_leaves kept k names [] kind x = header_leaves kept (in_block k names [] [] no_statements) kind x
params_leaves kept k names (p ∷ ps) bar x = refl
params_leaves kept k names (p ∷ ps) close_bracket x = refl
params_leaves kept k names (p ∷ ps) _ x = tt

array_leaves : (n : Nest) (c : _) → brackets (close_array n c) ≡ open_behind close_paren (brackets_nest n)
array_leaves (of_head k names) c = refl
array_leaves (in_array n cs) c = refl

elements_leave : (kept : Kept) (n : Nest) (cs : Constants) (kind : Kind) (x : Bytes)
    → Leaves (open_behind kind (brackets_nest n)) (elements_step kept n cs kind x)
elements_leave kept n cs identifier x = refl
elements_leave kept n cs number x = refl
elements_leave kept n cs character x = refl
elements_leave kept n cs string x = refl
elements_leave kept n cs symbol x = refl
elements_leave kept n cs keyword x = refl
elements_leave kept n cs binary x = if_leaves (brackets_nest n) (is_minus x) _ _ refl refl
elements_leave kept n cs bar x = refl
elements_leave kept n cs open_paren x = check_leaves kept _ _ _ (round ∷ brackets_nest n) refl
elements_leave kept n cs open_array x = check_leaves kept _ _ _ (round ∷ brackets_nest n) refl
elements_leave kept n cs close_paren x = array_leaves n _
elements_leave kept n cs _ x = tt

more_leaves : (kept : Kept) (selector : Bytes) (ps : List Bytes) (kind : Kind) (x : Bytes)
    → Leaves (open_behind kind []) (more_step kept selector ps kind x)
more_leaves kept selector ps keyword x = refl
more_leaves kept selector ps kind x = header_leaves kept (top (Some selector) ps [] no_statements) kind x

step_leaves : (kept : Kept) (s : State) (kind : Kind) (x : Bytes) (t : Bool)
    → Leaves (open_behind kind (brackets s)) (machine_step kept s (word kind x t))
step_leaves kept at_pattern identifier x t = refl
step_leaves kept at_pattern binary x t = refl
step_leaves kept at_pattern bar x t = refl
step_leaves kept at_pattern keyword x t = refl
step_leaves kept at_pattern _ x t = tt
step_leaves kept (pattern_operator selector) identifier x t = check_leaves kept _ _ _ [] refl
step_leaves kept (pattern_operator selector) _ x t = tt
step_leaves kept (pattern_keyword selector ps) identifier x t = check_leaves kept _ _ _ [] refl
step_leaves kept (pattern_keyword selector ps) _ x t = tt
step_leaves kept (pattern_more selector ps) kind x t = more_leaves kept selector ps kind x
step_leaves kept (header b) kind x t = header_leaves kept b kind x
step_leaves kept (in_temps b) identifier x t = check_leaves kept _ _ _ (brackets_body b) (temp_brackets b x)
step_leaves kept (in_temps b) bar x t = refl
step_leaves kept (in_temps b) _ x t = tt
step_leaves kept (begin b) kind x t = begin_leaves kept b kind x
step_leaves kept (ended b) close_bracket x t = block_leaves b
step_leaves kept (ended b) _ x t = tt
step_leaves kept (want k names) kind x t = head_leaves kept k names kind x
step_leaves kept (named k names y) kind x t = named_leaves kept k names y kind x
step_leaves kept (minus k names) number x true = refl
step_leaves kept (minus k names) number x false = tt
step_leaves kept (minus k names) _ x t = tt
step_leaves kept (have k e next) kind x t = have_leaves k e next kind x
step_leaves kept (after_semicolon o e) identifier x t = refl
step_leaves kept (after_semicolon o e) binary x t = refl
step_leaves kept (after_semicolon o e) bar x t = refl
step_leaves kept (after_semicolon o e) keyword x t = refl
step_leaves kept (after_semicolon o e) _ x t = tt
step_leaves kept (in_params k names ps) kind x t = params_leaves kept k names ps kind x
step_leaves kept (param_wanted k names ps) identifier x t = check_leaves kept _ _ _ (square ∷ brackets_slot k) refl
step_leaves kept (param_wanted k names ps) _ x t = tt
step_leaves kept (in_elements n cs) kind x t = elements_leave kept n cs kind x
step_leaves kept (element_minus n cs m) number x true = refl
step_leaves kept (element_minus n cs m) number x false = refl
step_leaves kept (element_minus n cs m) kind x t = elements_leave kept n (one_more cs (sym_constant m)) kind x
step_leaves kept (element_run n cs run) keyword x true = refl
step_leaves kept (element_run n cs run) keyword x false = refl
step_leaves kept (element_run n cs run) kind x t = elements_leave kept n (one_more cs (sym_constant run)) kind x

-- The innermost open bracket is the first of them.
body_first : (b : Body) → bracket_body b ≡ first_of (brackets_body b)
body_first (top selector ps ts body) = refl
body_first (in_block k names ps ts body) = refl

seat_first : (o : Seat) → bracket_seat o ≡ first_of (brackets_seat o)
seat_first (in_body b r) = body_first b
seat_first (in_paren k names) = refl

slot_first : (k : Slot) → bracket_seat (seat_of k) ≡ first_of (brackets_slot k)
slot_first k = seat_first (seat_of k) ∙ ap first_of (seat_brackets k)

nest_first : (n : Nest) → Some round ≡ first_of (brackets_nest n)
nest_first (of_head k names) = refl
nest_first (in_array n cs) = refl

pub first_bracket : (s : State) → bracket s ≡ first_of (brackets s)
first_bracket at_pattern = refl
first_bracket (pattern_operator selector) = refl
first_bracket (pattern_keyword selector ps) = refl
first_bracket (pattern_more selector ps) = refl
first_bracket (header b) = body_first b
first_bracket (in_temps b) = body_first b
first_bracket (begin b) = body_first b
first_bracket (ended b) = body_first b
first_bracket (want k names) = slot_first k
first_bracket (named k names y) = slot_first k
first_bracket (minus k names) = slot_first k
first_bracket (have k e next) = slot_first k
first_bracket (after_semicolon o e) = seat_first o
first_bracket (in_params k names ps) = refl
first_bracket (param_wanted k names ps) = refl
first_bracket (in_elements n cs) = nest_first n
first_bracket (element_minus n cs m) = nest_first n
first_bracket (element_run n cs run) = nest_first n

-- The brackets of the state that tokens lead to.
pub path_brackets : {kept : Kept} {s u : State} (at : ℕ) (text : Bytes) (ts : List Token)
    → Path kept s (words_after at text ts) u → brackets u ≡ open_after (brackets s) ts
path_brackets at text [] path_end = refl
path_brackets {kept} {s} at text (t ∷ ts) (path_on {u = v} e p) =
    let here : brackets v ≡ open_behind t.kind (brackets s) = subst (Leaves (open_behind t.kind (brackets s))) e
    (step_leaves kept s t.kind _ _) in
    path_brackets t.to text ts p ∙ ap (λ bs. open_after bs ts) here

start_brackets : (form : Form) → brackets (start form) ≡ []
start_brackets chunk = refl
start_brackets method = refl

-- The innermost bracket that tokens leave open is that of the state that they lead to.
pub path_bracket : {kept : Kept} {u : State} (form : Form) (text : Bytes) (ts : List Token)
    → Path kept (start form) (words_after 0 text ts) u → bracket u ≡ innermost ts
path_bracket {u = u} form text ts p = first_bracket u
    ∙ ap first_of (path_brackets 0 text ts p ∙ ap (λ bs. open_after bs ts) (start_brackets form))
