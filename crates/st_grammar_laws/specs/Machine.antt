-- A machine that reads the tokens of a chunk or method one by one and builds its tree.
-- Its states hold the parts of the tree that are begun, and every state can still reach the end.
use Rattle.std.specs.Prelude.{ℕ, suc, Bool, true, false, cond, not, ◌&&◌, nat_lt, Option, Some}
use Rattle.std.specs.Prelude.{None, Result, Ok, Err, List, [], ◌∷◌, ◌++◌}
use Rattle.texts.specs.Bytes.{Bytes}
use Rattle.st_grammar.specs.declared.limits.TheConstants.{DEPTH_LIMIT}
use Rattle.st_tree.specs.Trees.{Constant, char, str, sym, array, Constants, no_constants}
use Rattle.st_tree.specs.Trees.{a_constant, append_constants, Head, name, constant, block, paren}
use Rattle.st_tree.specs.Trees.{closure, Expression, expression, Send, send, Statement, statement}
use Rattle.st_tree.specs.Trees.{Statements, no_statements, a_statement, append_statements, no_sends}
use Rattle.st_tree.specs.Trees.{a_send, append_sends, Expressions, no_expressions, an_expression}
use Rattle.st_tree.specs.Trees.{append_expressions, Program}
use Rattle.st_grammar.specs.Tokens.{Kind, identifier, keyword, number, character, string, symbol}
use Rattle.st_grammar.specs.Tokens.{binary, bar, assign, colon, caret, semicolon, period}
use Rattle.st_grammar.specs.Tokens.{open_paren, close_paren, open_bracket, close_bracket}
use Rattle.st_grammar.specs.Tokens.{open_array, string_value, symbol_value}
use Rattle.st_grammar.specs.Grammar.{Word, word, GrammarRule, p4, p5, p6, p7, p8, p9, Kept, passes}
use Rattle.st_grammar.specs.Grammar.{is_super, Scope, scope, may_assign, may_declare, is_minus}
use Rattle.st_grammar.specs.Tokens.{character_value}
use Rattle.st_grammar.specs.Grammar.{whole_number, negative_number, named_constant}
use Rattle.st_grammar.specs.Grammar.{Level, of_binary, of_keyword, full, binary_sort, keyword_sort}
use Rattle.st_grammar.specs.Grammar.{holds, Next, any_message, no_unary, no_message, goes_on}
use Rattle.st_grammar.specs.Grammar.{takes_unary, Form, chunk, method}
use Rattle.st_grammar.specs.Fails.{Bracket, square, round}

-- What a message is of the expression that it is in.
pub data Role : Type 0 where
  as_message : Role
  as_cascade : Role

-- Where the machine stands: what is begun around an expression.
mutual
  -- The statements that are begun, with the names declared before them and the statements so far.
  pub data Body : Type 0 where
    -- of the whole text
    top : (selector : Option Bytes) → (params temps : List Bytes) → Statements → Body
    -- of a block that is the head of an expression in this slot, after assignments to these names
    in_block : Slot → (names : List Bytes) → (params temps : List Bytes) → Statements → Body

  -- Where a whole expression stands.
  pub data Seat : Type 0 where
    -- as a statement of this body, with or without `^`
    in_body : Body → (returns : Bool) → Seat
    -- in parentheses that are the head of an expression in this slot, after assignments to these
    -- names
    in_paren : Slot → (names : List Bytes) → Seat

  -- Where an expression with binary messages stands.
  pub data Wide : Type 0 where
    alone : Seat → Wide
    -- as an argument of a keyword message to the expression so far, with the selector so far and
    -- the arguments before
    keyword_part : Seat → Role → Expression → (selector : Bytes) → Expressions → Wide

  -- Where an expression with unary messages stands.
  pub data Slot : Type 0 where
    outer : Wide → Slot
    -- as the argument of a binary message to the expression so far
    binary_part : Wide → Role → Expression → (selector : Bytes) → Slot

-- The literal arrays that are begun around the elements of one.
pub data Nest : Type 0 where
  -- the array is the head of an expression in this slot, after assignments to these names
  of_head : Slot → (names : List Bytes) → Nest
  -- the array is the next element after these
  in_array : Nest → Constants → Nest

-- What has been read, and with it what may come.
pub data State : Type 0 where
  -- the pattern of a method
  at_pattern : State
  -- after a binary selector: its parameter
  pattern_operator : (selector : Bytes) → State
  -- after a keyword: its parameter, with the selector so far and the parameters before
  pattern_keyword : (selector : Bytes) → (params : List Bytes) → State
  -- after a keyword's parameter
  pattern_more : (selector : Bytes) → (params : List Bytes) → State
  -- the temporaries of a body, or its first statement
  header : Body → State
  -- among the temporaries
  in_temps : Body → State
  -- a statement or the end of the body
  begin : Body → State
  -- the end of the body: after a statement with `^` and its `.`
  ended : Body → State
  -- the head of an expression, after assignments to these names
  want : Slot → (names : List Bytes) → State
  -- after an identifier that is such a head, or is assigned to
  named : Slot → (names : List Bytes) → Bytes → State
  -- after a `-`: the number that touches it
  minus : Slot → (names : List Bytes) → State
  -- after an expression that may have more messages
  have : Slot → Expression → Next → State
  -- after a `;`: a message
  after_semicolon : Seat → Expression → State
  -- after the `[` of a block, and after each parameter
  in_params : Slot → (names : List Bytes) → (params : List Bytes) → State
  -- after the `:` of a parameter
  param_wanted : Slot → (names : List Bytes) → (params : List Bytes) → State
  -- among the elements of a literal array, after these
  in_elements : Nest → Constants → State
  -- after a `-` among them
  element_minus : Nest → Constants → (selector : Bytes) → State
  -- after keywords among them
  element_run : Nest → Constants → (run : Bytes) → State

-- What becomes of a state by a token.
pub data Verdict : Type 0 where
  goes : State → Verdict
  -- only this rule forbids the token
  breaks : GrammarRule → Verdict
  stuck : Verdict

abbrev pub check : Kept → GrammarRule → Bool → State → Verdict
check kept r test s = cond (passes kept r test) (goes s) (breaks r)

-- Parts of trees.
abbrev pub bare : List Bytes → Head → Expression
bare names h = expression names h no_sends no_sends

-- the expression with one more message
abbrev pub added : Role → Expression → Send → Expression
added as_message (expression names h ms cs) m = expression names h
    (append_sends ms (a_send m no_sends)) cs
added as_cascade (expression names h ms cs) m = expression names h ms
    (append_sends cs (a_send m no_sends))

abbrev pub has_messages : Expression → Bool
has_messages (expression names h no_sends cs) = false
has_messages (expression names h (a_send m ms) cs) = true

abbrev pub one_more : Constants → Constant → Constants
one_more cs c = append_constants cs (a_constant c no_constants)

abbrev pub and_argument : Expressions → Expression → Expressions
and_argument es e = append_expressions es (an_expression e no_expressions)

abbrev pub unary : Bytes → Send
unary x = send x no_expressions

abbrev pub binary_send : Bytes → Expression → Send
binary_send x e = send x (an_expression e no_expressions)

-- bodies with one more statement, or one more temporary
abbrev pub with_statement : Body → Statement → Body
with_statement (top selector ps ts body) s = top selector ps ts
    (append_statements body (a_statement s no_statements))
with_statement (in_block k names ps ts body) s = in_block k names ps ts
    (append_statements body (a_statement s no_statements))

abbrev pub with_temp : Body → Bytes → Body
with_temp (top selector ps ts body) x = top selector ps (ts ++ x ∷ []) body
with_temp (in_block k names ps ts body) x = in_block k names ps (ts ++ x ∷ []) body

abbrev pub declared : Body → List Bytes
declared (top selector ps ts body) = ps ++ ts
declared (in_block k names ps ts body) = ps ++ ts

-- What is around a place: the scopes, how many brackets are open, and the innermost of them.
abbrev mutual
  pub scopes_body : Body → List Scope
  scopes_body (top selector ps ts body) = scope ps ts ∷ []
  scopes_body (in_block k names ps ts body) = scope ps ts ∷ scopes_of k

  pub scopes_seat : Seat → List Scope
  scopes_seat (in_body b r) = scopes_body b
  scopes_seat (in_paren k names) = scopes_of k

  pub scopes_wide : Wide → List Scope
  scopes_wide (alone o) = scopes_seat o
  scopes_wide (keyword_part o role f selector es) = scopes_seat o

  pub scopes_of : Slot → List Scope
  scopes_of (outer w) = scopes_wide w
  scopes_of (binary_part w role f x) = scopes_wide w

abbrev mutual
  pub depth_body : Body → ℕ
  depth_body (top selector ps ts body) = 0
  depth_body (in_block k names ps ts body) = suc (depth_of k)

  pub depth_seat : Seat → ℕ
  depth_seat (in_body b r) = depth_body b
  depth_seat (in_paren k names) = suc (depth_of k)

  pub depth_wide : Wide → ℕ
  depth_wide (alone o) = depth_seat o
  depth_wide (keyword_part o role f selector es) = depth_seat o

  pub depth_of : Slot → ℕ
  depth_of (outer w) = depth_wide w
  depth_of (binary_part w role f x) = depth_wide w

abbrev pub depth_nest : Nest → ℕ
depth_nest (of_head k names) = suc (depth_of k)
depth_nest (in_array n cs) = suc (depth_nest n)

abbrev pub level_of : Slot → Level
level_of (outer (alone o)) = full
level_of (outer (keyword_part o role f selector es)) = of_keyword
level_of (binary_part w role f x) = of_binary

-- The argument of a binary message ends: where its receiver stands, what that becomes, and what may
-- come after it.
abbrev pub behind_role : Role → Next
behind_role as_message = no_unary
behind_role as_cascade = no_message

abbrev pub wide_of : Slot → Wide
wide_of (outer w) = w
wide_of (binary_part w role f x) = w

abbrev pub held : Slot → Expression → Expression
held (outer w) e = e
held (binary_part w role f x) e = added role f (binary_send x e)

abbrev pub next_in : Slot → Next → Next
next_in (outer w) next = next
next_in (binary_part w role f x) next = behind_role role

-- All arguments end: where the whole expression stands, and what it is.
abbrev pub seat_in : Wide → Seat
seat_in (alone o) = o
seat_in (keyword_part o role f selector es) = o

abbrev pub closed_in : Wide → Expression → Expression
closed_in (alone o) e = e
closed_in (keyword_part o role f selector es) e = added role f (send selector (and_argument es e))

abbrev pub seat_of : Slot → Seat
seat_of k = seat_in (wide_of k)

abbrev pub closed : Slot → Expression → Expression
closed k e = closed_in (wide_of k) (held k e)

-- A token after an expression, where all arguments that it ends have ended.
abbrev pub binary_at : Wide → Expression → Next → Bytes → Verdict
binary_at w e next x = cond (goes_on next) (goes (want (binary_part w as_message e x) [])) stuck

abbrev pub keyword_at : Wide → Expression → Next → Bytes → Verdict
keyword_at (alone o) e next x = cond (goes_on next)
    (goes (want (outer (keyword_part o as_message e x no_expressions)) [])) stuck
keyword_at (keyword_part o role f selector es) e next x = goes
    (want (outer (keyword_part o role f (selector ++ x) (and_argument es e))) [])

abbrev pub semicolon_at : Seat → Expression → Verdict
semicolon_at o e = cond (has_messages e) (goes (after_semicolon o e)) stuck

abbrev pub period_at : Seat → Expression → Verdict
period_at (in_body b true) e = goes (ended (with_statement b (statement true e)))
period_at (in_body b false) e = goes (begin (with_statement b (statement false e)))
period_at (in_paren k names) e = stuck

abbrev pub round_at : Seat → Expression → Verdict
round_at (in_body b r) e = stuck
round_at (in_paren k names) e = goes (have k (bare names (paren e)) any_message)

abbrev pub close_block : Body → Verdict
close_block (top selector ps ts body) = stuck
close_block (in_block k names ps ts body) = goes
    (have k (bare names (block (closure ps ts body))) any_message)

abbrev pub square_at : Seat → Expression → Verdict
square_at (in_body b r) e = close_block (with_statement b (statement r e))
square_at (in_paren k names) e = stuck

abbrev pub program_of : Body → Option Program
program_of (top selector ps ts body) = Some
    (record { selector = selector; params = ps; temps = ts; body = body })
program_of (in_block k names ps ts body) = None

abbrev pub last_at : Seat → Expression → Option Program
last_at (in_body b r) e = program_of (with_statement b (statement r e))
last_at (in_paren k names) e = None

-- A token of this kind and with these bytes after an expression.
abbrev pub have_step : Slot → Expression → Next → Kind → Bytes → Verdict
have_step k e next identifier x = cond (takes_unary next)
    (goes (have k (added as_message e (unary x)) any_message)) stuck
have_step k e next binary x = binary_at (wide_of k) (held k e) (next_in k next) x
have_step k e next bar x = binary_at (wide_of k) (held k e) (next_in k next) x
have_step k e next keyword x = keyword_at (wide_of k) (held k e) (next_in k next) x
have_step k e next semicolon x = semicolon_at (seat_of k) (closed k e)
have_step k e next period x = period_at (seat_of k) (closed k e)
have_step k e next close_paren x = round_at (seat_of k) (closed k e)
have_step k e next close_bracket x = square_at (seat_of k) (closed k e)
have_step k e next _ x = stuck

-- the messages that may follow a bare `super`
abbrev pub super_takes : Level → Kind → Bool
super_takes l identifier = true
super_takes l binary = holds l binary_sort
super_takes l bar = holds l binary_sort
super_takes l keyword = holds l keyword_sort
super_takes l _ = false

abbrev pub is_full : Level → Bool
is_full full = true
is_full _ = false

-- a token after an identifier
abbrev pub named_step : Kept → Slot → List Bytes → Bytes → Kind → Bytes → Verdict
named_step kept k names y assign x = cond (is_full (level_of k))
    (check kept p8 (may_assign (scopes_of k) y) (want k (names ++ y ∷ []))) stuck
named_step kept k names y kind x = cond (is_super y && not (super_takes (level_of k) kind)) stuck
    (have_step k (bare names (name y)) any_message kind x)

-- a token where the head of an expression is expected
abbrev pub head_step : Kept → Slot → List Bytes → Kind → Bytes → Verdict
head_step kept k names identifier x = goes (named k names x)
head_step kept k names number x = goes (have k (bare names (constant (whole_number x))) any_message)
head_step kept k names character x = goes
    (have k (bare names (constant (char (character_value x)))) any_message)
head_step kept k names string x = goes
    (have k (bare names (constant (str (string_value x)))) any_message)
head_step kept k names symbol x = goes
    (have k (bare names (constant (sym (symbol_value x)))) any_message)
head_step kept k names binary x = cond (is_minus x) (goes (minus k names)) stuck
head_step kept k names open_paren x = check kept p9 (nat_lt (depth_of k) DEPTH_LIMIT)
    (want (outer (alone (in_paren k names))) [])
head_step kept k names open_bracket x = check kept p9 (nat_lt (depth_of k) DEPTH_LIMIT)
    (in_params k names [])
head_step kept k names open_array x = check kept p9 (nat_lt (depth_of k) DEPTH_LIMIT)
    (in_elements (of_head k names) no_constants)
head_step kept k names _ x = stuck

-- a token where a statement or the end of the body is expected
abbrev pub begin_step : Kept → Body → Kind → Bytes → Verdict
begin_step kept b caret x = goes (want (outer (alone (in_body b true))) [])
begin_step kept b close_bracket x = close_block b
begin_step kept b kind x = head_step kept (outer (alone (in_body b false))) [] kind x

abbrev pub ended_step : Body → Kind → Verdict
ended_step b close_bracket = close_block b
ended_step b _ = stuck

abbrev pub header_step : Kept → Body → Kind → Bytes → Verdict
header_step kept b bar x = goes (in_temps b)
header_step kept b kind x = begin_step kept b kind x

abbrev pub temps_step : Kept → Body → Kind → Bytes → Verdict
temps_step kept b identifier x = check kept p7 (may_declare (declared b) x)
    (in_temps (with_temp b x))
temps_step kept b bar x = goes (begin b)
temps_step kept b _ x = stuck

-- a token after `[` and these parameters
abbrev pub params_step : Kept → Slot → List Bytes → List Bytes → Kind → Bytes → Verdict
params_step kept k names ps colon x = goes (param_wanted k names ps)
params_step kept k names [] kind x = header_step kept (in_block k names [] [] no_statements) kind x
params_step kept k names (p ∷ ps) bar x = goes (header (in_block k names (p ∷ ps) [] no_statements))
params_step kept k names (p ∷ ps) close_bracket x = close_block
    (in_block k names (p ∷ ps) [] no_statements)
params_step kept k names (p ∷ ps) _ x = stuck

abbrev pub param_step : Kept → Slot → List Bytes → List Bytes → Kind → Bytes → Verdict
param_step kept k names ps identifier x = check kept p7 (may_declare ps x)
    (in_params k names (ps ++ x ∷ []))
param_step kept k names ps _ x = stuck

-- a token after a `;`
abbrev pub cascade_step : Seat → Expression → Kind → Bytes → Verdict
cascade_step o e identifier x = goes
    (have (outer (alone o)) (added as_cascade e (unary x)) no_message)
cascade_step o e binary x = goes (want (binary_part (alone o) as_cascade e x) [])
cascade_step o e bar x = goes (want (binary_part (alone o) as_cascade e x) [])
cascade_step o e keyword x = goes (want (outer (keyword_part o as_cascade e x no_expressions)) [])
cascade_step o e _ x = stuck

-- a literal array has ended
abbrev pub close_array : Nest → Constant → State
close_array (of_head k names) c = have k (bare names (constant c)) any_message
close_array (in_array n cs) c = in_elements n (one_more cs c)

-- a token among the elements of a literal array
abbrev pub elements_step : Kept → Nest → Constants → Kind → Bytes → Verdict
elements_step kept n cs identifier x = goes (in_elements n (one_more cs (named_constant x)))
elements_step kept n cs number x = goes (in_elements n (one_more cs (whole_number x)))
elements_step kept n cs character x = goes (in_elements n (one_more cs (char (character_value x))))
elements_step kept n cs string x = goes (in_elements n (one_more cs (str (string_value x))))
elements_step kept n cs symbol x = goes (in_elements n (one_more cs (sym (symbol_value x))))
elements_step kept n cs keyword x = goes (element_run n cs x)
elements_step kept n cs binary x = cond (is_minus x) (goes (element_minus n cs x))
    (goes (in_elements n (one_more cs (sym x))))
elements_step kept n cs bar x = goes (in_elements n (one_more cs (sym x)))
elements_step kept n cs open_paren x = check kept p9 (nat_lt (depth_nest n) DEPTH_LIMIT)
    (in_elements (in_array n cs) no_constants)
elements_step kept n cs open_array x = check kept p9 (nat_lt (depth_nest n) DEPTH_LIMIT)
    (in_elements (in_array n cs) no_constants)
elements_step kept n cs close_paren x = goes (close_array n (array cs))
elements_step kept n cs _ x = stuck

-- the `-` is a symbol, unless a number touches it
abbrev pub element_minus_step : Kept → Nest → Constants → Bytes → Word → Verdict
element_minus_step kept n cs m (word number x true) = goes
    (in_elements n (one_more cs (negative_number x)))
element_minus_step kept n cs m (word kind x t) = elements_step kept n (one_more cs (sym m)) kind x

-- the keywords are a symbol, unless one more touches them
abbrev pub element_run_step : Kept → Nest → Constants → Bytes → Word → Verdict
element_run_step kept n cs run (word keyword x true) = goes (element_run n cs (run ++ x))
element_run_step kept n cs run (word kind x t) = elements_step kept n (one_more cs (sym run)) kind x

abbrev pub minus_step : Slot → List Bytes → Word → Verdict
minus_step k names (word number x true) = goes
    (have k (bare names (constant (negative_number x))) any_message)
minus_step k names _ = stuck

-- a token of a method's pattern
abbrev pub pattern_step : Kind → Bytes → Verdict
pattern_step identifier x = goes (header (top (Some x) [] [] no_statements))
pattern_step binary x = goes (pattern_operator x)
pattern_step bar x = goes (pattern_operator x)
pattern_step keyword x = goes (pattern_keyword x [])
pattern_step _ x = stuck

abbrev pub operator_step : Kept → Bytes → Kind → Bytes → Verdict
operator_step kept selector identifier x = check kept p7 (may_declare [] x)
    (header (top (Some selector) (x ∷ []) [] no_statements))
operator_step kept selector _ x = stuck

abbrev pub keyword_step : Kept → Bytes → List Bytes → Kind → Bytes → Verdict
keyword_step kept selector ps identifier x = check kept p7 (may_declare ps x)
    (pattern_more selector (ps ++ x ∷ []))
keyword_step kept selector ps _ x = stuck

abbrev pub more_step : Kept → Bytes → List Bytes → Kind → Bytes → Verdict
more_step kept selector ps keyword x = goes (pattern_keyword (selector ++ x) ps)
more_step kept selector ps kind x = header_step kept
    (top (Some selector) ps [] no_statements) kind x

-- what becomes of a state by a token
abbrev pub machine_step : Kept → State → Word → Verdict
machine_step kept at_pattern (word kind x t) = pattern_step kind x
machine_step kept (pattern_operator selector) (word kind x t) = operator_step kept selector kind x
machine_step kept (pattern_keyword selector ps)
    (word kind x t) = keyword_step kept selector ps kind x
machine_step kept (pattern_more selector ps) (word kind x t) = more_step kept selector ps kind x
machine_step kept (header b) (word kind x t) = header_step kept b kind x
machine_step kept (in_temps b) (word kind x t) = temps_step kept b kind x
machine_step kept (begin b) (word kind x t) = begin_step kept b kind x
machine_step kept (ended b) (word kind x t) = ended_step b kind
machine_step kept (want k names) (word kind x t) = head_step kept k names kind x
machine_step kept (named k names y) (word kind x t) = named_step kept k names y kind x
machine_step kept (minus k names) w = minus_step k names w
machine_step kept (have k e next) (word kind x t) = have_step k e next kind x
machine_step kept (after_semicolon o e) (word kind x t) = cascade_step o e kind x
machine_step kept (in_params k names ps) (word kind x t) = params_step kept k names ps kind x
machine_step kept (param_wanted k names ps) (word kind x t) = param_step kept k names ps kind x
machine_step kept (in_elements n cs) (word kind x t) = elements_step kept n cs kind x
machine_step kept (element_minus n cs m) w = element_minus_step kept n cs m w
machine_step kept (element_run n cs run) w = element_run_step kept n cs run w

-- the tree, where the text may end here
abbrev pub last : State → Option Program
last (pattern_more selector ps) = program_of (top (Some selector) ps [] no_statements)
last (header b) = program_of b
last (begin b) = program_of b
last (ended b) = program_of b
last (named k names y) = cond (is_super y) None
    (last_at (seat_of k) (closed k (bare names (name y))))
last (have k e next) = last_at (seat_of k) (closed k e)
last _ = None

-- the innermost open bracket
abbrev pub bracket_body : Body → Option Bracket
bracket_body (top selector ps ts body) = None
bracket_body (in_block k names ps ts body) = Some square

abbrev pub bracket_seat : Seat → Option Bracket
bracket_seat (in_body b r) = bracket_body b
bracket_seat (in_paren k names) = Some round

abbrev pub bracket : State → Option Bracket
bracket at_pattern = None
bracket (pattern_operator selector) = None
bracket (pattern_keyword selector ps) = None
bracket (pattern_more selector ps) = None
bracket (header b) = bracket_body b
bracket (in_temps b) = bracket_body b
bracket (begin b) = bracket_body b
bracket (ended b) = bracket_body b
bracket (want k names) = bracket_seat (seat_of k)
bracket (named k names y) = bracket_seat (seat_of k)
bracket (minus k names) = bracket_seat (seat_of k)
bracket (have k e next) = bracket_seat (seat_of k)
bracket (after_semicolon o e) = bracket_seat o
bracket (in_params k names ps) = Some square
bracket (param_wanted k names ps) = Some square
bracket (in_elements n cs) = Some round
bracket (element_minus n cs m) = Some round
bracket (element_run n cs run) = Some round

-- the rule that a token breaks which can't come at all: it shows a missing bracket where that could
-- stand here
abbrev pub blame_of : Option Bracket → (square_bracket round_bracket : Verdict) → GrammarRule
blame_of (Some square) (goes s) v = p5
blame_of (Some round) v (goes s) = p6
blame_of _ v w = p4

abbrev pub blame : Kept → State → GrammarRule
blame kept s = blame_of (bracket s) (machine_step kept s (word close_bracket (93 ∷ []) false))
    (machine_step kept s (word close_paren (41 ∷ []) false))

-- Where the machine can't go on: the tokens that are left, and the rule that the first of them, or
-- the end, breaks.
pub record Fault : Type 0 where
  pub left : List Word
  pub rule : GrammarRule

abbrev pub go : GrammarRule → List Word → (State → Result Program Fault) → Verdict
    → Result Program Fault
go rule ws on (goes s) = on s
go rule ws on (breaks r) = Err (record { left = ws; rule = r })
go rule ws on stuck = Err (record { left = ws; rule = rule })

abbrev pub finish : GrammarRule → Option Program → Result Program Fault
finish rule (Some program) = Ok program
finish rule None = Err (record { left = []; rule = rule })

-- what the machine makes of these tokens from this state on
abbrev pub machine_run : Kept → State → List Word → Result Program Fault
machine_run kept s [] = finish (blame kept s) (last s)
machine_run kept s (w ∷ ws) = go (blame kept s) (w ∷ ws)
    (λ s'. machine_run kept s' ws) (machine_step kept s w)

-- where a text of this form begins
abbrev pub start : Form → State
start chunk = header (top None [] [] no_statements)
start method = at_pattern
