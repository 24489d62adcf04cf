-- Steps of the machine at the messages of an expression.
use Rattle.std.proofs.Common.{◌≡◌, ℕ, Bool, true, false, cond, Result, Ok, Err, Option, Some, None, List, [], ◌∷◌, ◌++◌}
use Rattle.std.proofs.Common.{refl, sym, ap, ◌∙◌, ◌<◌, ◌≤◌, length, arith}
use Rattle.std.specs.Prelude.{◌&&◌, nat_lt}
use Rattle.texts.specs.Bytes.{Bytes}
use Rattle.st_grammar.specs.declared.limits.TheConstants.{DEPTH_LIMIT}
use Rattle.st_tree.specs.Trees.{Program, Head, name, block, closure, Expression, expression, Expressions}
use Rattle.st_tree.specs.Trees.{no_expressions, an_expression, expressions, no_constants, Send, send, Statement}
use Rattle.st_tree.specs.Trees.{statement, Statements, no_statements, a_statement, append_statements, statements, Sends}
use Rattle.st_tree.specs.Trees.{no_sends, a_send, append_sends, sends}
use Rattle.st_grammar.specs.Tokens.{Kind, identifier, keyword, number, character, string, symbol, binary, bar, assign}
use Rattle.st_grammar.specs.Tokens.{caret, semicolon, period, open_paren, open_bracket, close_bracket, open_array}
use Rattle.st_grammar.specs.Grammar.{Word, word, GrammarRule, p4, p5, p9, is_minus, is_super, Scope, Next, any_message}
use Rattle.st_grammar.specs.Grammar.{no_unary, no_message}
use Rattle.st_grammar.specs.Fails.{every, Bracket, square, round}
use Rattle.st_grammar_laws.specs.Machine.{Role, as_message, as_cascade, State, Body, top, in_block, Seat, in_body}
use Rattle.st_grammar_laws.specs.Machine.{in_paren, Wide, alone, keyword_part, Slot, outer, binary_part, begin, ended}
use Rattle.st_grammar_laws.specs.Machine.{want, named, minus, have, after_semicolon, goes, breaks, stuck, machine_run}
use Rattle.st_grammar_laws.specs.Machine.{go, blame, blame_of, bracket_seat, in_params, in_elements, of_head, unary}
use Rattle.st_grammar_laws.specs.Machine.{bare, added, behind_role, seat_of, has_messages, and_argument, binary_send}
use Rattle.st_grammar_laws.specs.Machine.{level_of, is_full, depth_of, depth_body}
use Rattle.std.specs.Result.{IsErrAnd}
use Rattle.std.proofs.lemmas.Result.{err_from_is_err_and}
use Rattle.st_parser.specs.declared.stops.Stop.{Stop}
use Rattle.st_parser.specs.declared.stops.Stop.TheVariants.{Breaks, Memory}
use Rattle.st_parser.specs.Descent.{Runs, StopsAt, Finished, Suits, starts, is_selector, is_kind, is_short_message}
use Rattle.st_parser.specs.Descent.{is_message, returns_of, begins_statement, behind_statement, is_quiet_statement}
use Rattle.st_parser.specs.Descent.{holding}
use Rattle.st_parser.specs.Lexemes.{others}

-- an expression that may have no more messages
pub have_ended : (k : Slot) (e : Expression) (next : Next) (ws : List Word)
    → starts is_message ws ≡ false → Runs (have k e next) ws (have k e no_message) ws
have_ended k e next [] h = refl
have_ended k e next (word identifier x t ∷ ws) h = cc
have_ended k e next (word binary x t ∷ ws) h = cc
have_ended k e next (word bar x t ∷ ws) h = cc
have_ended k e next (word keyword x t ∷ ws) h = cc
have_ended k e next (word _ x t ∷ ws) h = refl

-- no more unary messages
pub unary_ended : (w : Wide) (e : Expression) (ws : List Word)
    → starts (is_kind identifier) ws ≡ false
    → Runs (have (outer w) e any_message) ws (have (outer w) e no_unary) ws
unary_ended w e [] h = refl
unary_ended w e (word identifier x t ∷ ws) h = cc
unary_ended (alone o) e (word keyword x t ∷ ws) h = refl
unary_ended (keyword_part o role f selector es) e (word keyword x t ∷ ws) h = refl
unary_ended w e (word _ x t ∷ ws) h = refl

-- the argument of a binary message has ended
pub binary_ended : (w : Wide) (role : Role) (f : Expression) (x : Bytes) (e : Expression)
    (next : Next) (ws : List Word) → starts (is_kind identifier) ws ≡ false
    → Runs (have (binary_part w role f x) e next) ws
    (have (outer w) (added role f (binary_send x e)) (behind_role role)) ws
binary_ended w role f x e next [] h = refl
binary_ended w role f x e next (word identifier y t ∷ ws) h = cc
binary_ended w role f x e next (word _ y t ∷ ws) h = refl

-- a keyword message has ended
pub keyword_ended : (o : Seat) (role : Role) (f : Expression) (selector : Bytes) (es : Expressions)
    (e : Expression) (next : Next) (ws : List Word) → starts is_message ws ≡ false
    → Runs (have (outer (keyword_part o role f selector es)) e next) ws
    (have (outer (alone o)) (added role f (send selector (and_argument es e))) no_message) ws
keyword_ended o role f selector es e next [] h = refl
keyword_ended o role f selector es e next (word identifier x t ∷ ws) h = cc
keyword_ended o role f selector es e next (word binary x t ∷ ws) h = cc
keyword_ended o role f selector es e next (word bar x t ∷ ws) h = cc
keyword_ended o role f selector es e next (word keyword x t ∷ ws) h = cc
keyword_ended o role f selector es e next (word _ x t ∷ ws) h = refl

-- neither a short message nor a keyword
pub no_message_starts : (ws : List Word) → starts is_short_message ws ≡ false
    → starts (is_kind keyword) ws ≡ false → starts is_message ws ≡ false
no_message_starts [] h i = refl
no_message_starts (word identifier x t ∷ ws) h i = cc
no_message_starts (word binary x t ∷ ws) h i = cc
no_message_starts (word bar x t ∷ ws) h i = cc
no_message_starts (word keyword x t ∷ ws) h i = cc
no_message_starts (word _ x t ∷ ws) h i = refl

pub no_short_message_starts : (ws : List Word) → starts (is_kind identifier) ws ≡ false
    → starts is_selector ws ≡ false → starts is_short_message ws ≡ false
no_short_message_starts [] h i = refl
no_short_message_starts (word identifier x t ∷ ws) h i = cc
no_short_message_starts (word binary x t ∷ ws) h i = cc
no_short_message_starts (word bar x t ∷ ws) h i = cc
no_short_message_starts (word _ x t ∷ ws) h i = refl

pub selector_step : (w : Wide) (e : Expression) (k : Kind) (x : Bytes) (t : Bool)
    (ws us : List Word) → is_selector k ≡ true → ws ≡ word k x t ∷ us
    → Runs (have (outer w) e no_unary) ws (want (binary_part w as_message e x) []) us
selector_step w e binary x t ws us h e2 = rw e2 refl
selector_step w e bar x t ws us h e2 = rw e2 refl
selector_step w e _ x t ws us h e2 = cc

-- no bracket could stand here
pub blame_stuck : (b : Option Bracket) → blame_of b stuck stuck ≡ p4
blame_stuck None = refl
blame_stuck (Some square) = refl
blame_stuck (Some round) = refl

pub and_true : (v : Bool) → (v && true) ≡ false → v ≡ false
and_true true h = h
and_true false h = refl

-- a variable that isn't `super`
pub named_plain : (k : Slot) (names : List Bytes) (y : Bytes) (ws : List Word) → is_super y ≡ false
    → (is_full (level_of k) && starts (is_kind assign) ws) ≡ false
    → Runs (named k names y) ws (have k (bare names (name y)) any_message) ws
named_plain k names y [] e h = rw e refl
named_plain k names y (word assign x t ∷ ws) e h = let part : is_full (level_of k)
    ≡ false = and_true (is_full (level_of k)) h in rw (e, part) refl
named_plain k names y (word _ x t ∷ ws) e h = rw e refl

-- what is read of a statement is after it
pub statement_ended : (b : Body) (ss : Statements) (s : Statement) (ws : List Word)
    → starts (is_kind period) ws ≡ false → is_quiet_statement s ws
    → Runs (behind_statement (holding b ss) s) ws
    (ended (holding b (append_statements ss (a_statement s no_statements)))) ws
statement_ended (top selector ps ts body) ss (statement r e) [] h q = refl
statement_ended (in_block k names ps ts body) ss (statement r e) [] h q = refl
statement_ended b ss (statement r e) (word period x t ∷ ws) h q = cc
statement_ended (top selector ps ts body) ss (statement r e) (word semicolon x t ∷ ws) h q = let none : has_messages e
    ≡ false = and_true (has_messages e) q in rw none refl
statement_ended (in_block k names ps ts body) ss (statement r e)
    (word semicolon x t ∷ ws) h q = let none : has_messages e ≡ false = and_true (has_messages e) q in rw none refl
statement_ended (top selector ps ts body) ss (statement r e) (word _ x t ∷ ws) h q = refl
statement_ended (in_block k names ps ts body) ss (statement r e) (word _ x t ∷ ws) h q = refl

-- no statement begins here
pub begin_ended : (b : Body) (ws : List Word) → begins_statement ws ≡ false
    → Runs (begin b) ws (ended b) ws
begin_ended b [] h = refl
begin_ended b (word caret x t ∷ ws) h = cc
begin_ended b (word identifier x t ∷ ws) h = cc
begin_ended b (word number x t ∷ ws) h = cc
begin_ended b (word character x t ∷ ws) h = cc
begin_ended b (word string x t ∷ ws) h = cc
begin_ended b (word symbol x t ∷ ws) h = cc
begin_ended b (word open_paren x t ∷ ws) h = cc
begin_ended b (word open_bracket x t ∷ ws) h = cc
begin_ended b (word open_array x t ∷ ws) h = cc
begin_ended b (word binary x t ∷ ws) h = rw h refl
begin_ended b (word _ x t ∷ ws) h = refl

-- one more message at the end
pub sends_more : (ms : List Send) (m : Send)
    → sends (ms ++ m ∷ []) ≡ append_sends (sends ms) (a_send m no_sends)
sends_more [] m = refl
sends_more (n ∷ ms) m = ap (a_send n) (sends_more ms m)

pub statements_more : (ss : List Statement) (s : Statement)
    → statements (ss ++ s ∷ []) ≡ append_statements (statements ss) (a_statement s no_statements)
statements_more [] s = refl
statements_more (x ∷ ss) s = ap (a_statement x) (statements_more ss s)

pub arguments_more : (es : List Expression) (e : Expression)
    → expressions (es ++ e ∷ []) ≡ and_argument (expressions es) e
arguments_more [] e = refl
arguments_more (x ∷ es) e = ap (an_expression x) (arguments_more es e)

pub unary_step : (k : Slot) (e : Expression) (x : Bytes) (t : Bool) (ws us : List Word)
    → ws ≡ word identifier x t ∷ us
    → Runs (have k e any_message) ws (have k (added as_message e (unary x)) any_message) us
unary_step k e x t ws us e2 = rw e2 refl

pub selector_runs : (w : Wide) (e : Expression) (x : Bytes) (ws us : List Word)
    → ((k : Kind) × (t : Bool) × (is_selector k ≡ true) × (ws ≡ word k x t ∷ others ws))
    → us ≡ others ws
    → Runs (have (outer w) e no_unary) ws (want (binary_part w as_message e x) []) us
selector_runs w e x ws us s f = selector_step w e s.0 x s.1 ws us s.2 (s.3 ∙ ap (λ l. word s.0 x s.1 ∷ l) (sym f))

pub keyword_step : (o : Seat) (e : Expression) (x : Bytes) (t : Bool) (ws us : List Word)
    → ws ≡ word keyword x t ∷ us
    → Runs (have (outer (alone o)) e no_unary) ws
    (want (outer (keyword_part o as_message e x no_expressions)) []) us
keyword_step o e x t ws us e2 = rw e2 refl

pub part_step : (o : Seat) (role : Role) (f : Expression) (selector : Bytes) (es : Expressions)
    (e : Expression) (x : Bytes) (t : Bool) (ws us : List Word) → ws ≡ word keyword x t ∷ us
    → Runs (have (outer (keyword_part o role f selector es)) e no_unary) ws
    (want (outer (keyword_part o role f (selector ++ x) (and_argument es e))) []) us
part_step o role f selector es e x t ws us e2 = rw e2 refl

pub semicolon_step : (o : Seat) (e : Expression) (ws us : List Word)
    → starts (is_kind semicolon) ws ≡ true → has_messages e ≡ true → us ≡ others ws
    → Runs (have (outer (alone o)) e no_message) ws (after_semicolon o e) us
semicolon_step o e [] us h m f = cc
semicolon_step o e (word semicolon x t ∷ ws) us h m f = rw (m, f) refl
semicolon_step o e (word _ x t ∷ ws) us h m f = cc

-- brackets where a head is expected
pub paren_opens : (k : Slot) (names : List Bytes) (ws us : List Word)
    → starts (is_kind open_paren) ws ≡ true → nat_lt (depth_of k) DEPTH_LIMIT ≡ true
    → us ≡ others ws → Runs (want k names) ws (want (outer (alone (in_paren k names))) []) us
paren_opens k names [] us h d f = cc
paren_opens k names (word open_paren x t ∷ ws) us h d f = rw (d, f) refl
paren_opens k names (word _ x t ∷ ws) us h d f = cc

pub block_opens : (k : Slot) (names : List Bytes) (ws us : List Word)
    → starts (is_kind open_bracket) ws ≡ true → nat_lt (depth_of k) DEPTH_LIMIT ≡ true
    → us ≡ others ws → Runs (want k names) ws (in_params k names []) us
block_opens k names [] us h d f = cc
block_opens k names (word open_bracket x t ∷ ws) us h d f = rw (d, f) refl
block_opens k names (word _ x t ∷ ws) us h d f = cc

pub array_head_opens : (k : Slot) (names : List Bytes) (ws us : List Word)
    → starts (is_kind open_array) ws ≡ true → nat_lt (depth_of k) DEPTH_LIMIT ≡ true
    → us ≡ others ws → Runs (want k names) ws (in_elements (of_head k names) no_constants) us
array_head_opens k names [] us h d f = cc
array_head_opens k names (word open_array x t ∷ ws) us h d f = rw (d, f) refl
array_head_opens k names (word _ x t ∷ ws) us h d f = cc

pub name_step : (k : Slot) (names : List Bytes) (x : Bytes) (t : Bool) (ws us : List Word)
    → ws ≡ word identifier x t ∷ us → Runs (want k names) ws (named k names x) us
name_step k names x t ws us e = rw e refl

-- an operator where a head is expected, other than a `-`
pub operator_stuck : (k : Slot) (names : List Bytes) (x : Bytes) (t : Bool) (ws us : List Word)
    → ws ≡ word binary x t ∷ us → is_minus x ≡ false
    → machine_run every (want k names) ws ≡ Err (record { left = ws; rule = p4 })
operator_stuck k names x t ws us e m = rw (e, m, blame_stuck (bracket_seat (seat_of k))) refl

pub caret_step : (b : Body) (ws us : List Word) → starts (is_kind caret) ws ≡ true → us ≡ others ws
    → Runs (begin b) ws (want (outer (alone (in_body b true))) []) us
caret_step b [] us h f = cc
caret_step b (word caret x t ∷ ws) us h f = rw f refl
caret_step b (word _ x t ∷ ws) us h f = cc

-- whatever would be to blame, a check of the depth says itself which rule is broken
go_check : (r r' : GrammarRule) (test : Bool) (s : State) (all ws : List Word)
    → go r all (λ s'. machine_run every s' ws) (cond test (goes s) (breaks p9)) ≡ go r' all
    (λ s'. machine_run every s' ws) (cond test (goes s) (breaks p9))
go_check r r' true s all ws = refl
go_check r r' false s all ws = refl

-- a statement without `^`
pub plain_step : (b : Body) (ws : List Word) → begins_statement ws ≡ true
    → starts (is_kind caret) ws ≡ false
    → Runs (begin b) ws (want (outer (alone (in_body b false))) []) ws
plain_step b [] h c = cc
plain_step b (word caret x t ∷ ws) h c = cc
plain_step b (word binary x t ∷ ws) h c = rw h refl
plain_step b (word identifier x t ∷ ws) h c = refl
plain_step b (word number x t ∷ ws) h c = refl
plain_step b (word character x t ∷ ws) h c = refl
plain_step b (word string x t ∷ ws) h c = refl
plain_step b (word symbol x t ∷ ws) h c = refl
plain_step b (word open_paren x t ∷ ws) h c =
    go_check (blame every (begin b)) (blame every (want (outer (alone (in_body b false))) []))
    (nat_lt (depth_body b) DEPTH_LIMIT) (want (outer (alone (in_paren (outer (alone (in_body b false))) []))) [])
    (word open_paren x t ∷ ws) ws
plain_step b (word open_bracket x t ∷ ws) h c =
    go_check (blame every (begin b)) (blame every (want (outer (alone (in_body b false))) []))
    (nat_lt (depth_body b) DEPTH_LIMIT) (in_params (outer (alone (in_body b false))) [] [])
    (word open_bracket x t ∷ ws) ws
plain_step b (word open_array x t ∷ ws) h c =
    go_check (blame every (begin b)) (blame every (want (outer (alone (in_body b false))) []))
    (nat_lt (depth_body b) DEPTH_LIMIT) (in_elements (of_head (outer (alone (in_body b false))) []) no_constants)
    (word open_array x t ∷ ws) ws
plain_step b (word _ x t ∷ ws) h c = cc

-- a `.` after a statement
pub period_behind : (b : Body) (ss : Statements) (s : Statement) (ws us : List Word)
    → starts (is_kind period) ws ≡ true → returns_of s ≡ false → us ≡ others ws
    → Runs (behind_statement (holding b ss) s) ws
    (begin (holding b (append_statements ss (a_statement s no_statements)))) us
period_behind b ss s [] us h r f = cc
period_behind (top selector ps ts body) ss (statement false e) (word period x t ∷ ws) us h r f = rw f refl
period_behind (in_block k names ps ts body) ss (statement false e) (word period x t ∷ ws) us h r f = rw f refl
period_behind b ss (statement true e) (word period x t ∷ ws) us h r f = cc
period_behind b ss s (word _ x t ∷ ws) us h r f = cc

pub last_period : (b : Body) (ss : Statements) (s : Statement) (ws us : List Word)
    → starts (is_kind period) ws ≡ true → returns_of s ≡ true → us ≡ others ws
    → Runs (behind_statement (holding b ss) s) ws
    (ended (holding b (append_statements ss (a_statement s no_statements)))) us
last_period b ss s [] us h r f = cc
last_period (top selector ps ts body) ss (statement true e) (word period x t ∷ ws) us h r f = rw f refl
last_period (in_block k names ps ts body) ss (statement true e) (word period x t ∷ ws) us h r f = rw f refl
last_period b ss (statement false e) (word period x t ∷ ws) us h r f = cc
last_period b ss s (word _ x t ∷ ws) us h r f = cc

-- the body of a statement stands where the body does
pub suits_body : (b : Body) (ss : Statements) (r : Bool) (scopes : List Scope) (d : ℕ)
    → Suits (outer (alone (in_body b false))) scopes d
    → Suits (outer (alone (in_body (holding b ss) r))) scopes d
suits_body (top selector ps ts body) ss r scopes d h = h
suits_body (in_block k names ps ts body) ss r scopes d h = h

-- a `]` or none after the statements of a block
pub block_ends : (k : Slot) (names ps ts : List Bytes) (body : Statements) (ws us : List Word)
    → starts (is_kind close_bracket) ws ≡ true → us ≡ others ws
    → Runs (ended (in_block k names ps ts body)) ws (have k (bare names (block (closure ps ts body))) any_message) us
block_ends k names ps ts body [] us h f = cc
block_ends k names ps ts body (word close_bracket x t ∷ ws) us h f = rw f refl
block_ends k names ps ts body (word _ x t ∷ ws) us h f = cc

pub block_stuck : (k : Slot) (names ps ts : List Bytes) (body : Statements) (ws : List Word)
    → starts (is_kind close_bracket) ws ≡ false
    → machine_run every (ended (in_block k names ps ts body)) ws ≡ Err
    (record { left = ws; rule = p5 })
block_stuck k names ps ts body [] h = refl
block_stuck k names ps ts body (word close_bracket x t ∷ ws) h = cc
block_stuck k names ps ts body (word _ x t ∷ ws) h = refl

pub has_some : (names : List Bytes) (h : Head) (ms : List Send) (cs : Sends) → 0 < length ms
    → has_messages (expression names h (sends ms) cs) ≡ true
has_some names h [] cs some = absurd (omega arith)
has_some names h (m ∷ ms) cs some = refl

-- a message of a cascade
pub cascade_operator : (o : Seat) (e : Expression) (k : Kind) (x : Bytes) (t : Bool)
    (ws us : List Word) → is_selector k ≡ true → ws ≡ word k x t ∷ us
    → Runs (after_semicolon o e) ws (want (binary_part (alone o) as_cascade e x) []) us
cascade_operator o e binary x t ws us s f = rw f refl
cascade_operator o e bar x t ws us s f = rw f refl
cascade_operator o e _ x t ws us s f = cc

pub cascade_keyword : (o : Seat) (e : Expression) (x : Bytes) (t : Bool) (ws us : List Word)
    → ws ≡ word keyword x t ∷ us
    → Runs (after_semicolon o e) ws
    (want (outer (keyword_part o as_cascade e x no_expressions)) []) us
cascade_keyword o e x t ws us f = rw f refl

pub minus_reached : (k : Slot) (names : List Bytes) (x : Bytes) (t : Bool) (ws us : List Word)
    → is_minus x ≡ true → ws ≡ word binary x t ∷ us → Runs (want k names) ws (minus k names) us
minus_reached k names x t ws us m f = rw (f, m) refl

-- after the statements of a whole text
pub top_stuck : (selector : Option Bytes) (ps ts : List Bytes) (body : Statements) (ws : List Word)
    → 0 < length ws
    → machine_run every (ended (top selector ps ts body)) ws ≡ Err (record { left = ws; rule = p4 })
top_stuck selector ps ts body [] some = absurd (omega arith)
top_stuck selector ps ts body (word close_bracket x t ∷ ws) some = refl
top_stuck selector ps ts body (word _ x t ∷ ws) some = refl

pub top_ends : (selector : Option Bytes) (ps ts : List Bytes) (body : Statements) (ws : List Word)
    → length ws ≤ 0
    → machine_run every (ended (top selector ps ts body)) ws ≡ Ok
    (record { selector = selector; params = ps; temps = ts; body = body })
top_ends selector ps ts body [] none = refl
top_ends selector ps ts body (w ∷ ws) none = absurd (omega arith)

finished_after : (s s' : State) (old mid new : List Word) (e : Stop) → Runs s old s' mid
    → StopsAt s' mid new e → Finished s old new (Err e)
finished_after s s' old mid new (Breaks b) p h = p ∙ h
finished_after s s' old mid new Memory p h = tt

pub finishes_on : (s s' : State) (old mid new : List Word) (e : Stop) (r : Result Program Stop)
    → IsErrAnd r (λ y. y ≡ e) → Runs s old s' mid → StopsAt s' mid new e → Finished s old new r
finishes_on s s' old mid new e r h p q = let w = err_from_is_err_and r h in rw (w.1, w.2)
    (finished_after s s' old mid new e p q)

pub finished_behind : (s s' : State) (old mid new : List Word) (r : Result Program Stop)
    → Runs s old s' mid → Finished s' mid new r → Finished s old new r
finished_behind s s' old mid new (Ok program) p q = p ∙ q
finished_behind s s' old mid new (Err e) p q = finished_after s s' old mid new e p q
