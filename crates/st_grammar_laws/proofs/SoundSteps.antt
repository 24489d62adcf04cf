-- One token back: what has to follow a state, from what has to follow the state after the token.
use Rattle.std.proofs.Common.{◌≡◌, refl, sym, ap, ap₂, ◌∙◌, subst, nat_lt, Bool, true, false, cond, not, ◌&&◌}
use Rattle.std.proofs.Common.{true≢false, List, [], ◌∷◌, ◌++◌, append_assoc}
use Rattle.texts.specs.Bytes.{Bytes}
use Rattle.st_grammar.specs.declared.limits.TheConstants.{DEPTH_LIMIT}
use Rattle.st_tree.specs.Trees.{no_constants, name, Expression, Send, send, statement, no_statements, Sends, no_sends}
use Rattle.st_tree.specs.Trees.{a_send, Expressions, no_expressions, an_expression, Program}
use Rattle.st_grammar.specs.Tokens.{Kind, identifier, keyword, number, character, string, symbol, binary, bar, assign}
use Rattle.st_grammar.specs.Tokens.{semicolon, period, open_paren, close_paren, open_bracket, close_bracket, open_array}
use Rattle.st_grammar.specs.Grammar.{Word, word, GrammarRule, p8, p9, Kept, passes, is_super, may_assign, IsSelector}
use Rattle.st_grammar.specs.Grammar.{binary_is, bar_is, is_minus, Level, of_binary, of_keyword, full, unary_sort}
use Rattle.st_grammar.specs.Grammar.{binary_sort, keyword_sort, holds, Next, any_message, no_unary, no_message, goes_on}
use Rattle.st_grammar.specs.Grammar.{may_come, needs_no_message, a_number, a_negative_number, a_character, a_string}
use Rattle.st_grammar.specs.Grammar.{a_symbol, an_assignment, a_name, sends_end, sends_on, a_unary, a_binary, a_keyword}
use Rattle.st_grammar.specs.Grammar.{parts_on, cascade_on, rest_end, last_period, rest_on}
use Rattle.st_grammar_laws.specs.Machine.{Role, as_message, Body, top, in_block, Seat, in_body, in_paren, Wide, alone}
use Rattle.st_grammar_laws.specs.Machine.{keyword_part, Slot, outer, binary_part, of_head, State, want, minus}
use Rattle.st_grammar_laws.specs.Machine.{after_semicolon, in_params, in_elements, goes, breaks, stuck, bare, added}
use Rattle.st_grammar_laws.specs.Machine.{has_messages, and_argument, unary, with_statement, depth_of, scopes_of}
use Rattle.st_grammar_laws.specs.Machine.{level_of, wide_of, held, next_in, seat_of, closed, binary_at, keyword_at}
use Rattle.st_grammar_laws.specs.Machine.{semicolon_at, period_at, round_at, square_at, have_step, super_takes}
use Rattle.st_grammar_laws.specs.Machine.{named_step, head_step, minus_step}
use Rattle.st_grammar_laws.proofs.SoundWants.{BodyEnds, block_ends, SeatEnds, statement_ends, paren_ends, CascadeEnds}
use Rattle.st_grammar_laws.proofs.SoundWants.{cascade_then, messages_end, keywords_end, wide_ends, argument_ends}
use Rattle.st_grammar_laws.proofs.SoundWants.{WideEnds, SendsEnd, sends_then, SendsGoOn, goes_then, WantEnds, wanted}
use Rattle.st_grammar_laws.proofs.SoundWants.{SemicolonEnds, message_then, BeginEnds, statements_then, Will, Wills}
use Rattle.st_grammar_laws.proofs.SoundTrees.{arguments_one_by_one}
use Rattle.st_grammar_laws.proofs.SoundParts.{ExpressionThen, expression_then, unassigned, head_wanted, head_goes_on}
use Rattle.st_grammar_laws.proofs.SoundParts.{literal_wanted, paren_wanted, array_wanted, block_wanted, statement_first}
use Rattle.st_grammar_laws.proofs.SoundParts.{argument_closes, seat_closes, no_more_messages}

-- a test that the machine makes
pub checked : (kept : Kept) (ws : List Word) (program : Program) (test : Bool) (s : State) (r : GrammarRule)
    → Wills kept (cond test (goes s) (breaks r)) ws program → (test ≡ true) × Will kept s ws program
checked kept ws program true s r h = (refl, h)
checked kept ws program false s r h = absurd h

taken : (kept : Kept) (ws : List Word) (program : Program) (test : Bool) (s : State)
    → Wills kept (cond test (goes s) stuck) ws program → (test ≡ true) × Will kept s ws program
taken kept ws program true s h = (refl, h)
taken kept ws program false s h = absurd h

-- messages
holds_unary : (l : Level) → (holds l unary_sort && may_come any_message unary_sort) ≡ true
holds_unary full = refl
holds_unary of_keyword = refl
holds_unary of_binary = refl

holds_binary : (w : Wide) (next : Next) → goes_on next ≡ true
    → (holds (level_of (outer w)) binary_sort && may_come next binary_sort) ≡ true
holds_binary (alone o) next e = e
holds_binary (keyword_part o role f selector es) next e = e

any_more : {kept : Kept} {k : Slot} {e : Expression} {next : Next} {ws : List Word} {program : Program}
    → SendsGoOn kept k e next ws program → SendsEnd kept k e next ws program
any_more (goes_then reads ends) = sends_then reads ends

unary_more : {kept : Kept} {k : Slot} {e : Expression} {x : Bytes} {t : Bool} {ws : List Word} {program : Program}
    → SendsEnd kept k (added as_message e (unary x)) any_message ws program
    → SendsGoOn kept k e any_message (word identifier x t ∷ ws) program
unary_more {k = k} (sends_then reads ends) = goes_then (sends_on
    {s = unary_sort} (holds_unary (level_of k)) a_unary reads) ends

unary_back : {kept : Kept} {k : Slot} {e : Expression} (next : Next) (x : Bytes) (t : Bool) {ws : List Word}
    {program : Program} → Wills kept (have_step k e next identifier x) ws program
    → SendsEnd kept k e next (word identifier x t ∷ ws) program
unary_back any_message x t h = any_more (unary_more h)
unary_back no_unary x t h = absurd h
unary_back no_message x t h = absurd h

binary_argument : {kept : Kept} (w : Wide) {e : Expression} (next : Next) {kind : Kind} {x : Bytes} {t : Bool}
    {ws : List Word} {program : Program} → IsSelector kind → goes_on next ≡ true
    → ExpressionThen kept (binary_part w as_message e x) ws program
    → SendsGoOn kept (outer w) e next (word kind x t ∷ ws) program
binary_argument w next is on (expression_then reads (argument_ends others ends)) = goes_then (sends_on
    {s = binary_sort} (holds_binary w next on) (a_binary is reads) others) (wide_ends ends)

binary_more : {kept : Kept} (w : Wide) (e : Expression) (next : Next) {kind : Kind} (x : Bytes) {t : Bool}
    {ws : List Word} {program : Program} → IsSelector kind
    → Wills kept (binary_at w e next x) ws program → SendsGoOn kept (outer w) e next (word kind x t ∷ ws) program
binary_more {kept} w e next x {ws} {program} is h =
    let h' = taken kept ws program (goes_on next) (want (binary_part w as_message e x) []) h in
    binary_argument w next is h'.0 (unassigned h'.1)

binary_back : {kept : Kept} (k : Slot) (e : Expression) (next : Next) {kind : Kind} (x : Bytes) {t : Bool}
    {ws : List Word} {program : Program} → IsSelector kind
    → Wills kept (binary_at (wide_of k) (held k e) (next_in k next) x) ws program
    → SendsEnd kept k e next (word kind x t ∷ ws) program
binary_back k e next x is h = argument_closes k (any_more (binary_more (wide_of k) (held k e) (next_in k next) x is h))

first_keyword : {kept : Kept} {o : Seat} {e : Expression} (next : Next) {x : Bytes} {t : Bool} {ws : List Word}
    {program : Program} → goes_on next ≡ true
    → ExpressionThen kept (outer (keyword_part o as_message e x no_expressions)) ws program
    → SendsGoOn kept (outer (alone o)) e next (word keyword x t ∷ ws) program
first_keyword {kept} {o} {e} next
    {x} on (expression_then {e = f} reads
    (wide_ends (keywords_end {us = us} {program = program} parts same all ends))) =
    goes_then (sends_on {s = keyword_sort} on (a_keyword reads parts) sends_end)
    (wide_ends (messages_end (subst
    (λ (m : Send). CascadeEnds kept o (added as_message e m) us program) (ap₂ send (sym same) (sym all)) ends)))

keyword_more : {kept : Kept} (o : Seat) (e : Expression) (next : Next) (x : Bytes) {t : Bool} {ws : List Word}
    {program : Program} → Wills kept (keyword_at (alone o) e next x) ws program
    → SendsGoOn kept (outer (alone o)) e next (word keyword x t ∷ ws) program
keyword_more {kept} o e next x {ws} {program} h =
    let h' = taken kept ws program (goes_on next) (want (outer (keyword_part o as_message e x no_expressions)) []) h in
    first_keyword next h'.0 (unassigned h'.1)

next_keyword : {kept : Kept} {o : Seat} {role : Role} {f e : Expression} {selector x : Bytes} {es : Expressions}
    {t : Bool} {ws : List Word} {program : Program}
    → ExpressionThen kept (outer (keyword_part o role f (selector ++ x) (and_argument es e))) ws program
    → WideEnds kept (keyword_part o role f selector es) e (word keyword x t ∷ ws) program
next_keyword {e = e} {selector = selector} {x = x}
    {es = es} (expression_then {e = g} reads (wide_ends (keywords_end {rest = rest} {fs = fs} parts same all ends))) =
    keywords_end (parts_on reads parts) (sym (append_assoc selector x rest) ∙ same)
    (sym (arguments_one_by_one es (an_expression g fs) e) ∙ all) ends

keyword_wide : {kept : Kept} (w : Wide) (e : Expression) (next : Next) (x : Bytes) {t : Bool} {ws : List Word}
    {program : Program} → Wills kept (keyword_at w e next x) ws program
    → SendsEnd kept (outer w) e next (word keyword x t ∷ ws) program
keyword_wide (alone o) e next x h = any_more (keyword_more o e next x h)
keyword_wide (keyword_part o role f selector es) e next x h = sends_then sends_end
    (wide_ends (next_keyword (unassigned h)))

keyword_back : {kept : Kept} (k : Slot) (e : Expression) (next : Next) (x : Bytes) {t : Bool} {ws : List Word}
    {program : Program}
    → Wills kept (keyword_at (wide_of k) (held k e) (next_in k next) x) ws program
    → SendsEnd kept k e next (word keyword x t ∷ ws) program
keyword_back k e next x h = argument_closes k (keyword_wide (wide_of k) (held k e) (next_in k next) x h)

-- a cascade
cascade_first : {kept : Kept} {o : Seat} {e : Expression} {x : Bytes} {t : Bool} {ws : List Word} {program : Program}
    → has_messages e ≡ true → SemicolonEnds kept o e ws program
    → CascadeEnds kept o e (word semicolon x t ∷ ws) program
cascade_first has (message_then reads (cascade_then others e ends)) = cascade_then (cascade_on reads others) has ends

semicolon_back : {kept : Kept} (o : Seat) (e : Expression) {x : Bytes} {t : Bool} {ws : List Word} {program : Program}
    → Wills kept (semicolon_at o e) ws program → CascadeEnds kept o e (word semicolon x t ∷ ws) program
semicolon_back {kept} o e {ws} {program} h =
    let h' = taken kept ws program (has_messages e) (after_semicolon o e) h in
    cascade_first h'.0 h'.1

-- the end of an expression
returned : {kept : Kept} (b : Body) (e : Expression) {x : Bytes} {t : Bool} {ws : List Word} {program : Program}
    → BodyEnds kept (with_statement b (statement true e)) no_statements ws program
    → SeatEnds kept (in_body b true) e (word period x t ∷ ws) program
returned b e ends = statement_ends last_period (statement_first b ends)

carried_out : {kept : Kept} (b : Body) (e : Expression) {x : Bytes} {t : Bool} {ws : List Word} {program : Program}
    → BeginEnds kept (with_statement b (statement false e)) ws program
    → SeatEnds kept (in_body b false) e (word period x t ∷ ws) program
carried_out (top selector ps ts body) e (statements_then reads ends) = statement_ends (rest_on reads)
    (statement_first (top selector ps ts body) ends)
carried_out (in_block k names ps ts body) e (statements_then reads ends) = statement_ends (rest_on reads)
    (statement_first (in_block k names ps ts body) ends)

period_back : {kept : Kept} (o : Seat) (e : Expression) {x : Bytes} {t : Bool} {ws : List Word} {program : Program}
    → Wills kept (period_at o e) ws program → SeatEnds kept o e (word period x t ∷ ws) program
period_back (in_body b true) e h = returned b e h
period_back (in_body b false) e h = carried_out b e h
period_back (in_paren k names) e h = absurd h

round_back : {kept : Kept} (o : Seat) (e : Expression) {x : Bytes} {t : Bool} {ws : List Word} {program : Program}
    → Wills kept (round_at o e) ws program → SeatEnds kept o e (word close_paren x t ∷ ws) program
round_back (in_body b r) e h = absurd h
round_back (in_paren k names) e h = paren_ends h

square_back : {kept : Kept} (o : Seat) (e : Expression) {x : Bytes} {t : Bool} {ws : List Word} {program : Program}
    → Wills kept (square_at o e) ws program → SeatEnds kept o e (word close_bracket x t ∷ ws) program
square_back (in_body (top selector ps ts body) r) e h = absurd h
square_back (in_body (in_block k names ps ts body) r) e h = statement_ends rest_end (block_ends refl h)
square_back (in_paren k names) e h = absurd h

pub have_back : {kept : Kept} (k : Slot) (e : Expression) (next : Next) (kind : Kind) (x : Bytes) {t : Bool}
    {ws : List Word} {program : Program} → Wills kept (have_step k e next kind x) ws program
    → SendsEnd kept k e next (word kind x t ∷ ws) program
have_back k e next identifier x {t} h = unary_back next x t h
have_back k e next binary x h = binary_back k e next x binary_is h
have_back k e next bar x h = binary_back k e next x bar_is h
have_back k e next keyword x h = keyword_back k e next x h
have_back k e next semicolon x h = seat_closes k (semicolon_back (seat_of k) (closed k e) h)
have_back k e next period x h = no_more_messages k (period_back (seat_of k) (closed k e) h)
have_back k e next close_paren x h = no_more_messages k (round_back (seat_of k) (closed k e) h)
have_back k e next close_bracket x h = no_more_messages k (square_back (seat_of k) (closed k e) h)
have_back k e next _ x h = absurd h

-- an identifier
super_back : {kept : Kept} (k : Slot) (e : Expression) (kind : Kind) (x : Bytes) {t : Bool} {ws : List Word}
    {program : Program} → super_takes (level_of k) kind ≡ true
    → Wills kept (have_step k e any_message kind x) ws program
    → SendsGoOn kept k e any_message (word kind x t ∷ ws) program
super_back k e identifier x takes h = unary_more h
super_back (outer w) e binary x takes h = binary_more w e any_message x binary_is h
super_back (outer w) e bar x takes h = binary_more w e any_message x bar_is h
super_back (outer (alone o)) e keyword x takes h = keyword_more o e any_message x h
super_back k e _ x takes h = absurd (true≢false (sym takes))

pub no_super : (x : Bytes) → is_super x ≡ false → (ms : Sends) → needs_no_message (name x) ms ≡ true
no_super x e no_sends = ap not e
no_super x e (a_send m ms) = refl

named_by : {kept : Kept} (k : Slot) (names : List Bytes) (y : Bytes) (kind : Kind) (x : Bytes) (u : Bool) {t : Bool}
    {ws : List Word} {program : Program} (super takes : Bool) → is_super y ≡ super
    → super_takes (level_of k) kind ≡ takes
    → Wills kept (cond (super && not takes) stuck (have_step k (bare names (name y)) any_message kind x)) ws program
    → WantEnds kept k names (word identifier y u ∷ word kind x t ∷ ws) program
named_by k names y kind x u false takes is can h = head_wanted a_name (no_super y is)
    (have_back k (bare names (name y)) any_message kind x h)
named_by k names y kind x u true true is can h = head_goes_on a_name (super_back k (bare names (name y)) kind x can h)
named_by k names y kind x u true false is can h = absurd h

named_goes_on : {kept : Kept} (k : Slot) (names : List Bytes) (y : Bytes) (kind : Kind) (x : Bytes) (u : Bool)
    {t : Bool} {ws : List Word} {program : Program}
    → Wills kept (cond (is_super y && not (super_takes (level_of k) kind)) stuck
    (have_step k (bare names (name y)) any_message kind x)) ws program
    → WantEnds kept k names (word identifier y u ∷ word kind x t ∷ ws) program
named_goes_on k names y kind x u h = named_by k names y kind x u (is_super y)
    (super_takes (level_of k) kind) refl refl h

assigned_back : {kept : Kept} {o : Seat} {names : List Bytes} {y x : Bytes} {u t : Bool} {ws : List Word}
    {program : Program} → passes kept p8 (may_assign (scopes_of (outer (alone o))) y) ≡ true
    → WantEnds kept (outer (alone o)) (names ++ y ∷ []) ws program
    → WantEnds kept (outer (alone o)) names (word identifier y u ∷ word assign x t ∷ ws) program
assigned_back {names = names} {y = y} pass (wanted {more = more} reads same ends) = wanted (an_assignment pass reads)
    (sym (append_assoc names (y ∷ []) more) ∙ same) ends

assign_back : {kept : Kept} (k : Slot) (names : List Bytes) (y x : Bytes) (u : Bool) {t : Bool} {ws : List Word}
    {program : Program} → Wills kept (named_step kept k names y assign x) ws program
    → WantEnds kept k names (word identifier y u ∷ word assign x t ∷ ws) program
assign_back {kept} (outer (alone o)) names y x u {ws} {program} h =
    let h' = checked kept ws program (passes kept p8 (may_assign (scopes_of (outer (alone o))) y))
    (want (outer (alone o)) (names ++ y ∷ [])) p8 h in
    assigned_back h'.0 h'.1
assign_back (outer (keyword_part o role f selector es)) names y x u h = absurd h
assign_back (binary_part w role f selector) names y x u h = absurd h

pub named_back : {kept : Kept} (k : Slot) (names : List Bytes) (y : Bytes) (kind : Kind) (x : Bytes) (u : Bool)
    {t : Bool} {ws : List Word} {program : Program} → Wills kept (named_step kept k names y kind x) ws program
    → WantEnds kept k names (word identifier y u ∷ word kind x t ∷ ws) program
named_back k names y assign x u h = assign_back k names y x u h
named_back k names y kind x u h = named_goes_on k names y kind x u h

-- the head of an expression
pub head_back : {kept : Kept} (k : Slot) (names : List Bytes) (kind : Kind) (x : Bytes) (t : Bool) {ws : List Word}
    {program : Program} → Wills kept (head_step kept k names kind x) ws program
    → WantEnds kept k names (word kind x t ∷ ws) program
head_back k names identifier x t h = h t
head_back k names number x t h = literal_wanted a_number h
head_back k names character x t h = literal_wanted a_character h
head_back k names string x t h = literal_wanted a_string h
head_back k names symbol x t h = literal_wanted a_symbol h
head_back {kept} k names binary x t {ws}
    {program} h = let h' = taken kept ws program (is_minus x) (minus k names) h in h'.1 x t h'.0
head_back {kept} k names open_paren x t {ws}
    {program} h = let h' = checked kept ws program (passes kept p9 (nat_lt (depth_of k) DEPTH_LIMIT))
    (want (outer (alone (in_paren k names))) []) p9 h in paren_wanted h'.0 h'.1
head_back {kept} k names open_bracket x t {ws}
    {program} h = let h' = checked kept ws program (passes kept p9 (nat_lt (depth_of k) DEPTH_LIMIT))
    (in_params k names []) p9 h in block_wanted h'.0 h'.1
head_back {kept} k names open_array x t {ws}
    {program} h = let h' = checked kept ws program (passes kept p9 (nat_lt (depth_of k) DEPTH_LIMIT))
    (in_elements (of_head k names) no_constants) p9 h in array_wanted h'.0 h'.1
head_back k names _ x t h = absurd h

pub minus_back : {kept : Kept} (k : Slot) (names : List Bytes) (w : Word) (m : Bytes) (t : Bool) {ws : List Word}
    {program : Program} → is_minus m ≡ true → Wills kept (minus_step k names w) ws program
    → WantEnds kept k names (word binary m t ∷ w ∷ ws) program
minus_back k names (word number x true) m t is h = literal_wanted (a_negative_number is) h
minus_back k names (word _ x _) m t is h = absurd h
