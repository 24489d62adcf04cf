-- What the machine reads is of the grammar, with the tree that the machine builds.
use Rattle.std.proofs.Common.{◌≡◌, refl, sym, ap, ap₂, ◌∙◌, subst, subst₂, nat_lt, Bool, true, false, cond, not, ◌&&◌}
use Rattle.std.proofs.Common.{true≢false, Some, None, Result, Ok, Err, List, [], ◌∷◌, ◌++◌, append_assoc, append-nil}
use Rattle.texts.specs.Bytes.{Bytes}
use Rattle.st_grammar.specs.declared.limits.TheConstants.{DEPTH_LIMIT}
use Rattle.st_tree.specs.Trees.{sym as symbol_of, array, Constants, no_constants, name, Expression, Send, send, Sends}
use Rattle.st_tree.specs.Trees.{no_sends, a_send, no_expressions, statement, no_statements, a_statement, Program}
use Rattle.st_grammar.specs.Tokens.{Kind, identifier, keyword, number, character, string, symbol, binary, bar, colon}
use Rattle.st_grammar.specs.Tokens.{caret, open_paren, close_paren, close_bracket, open_array}
use Rattle.st_grammar.specs.Grammar.{Word, word, GrammarRule, p7, p9, Kept, passes, is_super, may_declare, IsSelector}
use Rattle.st_grammar.specs.Grammar.{binary_is, bar_is, is_minus, Level, Sort, unary_sort, binary_sort, keyword_sort}
use Rattle.st_grammar.specs.Grammar.{holds, no_message, may_come, needs_no_message, starts_with_joined_number, run_end}
use Rattle.st_grammar.specs.Grammar.{run_on, a_number, a_negative_number, a_character, a_string, a_symbol, an_array}
use Rattle.st_grammar.specs.Grammar.{a_literal_element, a_name_element, a_keyword_element, a_selector_element}
use Rattle.st_grammar.specs.Grammar.{a_nested_array, no_elements, no_params, a_param, no_bar, a_bar, bar_left_out}
use Rattle.st_grammar.specs.Grammar.{temps_end, a_temp, a_name, sends_end, sends_on, a_unary, a_binary, a_keyword}
use Rattle.st_grammar.specs.Grammar.{a_plain, a_return, statements_end, statements_on, rest_end, pattern_end}
use Rattle.st_grammar.specs.Grammar.{pattern_on, a_unary_pattern, a_binary_pattern, a_keyword_pattern, Form, chunk}
use Rattle.st_grammar.specs.Grammar.{method, ReadsProgram}
use Rattle.st_grammar_laws.specs.Machine.{as_cascade, Body, top, in_block, Seat, in_body, in_paren, alone, keyword_part}
use Rattle.st_grammar_laws.specs.Machine.{Slot, outer, binary_part, Nest, of_head, in_array, State, at_pattern}
use Rattle.st_grammar_laws.specs.Machine.{pattern_operator, pattern_keyword, pattern_more, header, in_temps, begin}
use Rattle.st_grammar_laws.specs.Machine.{ended, want, named, minus, have, after_semicolon, in_params, param_wanted}
use Rattle.st_grammar_laws.specs.Machine.{in_elements, element_minus, element_run, Verdict, goes, breaks, stuck, bare}
use Rattle.st_grammar_laws.specs.Machine.{added, one_more, unary, close_array, with_temp, declared, depth_nest, seat_of}
use Rattle.st_grammar_laws.specs.Machine.{closed, close_block, program_of, last_at, begin_step, ended_step, header_step}
use Rattle.st_grammar_laws.specs.Machine.{temps_step, params_step, param_step, cascade_step, elements_step}
use Rattle.st_grammar_laws.specs.Machine.{element_minus_step, element_run_step, pattern_step, operator_step}
use Rattle.st_grammar_laws.specs.Machine.{keyword_step, more_step, machine_step, last, blame, Fault, go, finish}
use Rattle.st_grammar_laws.specs.Machine.{machine_run, start}
use Rattle.st_grammar_laws.proofs.SoundWants.{BodyEnds, text_ends, block_ends, SeatEnds, statement_ends, CascadeEnds}
use Rattle.st_grammar_laws.proofs.SoundWants.{messages_end, keywords_end, wide_ends, argument_ends, SendsEnd}
use Rattle.st_grammar_laws.proofs.SoundWants.{sends_then, WantEnds, SemicolonEnds, message_then, BeginEnds}
use Rattle.st_grammar_laws.proofs.SoundWants.{statements_then, TempsEnd, temps_then, HeaderEnds, without_temps}
use Rattle.st_grammar_laws.proofs.SoundWants.{behind_bar, ParamsEnd, params_then, ElementsEnd, elements_then}
use Rattle.st_grammar_laws.proofs.SoundWants.{literal_ends, element_ends, RunEnds, run_then, PatternEnds, pattern_then}
use Rattle.st_grammar_laws.proofs.SoundWants.{ParamEnds, param_then, Will, Wills}
use Rattle.st_grammar_laws.proofs.SoundTrees.{no_more_statements, no_more_constants}
use Rattle.st_grammar_laws.proofs.SoundParts.{ExpressionThen, expression_then, unassigned, head_wanted, chunk_read}
use Rattle.st_grammar_laws.proofs.SoundParts.{method_read, element_first, no_more_messages}
use Rattle.st_grammar_laws.proofs.SoundSteps.{checked, have_back, named_back, head_back, minus_back, no_super}

-- bodies
plain_begins : {kept : Kept} {b : Body} {ws : List Word} {program : Program}
    → ExpressionThen kept (outer (alone (in_body b false))) ws program → BeginEnds kept b ws program
plain_begins (expression_then reads (statement_ends rest ends)) = statements_then
    (statements_on (a_plain reads) rest) ends

return_begins : {kept : Kept} {b : Body} {x : Bytes} {t : Bool} {ws : List Word} {program : Program}
    → ExpressionThen kept (outer (alone (in_body b true))) ws program → BeginEnds kept b (word caret x t ∷ ws) program
return_begins (expression_then reads (statement_ends rest ends)) = statements_then
    (statements_on (a_return reads) rest) ends

body_closes : {kept : Kept} (b : Body) {x : Bytes} {t : Bool} {ws : List Word} {program : Program}
    → Wills kept (close_block b) ws program → BodyEnds kept b no_statements (word close_bracket x t ∷ ws) program
body_closes (top selector ps ts body) h = absurd h
body_closes (in_block k names ps ts body) h = block_ends (no_more_statements body) h

begin_back : {kept : Kept} (b : Body) (kind : Kind) (x : Bytes) (t : Bool) {ws : List Word} {program : Program}
    → Wills kept (begin_step kept b kind x) ws program → BeginEnds kept b (word kind x t ∷ ws) program
begin_back b caret x t h = return_begins (unassigned h)
begin_back b close_bracket x t h = statements_then statements_end (body_closes b h)
begin_back b kind x t h = plain_begins (unassigned (head_back (outer (alone (in_body b false))) [] kind x t h))

ended_back : {kept : Kept} (b : Body) (kind : Kind) (x : Bytes) (t : Bool) {ws : List Word} {program : Program}
    → Wills kept (ended_step b kind) ws program → BodyEnds kept b no_statements (word kind x t ∷ ws) program
ended_back b close_bracket x t h = body_closes b h
ended_back b _ x t h = absurd h

header_back : {kept : Kept} (b : Body) (kind : Kind) (x : Bytes) (t : Bool) {ws : List Word} {program : Program}
    → Wills kept (header_step kept b kind x) ws program → HeaderEnds kept b (word kind x t ∷ ws) program
header_back b bar x t h = behind_bar h
header_back b kind x t h = without_temps refl (begin_back b kind x t h)

one_more_temp : {kept : Kept} (b : Body) {x : Bytes} {t : Bool} {ws : List Word} {program : Program}
    → passes kept p7 (may_declare (declared b) x) ≡ true → TempsEnd kept (with_temp b x) ws program
    → TempsEnd kept b (word identifier x t ∷ ws) program
one_more_temp (top selector ps ts body) pass (temps_then reads ends) = temps_then (a_temp pass reads) ends
one_more_temp (in_block k names ps ts body) pass (temps_then reads ends) = temps_then (a_temp pass reads) ends

temps_back : {kept : Kept} (b : Body) (kind : Kind) (x : Bytes) (t : Bool) {ws : List Word} {program : Program}
    → Wills kept (temps_step kept b kind x) ws program → TempsEnd kept b (word kind x t ∷ ws) program
temps_back {kept} b identifier x t {ws} {program} h =
    let h' = checked kept ws program (passes kept p7 (may_declare (declared b) x)) (in_temps (with_temp b x)) p7 h in
    one_more_temp b h'.0 h'.1
temps_back b bar x t h = temps_then temps_end h
temps_back b _ x t h = absurd h

-- parameters of a block
params_back : {kept : Kept} (k : Slot) (names ps : List Bytes) (kind : Kind) (x : Bytes) (t : Bool) {ws : List Word}
    {program : Program} → Wills kept (params_step kept k names ps kind x) ws program
    → ParamsEnd kept k names ps (word kind x t ∷ ws) program
params_back k names ps colon x t h = h x t
params_back k names [] kind x t h = params_then no_params refl no_bar
    (header_back (in_block k names [] [] no_statements) kind x t h)
params_back k names (p ∷ ps) bar x t h = params_then no_params (append-nil (p ∷ ps)) a_bar h
params_back k names (p ∷ ps) close_bracket x t h = params_then no_params (append-nil (p ∷ ps)) bar_left_out
    (without_temps refl (statements_then statements_end (block_ends refl h)))
params_back k names (p ∷ ps) _ x t h = absurd h

one_more_param : {kept : Kept} {k : Slot} {names ps : List Bytes} {p x : Bytes} {t u : Bool} {ws : List Word}
    {program : Program} → passes kept p7 (may_declare ps p) ≡ true → ParamsEnd kept k names (ps ++ p ∷ []) ws program
    → ParamsEnd kept k names ps (word colon x t ∷ word identifier p u ∷ ws) program
one_more_param {ps = ps} {p = p} pass (params_then {qs = qs} reads same line ends) = params_then (a_param pass reads)
    (sym (append_assoc ps (p ∷ []) qs) ∙ same) line ends

param_back : {kept : Kept} (k : Slot) (names ps : List Bytes) (kind : Kind) (p x : Bytes) (t : Bool) {u : Bool}
    {ws : List Word} {program : Program} → Wills kept (param_step kept k names ps kind p) ws program
    → ParamsEnd kept k names ps (word colon x t ∷ word kind p u ∷ ws) program
param_back {kept} k names ps identifier p x t {ws = ws} {program = program} h =
    let h' = checked kept ws program (passes kept p7 (may_declare ps p)) (in_params k names (ps ++ p ∷ [])) p7 h in
    one_more_param h'.0 h'.1
param_back k names ps _ p x t h = absurd h

-- cascades
and_false : (b : Bool) → (b && false) ≡ false
and_false true = refl
and_false false = refl

none_comes : (l : Level) (s : Sort) → (holds l s && may_come no_message s) ≡ true → ⊥
none_comes l unary_sort e = true≢false (sym e ∙ and_false (holds l unary_sort))
none_comes l binary_sort e = true≢false (sym e ∙ and_false (holds l binary_sort))
none_comes l keyword_sort e = true≢false (sym e ∙ and_false (holds l keyword_sort))

unary_cascade : {kept : Kept} {o : Seat} {e : Expression} {x : Bytes} {t : Bool} {ws : List Word} {program : Program}
    → SendsEnd kept (outer (alone o)) (added as_cascade e (unary x)) no_message ws program
    → SemicolonEnds kept o e (word identifier x t ∷ ws) program
unary_cascade (sends_then sends_end (wide_ends (messages_end ends))) = message_then a_unary ends
unary_cascade (sends_then (sends_on {l = l} {s = s} e reads others) ends) = absurd (none_comes l s e)

binary_cascade : {kept : Kept} {o : Seat} {e : Expression} {kind : Kind} {x : Bytes} {t : Bool} {ws : List Word}
    {program : Program} → IsSelector kind
    → ExpressionThen kept (binary_part (alone o) as_cascade e x) ws program
    → SemicolonEnds kept o e (word kind x t ∷ ws) program
binary_cascade is (expression_then reads (argument_ends sends_end (messages_end ends))) = message_then
    (a_binary is reads) ends
binary_cascade is (expression_then reads (argument_ends (sends_on {l = l} {s = s} e message others) ends)) = absurd
    (none_comes l s e)

keyword_cascade : {kept : Kept} {o : Seat} {e : Expression} {x : Bytes} {t : Bool} {ws : List Word} {program : Program}
    → ExpressionThen kept (outer (keyword_part o as_cascade e x no_expressions)) ws program
    → SemicolonEnds kept o e (word keyword x t ∷ ws) program
keyword_cascade {kept} {o} {e} (expression_then reads
    (wide_ends (keywords_end {us = us} {program = program} parts same all ends))) =
    message_then (a_keyword reads parts)
    (subst (λ (m : Send). CascadeEnds kept o (added as_cascade e m) us program) (ap₂ send (sym same) (sym all)) ends)

cascade_back : {kept : Kept} (o : Seat) (e : Expression) (kind : Kind) (x : Bytes) (t : Bool) {ws : List Word}
    {program : Program} → Wills kept (cascade_step o e kind x) ws program
    → SemicolonEnds kept o e (word kind x t ∷ ws) program
cascade_back o e identifier x t h = unary_cascade h
cascade_back o e binary x t h = binary_cascade binary_is (unassigned h)
cascade_back o e bar x t h = binary_cascade bar_is (unassigned h)
cascade_back o e keyword x t h = keyword_cascade (unassigned h)
cascade_back o e _ x t h = absurd h

-- literal arrays
run_first : {kept : Kept} {n : Nest} {cs : Constants} {x : Bytes} {t : Bool} {ws : List Word} {program : Program}
    → RunEnds kept n cs x ws program → ElementsEnd kept n cs (word keyword x t ∷ ws) program
run_first {kept} {n} {cs} {program = program} (run_then {us = us} reads same ends) =
    element_first (a_keyword_element reads)
    (subst (λ (run : Bytes). ElementsEnd kept n (one_more cs (symbol_of run)) us program) (sym same) ends)

nest_first : {kept : Kept} {n : Nest} {cs : Constants} {x : Bytes} {t : Bool} {ws : List Word} {program : Program}
    → passes kept p9 (nat_lt (depth_nest n) DEPTH_LIMIT) ≡ true
    → ElementsEnd kept (in_array n cs) no_constants ws program
    → ElementsEnd kept n cs (word open_paren x t ∷ ws) program
nest_first {kept} {n} {cs} {program = program} pass (elements_then reads same (element_ends {ws = us} ends)) =
    element_first (a_nested_array pass reads)
    (subst (λ (ds : Constants). ElementsEnd kept n (one_more cs (array ds)) us program) (sym same) ends)

array_first : {kept : Kept} {n : Nest} {cs : Constants} {x : Bytes} {t : Bool} {ws : List Word} {program : Program}
    → passes kept p9 (nat_lt (depth_nest n) DEPTH_LIMIT) ≡ true
    → ElementsEnd kept (in_array n cs) no_constants ws program
    → ElementsEnd kept n cs (word open_array x t ∷ ws) program
array_first {kept} {n} {cs} {program = program} pass (elements_then reads same (element_ends {ws = us} ends)) =
    element_first (a_literal_element (an_array pass reads))
    (subst (λ (ds : Constants). ElementsEnd kept n (one_more cs (array ds)) us program) (sym same) ends)

selector_by : {kept : Kept} (n : Nest) (cs : Constants) (x : Bytes) (t : Bool) {ws : List Word}
    {program : Program} (is : Bool) → is_minus x ≡ is
    → Wills kept (cond is (goes (element_minus n cs x)) (goes (in_elements n (one_more cs (symbol_of x))))) ws program
    → ElementsEnd kept n cs (word binary x t ∷ ws) program
selector_by n cs x t true e h = h t e
selector_by n cs x t {ws} false e h = element_first
    (a_selector_element binary_is (ap (λ (b : Bool). b && starts_with_joined_number ws) e)) h

array_closes : {kept : Kept} (n : Nest) (cs : Constants) (x : Bytes) (t : Bool) {ws : List Word} {program : Program}
    → Will kept (close_array n (array cs)) ws program → ElementsEnd kept n cs (word close_paren x t ∷ ws) program
array_closes (of_head k names) cs x t h = elements_then no_elements (no_more_constants cs) (literal_ends h)
array_closes (in_array n ds) cs x t h = elements_then no_elements (no_more_constants cs) (element_ends h)

elements_back : {kept : Kept} (n : Nest) (cs : Constants) (kind : Kind) (x : Bytes) (t : Bool) {ws : List Word}
    {program : Program} → Wills kept (elements_step kept n cs kind x) ws program
    → ElementsEnd kept n cs (word kind x t ∷ ws) program
elements_back n cs identifier x t h = element_first a_name_element h
elements_back n cs number x t h = element_first (a_literal_element a_number) h
elements_back n cs character x t h = element_first (a_literal_element a_character) h
elements_back n cs string x t h = element_first (a_literal_element a_string) h
elements_back n cs symbol x t h = element_first (a_literal_element a_symbol) h
elements_back n cs keyword x t h = run_first h
elements_back n cs binary x t h = selector_by n cs x t (is_minus x) refl h
elements_back n cs bar x t h = element_first (a_selector_element bar_is refl) h
elements_back {kept} n cs open_paren x t {ws}
    {program} h = let h' = checked kept ws program (passes kept p9 (nat_lt (depth_nest n) DEPTH_LIMIT))
    (in_elements (in_array n cs) no_constants) p9 h in nest_first h'.0 h'.1
elements_back {kept} n cs open_array x t {ws}
    {program} h = let h' = checked kept ws program (passes kept p9 (nat_lt (depth_nest n) DEPTH_LIMIT))
    (in_elements (in_array n cs) no_constants) p9 h in array_first h'.0 h'.1
elements_back n cs close_paren x t h = array_closes n cs x t h
elements_back n cs _ x t h = absurd h

element_minus_back : {kept : Kept} (n : Nest) (cs : Constants) (m : Bytes) (w : Word) (t : Bool) {ws : List Word}
    {program : Program} → is_minus m ≡ true → Wills kept (element_minus_step kept n cs m w) ws program
    → ElementsEnd kept n cs (word binary m t ∷ w ∷ ws) program
element_minus_back n cs m (word number x true) t is h = element_first (a_literal_element (a_negative_number is)) h
element_minus_back n cs m (word kind x u) t is h = element_first (a_selector_element binary_is (and_false (is_minus m)))
    (elements_back n (one_more cs (symbol_of m)) kind x u h)

one_more_keyword : {kept : Kept} {n : Nest} {cs : Constants} {run x : Bytes} {ws : List Word} {program : Program}
    → RunEnds kept n cs (run ++ x) ws program → RunEnds kept n cs run (word keyword x true ∷ ws) program
one_more_keyword {run = run} {x = x} (run_then {rest = rest} reads same ends) = run_then (run_on reads)
    (sym (append_assoc run x rest) ∙ same) ends

element_run_back : {kept : Kept} (n : Nest) (cs : Constants) (run : Bytes) (w : Word) {ws : List Word}
    {program : Program} → Wills kept (element_run_step kept n cs run w) ws program
    → RunEnds kept n cs run (w ∷ ws) program
element_run_back n cs run (word keyword x true) h = one_more_keyword h
element_run_back n cs run (word kind x u) h = run_then (run_end refl) (append-nil run)
    (elements_back n (one_more cs (symbol_of run)) kind x u h)

-- patterns
keyword_pattern : {kept : Kept} {x : Bytes} {t : Bool} {ws : List Word} {program : Program}
    → ParamEnds kept x [] ws program → ReadsProgram kept method program (word keyword x t ∷ ws)
keyword_pattern {kept} {program = program} (param_then pass (pattern_then {us = us} reads same all ends)) =
    method_read (a_keyword_pattern pass reads)
    (subst₂ (λ (selector : Bytes) (ps : List Bytes). HeaderEnds kept
    (top (Some selector) ps [] no_statements) us program) (sym same) (sym all) ends)

pattern_back : {kept : Kept} (kind : Kind) (x : Bytes) (t : Bool) {ws : List Word} {program : Program}
    → Wills kept (pattern_step kind x) ws program → ReadsProgram kept method program (word kind x t ∷ ws)
pattern_back identifier x t h = method_read a_unary_pattern h
pattern_back binary x t h = h binary t binary_is
pattern_back bar x t h = h bar t bar_is
pattern_back keyword x t h = keyword_pattern h
pattern_back _ x t h = absurd h

operator_back : {kept : Kept} (selector : Bytes) (kind : Kind) (x : Bytes) (u : Bool) {ws : List Word}
    {program : Program} → Wills kept (operator_step kept selector kind x) ws program
    → (k : Kind) (t : Bool) → IsSelector k → ReadsProgram kept method program (word k selector t ∷ word kind x u ∷ ws)
operator_back {kept} selector identifier x u {ws} {program} h k t is =
    let h' = checked kept ws program (passes kept p7 (may_declare [] x))
    (header (top (Some selector) (x ∷ []) [] no_statements)) p7 h in
    method_read (a_binary_pattern is h'.0) h'.1
operator_back selector _ x u h k t is = absurd h

keyword_back : {kept : Kept} (selector : Bytes) (ps : List Bytes) (kind : Kind) (x : Bytes) (u : Bool) {ws : List Word}
    {program : Program} → Wills kept (keyword_step kept selector ps kind x) ws program
    → ParamEnds kept selector ps (word kind x u ∷ ws) program
keyword_back {kept} selector ps identifier x u {ws} {program} h =
    let h' = checked kept ws program (passes kept p7 (may_declare ps x)) (pattern_more selector (ps ++ x ∷ [])) p7 h in
    param_then h'.0 h'.1
keyword_back selector ps _ x u h = absurd h

one_more_part : {kept : Kept} {selector x : Bytes} {ps : List Bytes} {t : Bool} {ws : List Word} {program : Program}
    → ParamEnds kept (selector ++ x) ps ws program → PatternEnds kept selector ps (word keyword x t ∷ ws) program
one_more_part {selector = selector} {x = x}
    {ps = ps} (param_then {x = p} pass (pattern_then {rest = rest} {qs = qs} reads same all ends)) =
    pattern_then (pattern_on pass reads) (sym (append_assoc selector x rest) ∙ same) (sym (append_assoc ps (p ∷ []) qs)
    ∙ all) ends

more_back : {kept : Kept} (selector : Bytes) (ps : List Bytes) (kind : Kind) (x : Bytes) (t : Bool) {ws : List Word}
    {program : Program} → Wills kept (more_step kept selector ps kind x) ws program
    → PatternEnds kept selector ps (word kind x t ∷ ws) program
more_back selector ps keyword x t h = one_more_part h
more_back selector ps kind x t h = pattern_then (pattern_end refl) (append-nil selector) (append-nil ps)
    (header_back (top (Some selector) ps [] no_statements) kind x t h)

-- a token back, from every state
back : (kept : Kept) (s : State) (w : Word) (ws : List Word) (program : Program)
    → Wills kept (machine_step kept s w) ws program → Will kept s (w ∷ ws) program
back kept at_pattern (word kind x t) ws program h = pattern_back kind x t h
back kept (pattern_operator selector) (word kind x t) ws program h = operator_back selector kind x t h
back kept (pattern_keyword selector ps) (word kind x t) ws program h = keyword_back selector ps kind x t h
back kept (pattern_more selector ps) (word kind x t) ws program h = more_back selector ps kind x t h
back kept (header b) (word kind x t) ws program h = header_back b kind x t h
back kept (in_temps b) (word kind x t) ws program h = temps_back b kind x t h
back kept (begin b) (word kind x t) ws program h = begin_back b kind x t h
back kept (ended b) (word kind x t) ws program h = ended_back b kind x t h
back kept (want k names) (word kind x t) ws program h = head_back k names kind x t h
back kept (named k names y) (word kind x t) ws program h = λ u. named_back k names y kind x u h
back kept (minus k names) w ws program h = λ m t is. minus_back k names w m t is h
back kept (have k e next) (word kind x t) ws program h = have_back k e next kind x h
back kept (after_semicolon o e) (word kind x t) ws program h = cascade_back o e kind x t h
back kept (in_params k names ps) (word kind x t) ws program h = params_back k names ps kind x t h
back kept (param_wanted k names ps) (word kind x t) ws program h = λ y u. param_back k names ps kind x y u h
back kept (in_elements n cs) (word kind x t) ws program h = elements_back n cs kind x t h
back kept (element_minus n cs m) w ws program h = λ t is. element_minus_back n cs m w t is h
back kept (element_run n cs r) w ws program h = element_run_back n cs r w h

-- the end of the text
abbrev read_as : Program → Result Program Fault
read_as program = Ok program

abbrev fails_by : Fault → Result Program Fault
fails_by f = Err f

same_program : (p q : Program) → read_as p ≡ read_as q → p ≡ q
same_program p q e = cc

no_program : {A : Type 0} (f : Fault) (q : Program) → fails_by f ≡ read_as q → A
no_program f q e = let none : ⊥ = cc in absurd none

body_last : {kept : Kept} (b : Body) (r : GrammarRule) {program : Program} → finish r (program_of b) ≡ Ok program
    → BodyEnds kept b no_statements [] program
body_last {kept} (top selector ps ts body) r {program} e =
    subst (λ (q : Program). BodyEnds kept (top selector ps ts body) no_statements [] q) (same_program _ program e)
    (text_ends (no_more_statements body))
body_last (in_block k names ps ts body) r {program} e = no_program _ program e

begin_last : {kept : Kept} (b : Body) (r : GrammarRule) {program : Program} → finish r (program_of b) ≡ Ok program
    → BeginEnds kept b [] program
begin_last b r e = statements_then statements_end (body_last b r e)

seat_last : {kept : Kept} (o : Seat) (e : Expression) (r : GrammarRule) {program : Program}
    → finish r (last_at o e) ≡ Ok program → SeatEnds kept o e [] program
seat_last {kept} (in_body (top selector ps ts body) returns) e r {program} same =
    statement_ends rest_end (subst
    (λ (q : Program). BodyEnds kept (top selector ps ts body) (a_statement (statement returns e) no_statements) [] q)
    (same_program _ program same) (text_ends refl))
seat_last (in_body (in_block k names ps ts body) returns) e r {program} same = no_program _ program same
seat_last (in_paren k names) e r {program} same = no_program _ program same

named_last : {kept : Kept} (k : Slot) (names : List Bytes) (y : Bytes) (r : GrammarRule) (t : Bool)
    {program : Program} (super : Bool) → is_super y ≡ super
    → finish r (cond super None (last_at (seat_of k) (closed k (bare names (name y))))) ≡ Ok program
    → WantEnds kept k names (word identifier y t ∷ []) program
named_last k names y r t {program} true is e = no_program _ program e
named_last k names y r t false is e = head_wanted a_name (no_super y is)
    (no_more_messages k (seat_last (seat_of k) (closed k (bare names (name y))) r e))

at_end : (kept : Kept) (s : State) (r : GrammarRule) {program : Program} → finish r (last s) ≡ Ok program
    → Will kept s [] program
at_end kept (pattern_more selector ps) r e = pattern_then (pattern_end refl) (append-nil selector) (append-nil ps)
    (without_temps refl (begin_last (top (Some selector) ps [] no_statements) r e))
at_end kept (header b) r e = without_temps refl (begin_last b r e)
at_end kept (begin b) r e = begin_last b r e
at_end kept (ended b) r e = body_last b r e
at_end kept (named k names y) r e = λ t. named_last k names y r t (is_super y) refl e
at_end kept (have k e next) r same = no_more_messages k (seat_last (seat_of k) (closed k e) r same)
at_end kept _ r {program} e = no_program _ program e

-- any number of tokens
goes_back : (kept : Kept) (ws all : List Word) (program : Program) (r : GrammarRule) (v : Verdict)
    → ((s : State) → machine_run kept s ws ≡ Ok program → Will kept s ws program)
    → go r all (λ (s : State). machine_run kept s ws) v ≡ Ok program → Wills kept v ws program
goes_back kept ws all program r (goes s) on e = on s e
goes_back kept ws all program r (breaks other) on e = no_program _ program e
goes_back kept ws all program r stuck on e = no_program _ program e

pub will_be : (kept : Kept) (s : State) (ws : List Word) (program : Program) → machine_run kept s ws ≡ Ok program
    → Will kept s ws program
will_be kept s [] program e = at_end kept s (blame kept s) e
will_be kept s (w ∷ ws) program e = back kept s w ws program
    (goes_back kept ws (w ∷ ws) program (blame kept s) (machine_step kept s w)
    (λ (s' : State). will_be kept s' ws program) e)

-- What the machine reads from the start on is of the grammar, with this tree.
pub sound : (kept : Kept) (form : Form) (ws : List Word) (program : Program)
    → machine_run kept (start form) ws ≡ Ok program → ReadsProgram kept form program ws
sound kept chunk ws program e = chunk_read (will_be kept (start chunk) ws program e)
sound kept method ws program e = will_be kept (start method) ws program e
