-- From what follows a part to the grammar of the whole: expressions, blocks, methods.
use Rattle.std.proofs.Common.{◌≡◌, refl, sym, ◌∙◌, subst, ℕ, suc, nat_lt, Bool, true, true≢false, Option, Some, None}
use Rattle.std.proofs.Common.{List, [], ◌∷◌, append-nil}
use Rattle.texts.specs.Bytes.{Bytes}
use Rattle.st_grammar.specs.declared.limits.TheConstants.{DEPTH_LIMIT}
use Rattle.st_tree.specs.Trees.{Constant, array, Constants, no_constants, Head, name, constant, block, closure}
use Rattle.st_tree.specs.Trees.{Expression, expression, Statement, Statements, no_statements, a_statement, Sends}
use Rattle.st_tree.specs.Trees.{no_sends, a_send, Program}
use Rattle.st_grammar.specs.Tokens.{open_paren, open_bracket, open_array, close_bracket}
use Rattle.st_grammar.specs.Grammar.{Word, word, p9, Kept, passes, Scope, scope, full, needs_no_message, Next}
use Rattle.st_grammar.specs.Grammar.{any_message, ReadsLiteral, an_array, ReadsElement, an_element, ReadsTemps}
use Rattle.st_grammar.specs.Grammar.{no_temps, some_temps, ReadsBar, ReadsParams, ReadsExpression, messages_sent}
use Rattle.st_grammar.specs.Grammar.{a_cascade, ReadsHead, a_literal, a_paren, a_block, ReadsSends, sends_end}
use Rattle.st_grammar.specs.Grammar.{parts_end, ReadsCascade, cascade_end, ReadsStatements, ReadsPattern, chunk, method}
use Rattle.st_grammar.specs.Grammar.{ReadsProgram, a_chunk, a_method}
use Rattle.st_grammar_laws.specs.Machine.{as_message, Body, top, in_block, Seat, in_paren, Wide, alone, keyword_part}
use Rattle.st_grammar_laws.specs.Machine.{Slot, outer, binary_part, Nest, of_head, bare, with_statement, one_more}
use Rattle.st_grammar_laws.specs.Machine.{scopes_seat, scopes_of, depth_seat, depth_of, depth_nest, level_of, wide_of}
use Rattle.st_grammar_laws.specs.Machine.{held, next_in, seat_in, closed_in, seat_of, closed}
use Rattle.st_grammar_laws.proofs.SoundWants.{with_sends, may_follow, BodyEnds, text_ends, block_ends, SeatEnds}
use Rattle.st_grammar_laws.proofs.SoundWants.{paren_ends, CascadeEnds, cascade_then, WideEnds, messages_end}
use Rattle.st_grammar_laws.proofs.SoundWants.{keywords_end, SlotEnds, wide_ends, argument_ends, SendsEnd, sends_then}
use Rattle.st_grammar_laws.proofs.SoundWants.{SendsGoOn, goes_then, ExpressionEnds, WantEnds, wanted, BeginEnds}
use Rattle.st_grammar_laws.proofs.SoundWants.{statements_then, temps_then, HeaderEnds, without_temps, behind_bar}
use Rattle.st_grammar_laws.proofs.SoundWants.{ParamsEnd, params_then, ElementsEnd, elements_then, literal_ends}
use Rattle.st_grammar_laws.proofs.SoundTrees.{with_messages, with_cascade, statements_one_by_one, constants_one_by_one}
use Rattle.st_grammar_laws.proofs.SoundTrees.{text_with_temps, block_with_temps}

-- expressions from their head on
no_cascade : {kept : Kept} {ss : List Scope} {d : ℕ} {ws us : List Word} → ReadsCascade kept ss d no_sends ws us
    → ws ≡ us
no_cascade cascade_end = refl

whole_expression : {kept : Kept} {ss : List Scope} {d : ℕ} {h : Head}
    {ws us vs xs : List Word} (names : List Bytes) (ms cs : Sends) → ReadsHead kept ss d h ws us
    → needs_no_message h ms ≡ true
    → ReadsSends kept ss d any_message full ms us vs → ReadsCascade kept ss d cs vs xs
    → may_follow (expression names h ms no_sends) cs ≡ true
    → ReadsExpression kept ss d full (expression [] h ms cs) ws xs
whole_expression {kept} {ss} {d} {h}
    {ws} names ms no_sends head needs reads cascade e = subst
    (λ (end : List Word). ReadsExpression kept ss d full (expression [] h ms no_sends) ws end) (no_cascade cascade)
    (messages_sent head needs reads)
whole_expression names no_sends (a_send n ns) head needs reads cascade e = absurd (true≢false (sym e))
whole_expression names (a_send m ms) (a_send n ns) head needs reads cascade e = a_cascade head reads cascade

full_wanted : {kept : Kept} {o : Seat} {names : List Bytes} {h : Head} {ms : Sends} {ws us vs : List Word}
    {program : Program} → ReadsHead kept (scopes_seat o) (depth_seat o) h ws us → needs_no_message h ms ≡ true
    → ReadsSends kept (scopes_seat o) (depth_seat o) any_message full ms us vs
    → CascadeEnds kept o (expression names h ms no_sends) vs program → WantEnds kept (outer (alone o)) names ws program
full_wanted {kept} {o} {names} {h} {ms}
    {program = program} head needs reads (cascade_then {cs = cs} {us = xs} cascade e ends) =
    wanted (whole_expression names ms cs head needs reads cascade e) (append-nil names)
    (subst (λ (f : Expression). SeatEnds kept o f xs program) (with_cascade names h ms no_sends cs) ends)

argument_wanted : {kept : Kept} (k : Slot) {names : List Bytes} {h : Head} {ms : Sends} {ws us vs : List Word}
    {program : Program} → ReadsHead kept (scopes_of k) (depth_of k) h ws us → needs_no_message h ms ≡ true
    → ReadsSends kept (scopes_of k) (depth_of k) any_message (level_of k) ms us vs
    → SlotEnds kept k (expression names h ms no_sends) vs program → WantEnds kept k names ws program
argument_wanted (outer (alone o)) head needs reads (wide_ends (messages_end ends)) = full_wanted head needs reads ends
argument_wanted (outer (keyword_part o role f selector es))
    {names} head needs reads ends = wanted (messages_sent head needs reads) (append-nil names) ends
argument_wanted (binary_part w role f x)
    {names} head needs reads ends = wanted (messages_sent head needs reads) (append-nil names) ends

head_and_sends : {kept : Kept} (k : Slot) {names : List Bytes} {h : Head} {ms : Sends} {ws us vs : List Word}
    {program : Program} → ReadsHead kept (scopes_of k) (depth_of k) h ws us → needs_no_message h ms ≡ true
    → ReadsSends kept (scopes_of k) (depth_of k) any_message (level_of k) ms us vs
    → SlotEnds kept k (with_sends as_message (bare names h) ms) vs program → WantEnds kept k names ws program
head_and_sends {kept} k {names} {h} {ms} {vs = vs} {program = program} head needs reads ends =
    argument_wanted k head needs reads
    (subst (λ (f : Expression). SlotEnds kept k f vs program) (with_messages names h no_sends no_sends ms) ends)

pub head_wanted : {kept : Kept} {k : Slot} {names : List Bytes} {h : Head} {ws us : List Word} {program : Program}
    → ReadsHead kept (scopes_of k) (depth_of k) h ws us → ((ms : Sends) → needs_no_message h ms ≡ true)
    → SendsEnd kept k (bare names h) any_message us program → WantEnds kept k names ws program
head_wanted {k = k} head needs (sends_then {ms = ms} reads ends) = head_and_sends k head (needs ms) reads ends

pub head_goes_on : {kept : Kept} {k : Slot} {names : List Bytes} {x : Bytes} {ws us : List Word} {program : Program}
    → ReadsHead kept (scopes_of k) (depth_of k) (name x) ws us
    → SendsGoOn kept k (bare names (name x)) any_message us program → WantEnds kept k names ws program
head_goes_on {k = k} head (goes_then reads ends) = head_and_sends k head refl reads ends

pub literal_wanted : {kept : Kept} {k : Slot} {names : List Bytes} {c : Constant} {ws us : List Word}
    {program : Program} → ReadsLiteral kept (depth_of k) c ws us
    → SendsEnd kept k (bare names (constant c)) any_message us program → WantEnds kept k names ws program
literal_wanted reads ends = head_wanted (a_literal reads) (λ ms. refl) ends

-- an expression that isn't assigned
pub data ExpressionThen (kept : Kept) : Slot → List Word → Program → Type 0 where
  expression_then : {k : Slot} {e : Expression} {ws us : List Word} {program : Program}
      → ReadsExpression kept (scopes_of k) (depth_of k) (level_of k) e ws us → ExpressionEnds kept k e us program
      → ExpressionThen kept k ws program

pub unassigned : {kept : Kept} {k : Slot} {ws : List Word} {program : Program} → WantEnds kept k [] ws program
    → ExpressionThen kept k ws program
unassigned {kept} {k} {ws} (wanted {h = h} {ms = ms} {cs = cs} {us = us} reads same ends) =
    expression_then (subst (λ (names : List Bytes). ReadsExpression kept (scopes_of k) (depth_of k) (level_of k)
    (expression names h ms cs) ws us) same reads) ends

paren_read : {kept : Kept} {k : Slot} {names : List Bytes} {x : Bytes} {t : Bool} {ws : List Word} {program : Program}
    → passes kept p9 (nat_lt (depth_of k) DEPTH_LIMIT) ≡ true
    → ExpressionThen kept (outer (alone (in_paren k names))) ws program
    → WantEnds kept k names (word open_paren x t ∷ ws) program
paren_read pass (expression_then reads (paren_ends ends)) = head_wanted (a_paren pass reads) (λ ms. refl) ends

pub paren_wanted : {kept : Kept} {k : Slot} {names : List Bytes} {x : Bytes} {t : Bool} {ws : List Word}
    {program : Program} → passes kept p9 (nat_lt (depth_of k) DEPTH_LIMIT) ≡ true
    → WantEnds kept (outer (alone (in_paren k names))) [] ws program
    → WantEnds kept k names (word open_paren x t ∷ ws) program
paren_wanted pass ends = paren_read pass (unassigned ends)

pub array_wanted : {kept : Kept} {k : Slot} {names : List Bytes} {x : Bytes} {t : Bool} {ws : List Word}
    {program : Program} → passes kept p9 (nat_lt (depth_of k) DEPTH_LIMIT) ≡ true
    → ElementsEnd kept (of_head k names) no_constants ws program
    → WantEnds kept k names (word open_array x t ∷ ws) program
array_wanted {kept} {k} {names} {program = program} pass (elements_then reads e (literal_ends {ws = us} ends)) =
    literal_wanted (an_array pass reads)
    (subst (λ (cs : Constants). SendsEnd kept k (bare names (constant (array cs))) any_message us program) (sym e) ends)

-- blocks
data BlockEnds (kept : Kept) : Slot → (names params : List Bytes) → List Word → Program → Type 0 where
  block_then : {k : Slot} {names ps ts : List Bytes} {body : Statements} {x : Bytes} {t : Bool} {ws us vs : List Word}
      {program : Program} → ReadsTemps kept ps ts ws us
      → ReadsStatements kept (scope ps ts ∷ scopes_of k) (suc (depth_of k)) body us (word close_bracket x t ∷ vs)
      → SendsEnd kept k (bare names (block (closure ps ts body))) any_message vs program
      → BlockEnds kept k names ps ws program

block_body : {kept : Kept} {k : Slot} {names ps ts : List Bytes} {ws us : List Word} {program : Program}
    → ReadsTemps kept ps ts ws us → BeginEnds kept (in_block k names ps ts no_statements) us program
    → BlockEnds kept k names ps ws program
block_body {kept} {k} {names} {ps} {ts}
    {program = program} temps (statements_then reads (block_ends {ws = vs} e ends)) =
    block_then temps reads (subst
    (λ (body : Statements). SendsEnd kept k (bare names (block (closure ps ts body))) any_message vs program)
    (sym e) ends)

block_header : {kept : Kept} {k : Slot} {names ps : List Bytes} {ws : List Word} {program : Program}
    → HeaderEnds kept (in_block k names ps [] no_statements) ws program → BlockEnds kept k names ps ws program
block_header (without_temps e ends) = block_body (no_temps e) ends
block_header {kept} {k} {names} {ps} {program = program} (behind_bar (temps_then {ts = ts} {us = us} reads ends)) =
    block_body (some_temps reads)
    (subst (λ (b : Body). BeginEnds kept b us program) (block_with_temps k names ps [] ts no_statements) ends)

block_read : {kept : Kept} {k : Slot} {names ps : List Bytes} {x : Bytes} {t : Bool} {ws us vs : List Word}
    {program : Program} → passes kept p9 (nat_lt (depth_of k) DEPTH_LIMIT) ≡ true
    → ReadsParams kept [] ps ws us → ReadsBar ps us vs → BlockEnds kept k names ps vs program
    → WantEnds kept k names (word open_bracket x t ∷ ws) program
block_read pass params line (block_then temps reads ends) = head_wanted (a_block pass params line temps reads)
    (λ ms. refl) ends

pub block_wanted : {kept : Kept} {k : Slot} {names : List Bytes} {x : Bytes} {t : Bool} {ws : List Word}
    {program : Program} → passes kept p9 (nat_lt (depth_of k) DEPTH_LIMIT) ≡ true
    → ParamsEnd kept k names [] ws program → WantEnds kept k names (word open_bracket x t ∷ ws) program
block_wanted {kept} {k} {names} {ws = ws} {program = program} pass (params_then {us = us} params e line ends) =
    block_read pass (subst (λ (ps : List Bytes). ReadsParams kept [] ps ws us) e params) line (block_header ends)

-- whole texts
data TextEnds (kept : Kept) : (selector : Option Bytes) → (params : List Bytes) → List Word → Program → Type 0 where
  text_then : {selector : Option Bytes} {ps ts : List Bytes} {body : Statements} {ws us : List Word}
      → ReadsTemps kept ps ts ws us → ReadsStatements kept (scope ps ts ∷ []) 0 body us []
      → TextEnds kept selector ps ws (record { selector = selector; params = ps; temps = ts; body = body })

text_body : {kept : Kept} {selector : Option Bytes} {ps ts : List Bytes} {ws us : List Word} {program : Program}
    → ReadsTemps kept ps ts ws us → BeginEnds kept (top selector ps ts no_statements) us program
    → TextEnds kept selector ps ws program
text_body {kept} {selector} {ps} {ts} {us = us} temps (statements_then reads (text_ends e)) =
    text_then temps (subst (λ (body : Statements). ReadsStatements kept (scope ps ts ∷ []) 0 body us []) e reads)

text_header : {kept : Kept} {selector : Option Bytes} {ps : List Bytes} {ws : List Word} {program : Program}
    → HeaderEnds kept (top selector ps [] no_statements) ws program → TextEnds kept selector ps ws program
text_header (without_temps e ends) = text_body (no_temps e) ends
text_header {kept} {selector} {ps} {program = program} (behind_bar (temps_then {ts = ts} {us = us} reads ends)) =
    text_body (some_temps reads)
    (subst (λ (b : Body). BeginEnds kept b us program) (text_with_temps selector ps [] ts no_statements) ends)

chunk_text : {kept : Kept} {ws : List Word} {program : Program} → TextEnds kept None [] ws program
    → ReadsProgram kept chunk program ws
chunk_text (text_then temps reads) = a_chunk temps reads

pub chunk_read : {kept : Kept} {ws : List Word} {program : Program}
    → HeaderEnds kept (top None [] [] no_statements) ws program → ReadsProgram kept chunk program ws
chunk_read ends = chunk_text (text_header ends)

method_text : {kept : Kept} {selector : Bytes} {ps : List Bytes} {ws us : List Word} {program : Program}
    → ReadsPattern kept selector ps ws us → TextEnds kept (Some selector) ps us program
    → ReadsProgram kept method program ws
method_text pattern_reads (text_then temps reads) = a_method pattern_reads temps reads

pub method_read : {kept : Kept} {selector : Bytes} {ps : List Bytes} {ws us : List Word} {program : Program}
    → ReadsPattern kept selector ps ws us → HeaderEnds kept (top (Some selector) ps [] no_statements) us program
    → ReadsProgram kept method program ws
method_read pattern_reads ends = method_text pattern_reads (text_header ends)

-- elements, and statements
pub element_first : {kept : Kept} {n : Nest} {cs : Constants} {c : Constant} {ws us : List Word} {program : Program}
    → ReadsElement kept (depth_nest n) c ws us → ElementsEnd kept n (one_more cs c) us program
    → ElementsEnd kept n cs ws program
element_first {cs = cs} {c = c} reads (elements_then {ds = ds} others e ends) = elements_then (an_element reads others)
    (sym (constants_one_by_one cs ds c) ∙ e) ends

pub statement_first : {kept : Kept} (b : Body) {s : Statement} {more : Statements} {ws : List Word} {program : Program}
    → BodyEnds kept (with_statement b s) more ws program → BodyEnds kept b (a_statement s more) ws program
statement_first (top selector ps ts body) {s}
    {more} (text_ends e) = text_ends (sym (statements_one_by_one body more s) ∙ e)
statement_first (in_block k names ps ts body) {s}
    {more} (block_ends e ends) = block_ends (sym (statements_one_by_one body more s) ∙ e) ends

-- where a token closes the arguments before it
pub argument_closes : {kept : Kept} (k : Slot) {e : Expression} {next : Next} {ws : List Word} {program : Program}
    → SendsEnd kept (outer (wide_of k)) (held k e) (next_in k next) ws program → SendsEnd kept k e next ws program
argument_closes (outer w) ends = ends
argument_closes (binary_part w role f x) (sends_then reads (wide_ends ends)) = sends_then sends_end
    (argument_ends reads ends)

wide_closes : {kept : Kept} (w : Wide) {e : Expression} {ws : List Word} {program : Program}
    → CascadeEnds kept (seat_in w) (closed_in w e) ws program → WideEnds kept w e ws program
wide_closes (alone o) ends = messages_end ends
wide_closes (keyword_part o role f selector es) ends = keywords_end parts_end (append-nil selector) refl ends

pub seat_closes : {kept : Kept} (k : Slot) {e : Expression} {next : Next} {ws : List Word} {program : Program}
    → CascadeEnds kept (seat_of k) (closed k e) ws program → SendsEnd kept k e next ws program
seat_closes k ends = argument_closes k (sends_then sends_end (wide_ends (wide_closes (wide_of k) ends)))

pub no_more_messages : {kept : Kept} (k : Slot) {e : Expression} {next : Next} {ws : List Word} {program : Program}
    → SeatEnds kept (seat_of k) (closed k e) ws program → SendsEnd kept k e next ws program
no_more_messages k ends = seat_closes k (cascade_then cascade_end refl ends)
