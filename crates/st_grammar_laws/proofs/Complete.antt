-- What the grammar reads, the machine reads, with the same tree. So a text has at most one tree.
use Rattle.std.proofs.Common.{◌≡◌, ℕ, suc, Bool, true, false, ◌&&◌, Some, None, Result, Ok, List, [], ◌∷◌, ◌++◌, refl}
use Rattle.std.proofs.Common.{sym, ap, ap₂, ◌∙◌, true≢false, append_assoc, append-nil}
use Rattle.texts.specs.Bytes.{Bytes}
use Rattle.st_tree.specs.Trees.{Constant, no_constants, Head, name, constant, block, paren, Expression, expression}
use Rattle.st_tree.specs.Trees.{Send, send, Statement, statement, Statements, no_statements, a_statement, Sends}
use Rattle.st_tree.specs.Trees.{no_sends, a_send, Expressions, no_expressions, an_expression, append_expressions}
use Rattle.st_tree.specs.Trees.{Program}
use Rattle.st_grammar.specs.Tokens.{Kind, keyword, assign, close_bracket}
use Rattle.st_grammar.specs.Grammar.{Word, word, p7, p8, Kept, passes, Scope, scope, may_assign, may_declare}
use Rattle.st_grammar.specs.Grammar.{IsSelector, binary_is, bar_is, starts_with_keyword, Level, of_binary, full, Sort}
use Rattle.st_grammar.specs.Grammar.{unary_sort, binary_sort, keyword_sort, Next, any_message, no_unary, no_message}
use Rattle.st_grammar.specs.Grammar.{goes_on, takes_unary, holds, may_come, behind, needs_no_message, Form}
use Rattle.st_grammar.specs.Grammar.{ReadsLiteral, a_number, a_negative_number, a_character, a_string, a_symbol}
use Rattle.st_grammar.specs.Grammar.{an_array, ReadsParams, no_params, a_param, ReadsBar, no_bar, a_bar, bar_left_out}
use Rattle.st_grammar.specs.Grammar.{ReadsTempNames, temps_end, a_temp, ReadsTemps, no_temps, some_temps}
use Rattle.st_grammar.specs.Grammar.{ReadsExpression, an_assignment, messages_sent, a_cascade, ReadsHead, a_name}
use Rattle.st_grammar.specs.Grammar.{a_literal, a_paren, a_block, ReadsSends, sends_end, sends_on, ReadsMessage}
use Rattle.st_grammar.specs.Grammar.{a_unary, a_binary, a_keyword, ReadsParts, parts_end, parts_on, ReadsCascade}
use Rattle.st_grammar.specs.Grammar.{cascade_end, cascade_on, a_plain, a_return, ReadsStatements, statements_end}
use Rattle.st_grammar.specs.Grammar.{statements_on, ReadsRest, rest_end, last_period, rest_on, ReadsPatternParts}
use Rattle.st_grammar.specs.Grammar.{pattern_end, pattern_on, ReadsPattern, a_unary_pattern, a_binary_pattern}
use Rattle.st_grammar.specs.Grammar.{a_keyword_pattern, ReadsProgram, a_chunk, a_method}
use Rattle.st_grammar_laws.specs.Machine.{Role, as_message, as_cascade, Body, top, in_block, Seat, in_body, in_paren}
use Rattle.st_grammar_laws.specs.Machine.{Wide, alone, keyword_part, Slot, outer, binary_part, of_head, State}
use Rattle.st_grammar_laws.specs.Machine.{at_pattern, pattern_more, header, in_temps, begin, ended, want, named, have}
use Rattle.st_grammar_laws.specs.Machine.{after_semicolon, in_params, bare, added, has_messages, and_argument}
use Rattle.st_grammar_laws.specs.Machine.{binary_send, declared, with_statement, with_temp, scopes_body, scopes_seat}
use Rattle.st_grammar_laws.specs.Machine.{scopes_of, depth_body, depth_seat, depth_of, level_of, machine_run, start}
use Rattle.st_grammar_laws.specs.Machine.{Fault}
use Rattle.st_grammar_laws.proofs.Joins.{before, before_none, before_more, said, said_none, said_more, cascaded}
use Rattle.st_grammar_laws.proofs.Joins.{cascaded_none, cascaded_more, still_has_messages, with_statements}
use Rattle.st_grammar_laws.proofs.Joins.{with_statements_none, with_statements_more, with_temps, with_temps_none}
use Rattle.st_grammar_laws.proofs.Joins.{with_temps_more, declared_more, expressions_assoc}
use Rattle.st_lexer.proofs.Sizes.{and_left}
use Rattle.st_grammar_laws.proofs.Follows.{Follows, end_follows, period_follows, round_follows, square_follows}
use Rattle.st_grammar_laws.proofs.Follows.{to_binary, behind_binary, behind_keyword, behind_parts, behind_cascade}
use Rattle.st_grammar_laws.proofs.Follows.{none_or_more, binary_ends, keyword_ends, and_right}
use Rattle.st_grammar_laws.proofs.Begins.{starts_with_colon, named_sends, starts_expression, begin_want, header_begin}
use Rattle.st_grammar_laws.proofs.Begins.{params_header, no_colon_statements, no_colon_temps}
use Rattle.st_grammar_laws.proofs.Elements.{elements_read, opens}

-- names that are declared
params_read : {kept : Kept} {earlier ps : List Bytes} {ws us : List Word} → ReadsParams kept earlier ps ws us
    → (k : Slot) (names : List Bytes)
    → machine_run kept (in_params k names earlier) ws ≡ machine_run kept (in_params k names (earlier ++ ps)) us
params_read {kept} {earlier} {us = us} no_params k names = ap
    (λ xs. machine_run kept (in_params k names xs) us) (sym (append-nil earlier))
params_read {kept} {earlier} {us = us} (a_param {p = p} {ps = ps} may more) k names = rw may (params_read more k names
    ∙ ap (λ xs. machine_run kept (in_params k names xs) us) (append_assoc earlier (p ∷ []) ps))

bar_reads : (kept : Kept) (k : Slot) (names : List Bytes) {ps : List Bytes} {ws us : List Word} → ReadsBar ps ws us
    → starts_with_colon us ≡ false
    → machine_run kept (in_params k names ps) ws ≡ machine_run kept (header (in_block k names ps [] no_statements)) us
bar_reads kept k names {us = us} no_bar none = params_header kept k names us none
bar_reads kept k names a_bar none = refl
bar_reads kept k names bar_left_out none = refl

temp_names_read : {kept : Kept} {ps earlier ts : List Bytes} {ws us : List Word}
    → ReadsTempNames kept ps earlier ts ws us → (b : Body) → declared b ≡ ps ++ earlier
    → machine_run kept (in_temps b) ws ≡ machine_run kept (begin (with_temps b ts)) us
temp_names_read {kept} {us = us} temps_end b h = ap (λ c. machine_run kept (begin c) us) (sym (with_temps_none b))
temp_names_read {kept} {ps} {earlier} {us = us} (a_temp {ts = ts} {x = x} may more) b h =
    let here : passes kept p7 (may_declare (declared b) x) ≡ true = ap (λ xs. passes kept p7 (may_declare xs x)) h
    ∙ may in
    let next : declared (with_temp b x) ≡ ps ++ (earlier ++ x ∷ []) = declared_more b x ∙ ap (λ xs. xs ++ x ∷ []) h
    ∙ append_assoc ps earlier (x ∷ []) in
    rw here (temp_names_read more (with_temp b x) next
    ∙ ap (λ c. machine_run kept (begin c) us) (with_temps_more b x ts))

temps_read : {kept : Kept} {ps ts : List Bytes} {ws us : List Word} → ReadsTemps kept ps ts ws us → (b : Body)
    → declared b ≡ ps ++ [] → machine_run kept (header b) ws ≡ machine_run kept (begin (with_temps b ts)) us
temps_read {kept} {us = us} (no_temps none) b h = header_begin kept b us none
    ∙ ap (λ c. machine_run kept (begin c) us) (sym (with_temps_none b))
temps_read (some_temps more) b h = temp_names_read more b h

-- heads
literal_reads : {kept : Kept} {d : ℕ} {c : Constant} {ws us : List Word} → ReadsLiteral kept d c ws us
    → (k : Slot) (names : List Bytes) → depth_of k ≡ d
    → machine_run kept (want k names) ws ≡ machine_run kept (have k (bare names (constant c)) any_message) us
literal_reads a_number k names h = refl
literal_reads (a_negative_number m) k names h = rw m refl
literal_reads a_character k names h = refl
literal_reads a_string k names h = refl
literal_reads a_symbol k names h = refl
literal_reads {kept} {d} (an_array p es) k names h = rw (opens kept (depth_of k) d h p)
    (elements_read es (of_head k names) no_constants (ap suc h))

-- where the machine stands after a head
abbrev headed : Slot → List Bytes → Head → State
headed k names (name x) = named k names x
headed k names h = have k (bare names h) any_message

headed_sends : (kept : Kept) (k : Slot) (names : List Bytes) (h : Head) {ss : List Scope} {d : ℕ} {next : Next}
    {l : Level} {ms : Sends} {us vs : List Word} → ReadsSends kept ss d next l ms us vs → Follows l vs
    → level_of k ≡ l → needs_no_message h ms ≡ true
    → machine_run kept (headed k names h) us ≡ machine_run kept (have k (bare names h) any_message) us
headed_sends kept k names (name x) sends f h none = named_sends kept k names x sends f h none
headed_sends kept k names (constant c) sends f h none = refl
headed_sends kept k names (block b) sends f h none = refl
headed_sends kept k names (paren e) sends f h none = refl

a_message_is_enough : (h : Head) (m : Send) (ms : Sends) → needs_no_message h (a_send m ms) ≡ true
a_message_is_enough (name x) m ms = refl
a_message_is_enough (constant c) m ms = refl
a_message_is_enough (block b) m ms = refl
a_message_is_enough (paren e) m ms = refl

assign_reads : (kept : Kept) (k : Slot) (names : List Bytes) (x y : Bytes) (t : Bool) (ws : List Word) (ss : List Scope)
    → scopes_of k ≡ ss → level_of k ≡ full → passes kept p8 (may_assign ss x) ≡ true
    → machine_run kept (named k names x) (word assign y t ∷ ws) ≡ machine_run kept (want k (names ++ x ∷ [])) ws
assign_reads kept k names x y t ws ss hs hl may =
    let here : passes kept p8 (may_assign (scopes_of k) x) ≡ true = ap (λ s. passes kept p8 (may_assign s x)) hs
    ∙ may in
    rw (hl, here) refl

-- the first token of a binary message
binary_begins : (kept : Kept) (w : Wide) (e : Expression) (next : Next)
    {k : Kind} (x : Bytes) (t : Bool) (ws : List Word) → IsSelector k → goes_on next ≡ true
    → machine_run kept (have (outer w) e next) (word k x t ∷ ws)
    ≡ machine_run kept (want (binary_part w as_message e x) []) ws
binary_begins kept w e next x t ws binary_is more = rw more refl
binary_begins kept w e next x t ws bar_is more = rw more refl

cascade_binary_begins : (kept : Kept) (o : Seat) (e : Expression) {k : Kind} (x : Bytes) (t : Bool) (ws : List Word)
    → IsSelector k → machine_run kept (after_semicolon o e) (word k x t ∷ ws)
    ≡ machine_run kept (want (binary_part (alone o) as_cascade e x) []) ws
cascade_binary_begins kept o e x t ws binary_is = refl
cascade_binary_begins kept o e x t ws bar_is = refl

-- what stands after a message of this sort ends its last argument
abbrev EndsLast : Sort → List Word → Type 0
EndsLast unary_sort ws = Unit {0}
EndsLast binary_sort ws = Follows of_binary ws
EndsLast keyword_sort ws = Follows full ws

ends_last : (s : Sort) {kept : Kept} {ss : List Scope} {d : ℕ} {l : Level} {ms : Sends} {us vs : List Word}
    → holds l s ≡ true → ReadsSends kept ss d (behind s) l ms us vs → Follows l vs → EndsLast s us
ends_last unary_sort h rest f = tt
ends_last binary_sort h rest f = behind_binary refl rest f
ends_last keyword_sort h rest f = behind_keyword refl h rest f

-- the tokens end a body
data Ends : List Word → Type 0 where
  text_ends : Ends []
  square_ends : {x : Bytes} {t : Bool} {ws : List Word} → Ends (word close_bracket x t ∷ ws)

behind_rest : {kept : Kept} {ss : List Scope} {d : ℕ} {r : Bool} {body : Statements} {us vs : List Word}
    → ReadsRest kept ss d r body us vs → Ends vs → Follows full us
behind_rest rest_end text_ends = end_follows
behind_rest rest_end square_ends = square_follows
behind_rest last_period e = period_follows
behind_rest (rest_on more) e = period_follows

statement_ends : (kept : Kept) (b : Body) (r : Bool) (e : Expression) {ws : List Word} → Ends ws
    → machine_run kept (have (outer (alone (in_body b r))) e no_message) ws
    ≡ machine_run kept (begin (with_statements b (a_statement (statement r e) no_statements))) ws
statement_ends kept (top selector ps ts body) r e text_ends = refl
statement_ends kept (in_block k names ps ts body) r e text_ends = refl
statement_ends kept (top selector ps ts body) r e square_ends = refl
statement_ends kept (in_block k names ps ts body) r e square_ends = refl

return_ends : (kept : Kept) (b : Body) (e : Expression) {ws : List Word} → Ends ws
    → machine_run kept (ended (with_statement b (statement true e))) ws
    ≡ machine_run kept (begin (with_statements b (a_statement (statement true e) no_statements))) ws
return_ends kept (top selector ps ts body) e text_ends = refl
return_ends kept (in_block k names ps ts body) e text_ends = refl
return_ends kept (top selector ps ts body) e square_ends = refl
return_ends kept (in_block k names ps ts body) e square_ends = refl

same_scopes : (b : Body) (s : Statement) → scopes_body (with_statement b s) ≡ scopes_body b
same_scopes (top selector ps ts body) s = refl
same_scopes (in_block k names ps ts body) s = refl

same_depth : (b : Body) (s : Statement) → depth_body (with_statement b s) ≡ depth_body b
same_depth (top selector ps ts body) s = refl
same_depth (in_block k names ps ts body) s = refl

mutual
  pub expression_reads : {kept : Kept} {ss : List Scope} {d : ℕ} {l : Level} {e : Expression} {ws us : List Word}
      → ReadsExpression kept ss d l e ws us → (k : Slot) (names : List Bytes) → scopes_of k ≡ ss → depth_of k ≡ d
      → level_of k ≡ l
      → Follows l us → machine_run kept (want k names) ws ≡ machine_run kept (have k (before names e) no_message) us
  expression_reads {kept} {ss} {us = us} (an_assignment {x = x} {y = y} {u = u} {names = others} {h = h} {ms = ms}
      {cs = cs} {ws = ws} may e) k names hs hd hl f =
      assign_reads kept k names x y u ws ss hs hl may ∙ expression_reads e k (names ++ x ∷ []) hs hd hl f
      ∙ ap (λ e. machine_run kept (have k e no_message) us) (before_more names x others h ms cs)
  expression_reads {kept} {us = us} (messages_sent {h = h} {ms = ms} head none sends) k names hs hd hl f =
      head_reads head k names hs hd ∙ headed_sends kept k names h sends f hl none
      ∙ sends_read sends k (bare names h) hs hd hl f
      ∙ ap (λ xs. machine_run kept (have k (expression xs h ms no_sends) no_message) us) (sym (append-nil names))
  expression_reads {kept} {us = us} (a_cascade {h = h} {m = m} {n = n} {ms = ms}
      {cs = cs} head sends rest) k names hs hd hl f =
      head_reads head k names hs hd
      ∙ headed_sends kept k names h sends (behind_cascade rest f) hl (a_message_is_enough h m ms)
      ∙ sends_read sends k (bare names h) hs hd hl (behind_cascade rest f)
      ∙ cascade_reads rest k (expression names h (a_send m ms) no_sends) refl hs hd hl f
      ∙ ap (λ xs. machine_run kept (have k (expression xs h (a_send m ms) (a_send n cs)) no_message) us)
      (sym (append-nil names))

  head_reads : {kept : Kept} {ss : List Scope} {d : ℕ} {h : Head} {ws us : List Word} → ReadsHead kept ss d h ws us
      → (k : Slot) (names : List Bytes) → scopes_of k ≡ ss → depth_of k ≡ d
      → machine_run kept (want k names) ws ≡ machine_run kept (headed k names h) us
  head_reads a_name k names hs hd = refl
  head_reads (a_literal l) k names hs hd = literal_reads l k names hd
  head_reads {kept} {ss} {d} {us = us} (a_paren {e = e} p inner) k names hs hd =
      rw (opens kept (depth_of k) d hd p)
      (expression_reads inner (outer (alone (in_paren k names))) [] hs (ap suc hd) refl round_follows
      ∙ ap (λ e. machine_run kept (have k (bare names (paren e)) any_message) us) (before_none e))
  head_reads {kept} {ss} {d} (a_block {ps = ps} {ts = ts} p params stroke temps body) k names hs hd =
      rw (opens kept (depth_of k) d hd p) (params_read params k names
      ∙ bar_reads kept k names stroke (no_colon_temps temps (no_colon_statements body refl))
      ∙ temps_read temps (in_block k names ps [] no_statements) refl
      ∙ statements_read body (in_block k names ps ts no_statements) (ap (λ ss. scope ps ts ∷ ss) hs)
      (ap suc hd) square_ends)

  sends_read : {kept : Kept} {ss : List Scope} {d : ℕ} {next : Next} {l : Level} {ms : Sends} {us vs : List Word}
      → ReadsSends kept ss d next l ms us vs → (k : Slot) (e : Expression) → scopes_of k ≡ ss → depth_of k ≡ d
      → level_of k ≡ l
      → Follows l vs → machine_run kept (have k e next) us ≡ machine_run kept (have k (said e ms) no_message) vs
  sends_read {kept} {next = next} {us = us} sends_end k e hs hd hl f = none_or_more kept k e next no_message hl f
      ∙ ap (λ e. machine_run kept (have k e no_message) us) (sym (said_none e))
  sends_read {kept} {next = next} {l = l}
      {vs = vs} (sends_on {s = s} {m = m} {ms = ms} may message rest) k e hs hd hl f =
      message_reads message k e next hs hd hl may (ends_last s (and_left (holds l s) (may_come next s) may) rest f)
      ∙ sends_read rest k (added as_message e m) hs hd hl f
      ∙ ap (λ e. machine_run kept (have k e no_message) vs) (said_more e m ms)

  message_reads : {kept : Kept} {ss : List Scope} {d : ℕ} {s : Sort} {m : Send} {ws us : List Word}
      → ReadsMessage kept ss d s m ws us → (k : Slot) (e : Expression) (next : Next) {l : Level} → scopes_of k ≡ ss
      → depth_of k ≡ d → level_of k ≡ l
      → (holds l s && may_come next s) ≡ true → EndsLast s us
      → machine_run kept (have k e next) ws ≡ machine_run kept (have k (added as_message e m) (behind s)) us
  message_reads a_unary k e next
      {l = l} hs hd hl may f = let takes : takes_unary next
      ≡ true = and_right (holds l unary_sort) (takes_unary next) may in rw takes refl
  message_reads {kept} {us = us} (a_binary {x = x} {t = t} {e = a} {ws = ws} s argument) (outer w) e next
      {l = l} hs hd hl may f =
      binary_begins kept w e next x t ws s (and_right (holds l binary_sort) (goes_on next) may)
      ∙ expression_reads argument (binary_part w as_message e x) [] hs hd refl f
      ∙ binary_ends kept w as_message e x (before [] a) no_message f
      ∙ ap (λ a. machine_run kept (have (outer w) (added as_message e (binary_send x a)) no_unary) us) (before_none a)
  message_reads (a_binary s argument) (binary_part w role g y) e next
      {l = l} hs hd hl may f = absurd
      (true≢false (sym (ap (λ l. holds l binary_sort) hl ∙ and_left (holds l binary_sort) (goes_on next) may)))
  message_reads {kept} {us = us} (a_keyword {x = x} {e = a} {us = vs} argument parts) (outer (alone o)) e next
      {l = l} hs hd hl may f =
      let more : goes_on next ≡ true = and_right (holds l keyword_sort) (goes_on next) may in
      rw more (expression_reads argument (outer (keyword_part o as_message e x no_expressions)) [] hs hd refl
      (behind_parts parts f)
      ∙ ap (λ a. machine_run kept (have (outer (keyword_part o as_message e x no_expressions)) a no_message) vs)
      (before_none a) ∙ parts_read parts o as_message e x no_expressions a hs hd f)
  message_reads (a_keyword argument parts) (outer (keyword_part o role g y args)) e next
      {l = l} hs hd hl may f = absurd
      (true≢false (sym (ap (λ l. holds l keyword_sort) hl ∙ and_left (holds l keyword_sort) (goes_on next) may)))
  message_reads (a_keyword argument parts) (binary_part w role g y) e next
      {l = l} hs hd hl may f = absurd
      (true≢false (sym (ap (λ l. holds l keyword_sort) hl ∙ and_left (holds l keyword_sort) (goes_on next) may)))

  parts_read : {kept : Kept} {ss : List Scope} {d : ℕ} {selector : Bytes} {es : Expressions} {us vs : List Word}
      → ReadsParts kept ss d selector es us vs
      → (o : Seat) (role : Role) (g : Expression) (s : Bytes) (args : Expressions) (a : Expression)
      → scopes_seat o ≡ ss → depth_seat o ≡ d → Follows full vs
      → machine_run kept (have (outer (keyword_part o role g s args)) a no_message) us
      ≡ machine_run kept (have (outer (alone o))
      (added role g (send (s ++ selector) (append_expressions args (an_expression a es)))) no_message) vs
  parts_read {kept} {us = us} parts_end o role g s args a hs hd f =
      keyword_ends kept o role g s args a no_message f
      ∙ ap (λ z. machine_run kept (have (outer (alone o)) (added role g (send z (and_argument args a))) no_message) us)
      (sym (append-nil s))
  parts_read {kept} {vs = vs} (parts_on {x = x} {selector = selector} {e = b} {es = es}
      {us = us} argument parts) o role g s args a hs hd f =
      expression_reads argument (outer (keyword_part o role g (s ++ x) (and_argument args a))) [] hs hd refl
      (behind_parts parts f)
      ∙ ap (λ b. machine_run kept (have (outer (keyword_part o role g (s ++ x) (and_argument args a))) b no_message) us)
      (before_none b) ∙ parts_read parts o role g (s ++ x) (and_argument args a) b hs hd f
      ∙ ap₂ (λ z zs. machine_run kept (have (outer (alone o)) (added role g (send z zs)) no_message) vs)
      (append_assoc s x selector) (expressions_assoc args (an_expression a no_expressions) (an_expression b es))

  cascade_reads : {kept : Kept} {ss : List Scope} {d : ℕ} {cs : Sends} {us vs : List Word}
      → ReadsCascade kept ss d cs us vs → (k : Slot) (e : Expression) → has_messages e ≡ true → scopes_of k ≡ ss
      → depth_of k ≡ d → level_of k ≡ full
      → Follows full vs → machine_run kept (have k e no_message) us
      ≡ machine_run kept (have k (cascaded e cs) no_message) vs
  cascade_reads {kept} {us = us} cascade_end k e some hs hd hl f = ap
      (λ e. machine_run kept (have k e no_message) us) (sym (cascaded_none e))
  cascade_reads {kept} {vs = vs} (cascade_on {m = m} {ms = ms} message rest) (outer (alone o)) e some hs hd hl f =
      rw some (cascade_message_reads message o e hs hd (behind_cascade rest f)
      ∙ cascade_reads rest (outer (alone o)) (added as_cascade e m) (still_has_messages e m some) hs hd hl f
      ∙ ap (λ e. machine_run kept (have (outer (alone o)) e no_message) vs) (cascaded_more e m ms))
  cascade_reads (cascade_on message rest) (outer (keyword_part o role g y args)) e some hs hd hl f = absurd
      (true≢false (sym (ap (λ l. holds l keyword_sort) hl)))
  cascade_reads (cascade_on message rest) (binary_part w role g y) e some hs hd hl f = absurd
      (true≢false (sym (ap (λ l. holds l keyword_sort) hl)))

  cascade_message_reads : {kept : Kept} {ss : List Scope} {d : ℕ} {s : Sort} {m : Send} {ws us : List Word}
      → ReadsMessage kept ss d s m ws us → (o : Seat) (e : Expression) → scopes_seat o ≡ ss → depth_seat o ≡ d
      → Follows full us → machine_run kept (after_semicolon o e) ws
      ≡ machine_run kept (have (outer (alone o)) (added as_cascade e m) no_message) us
  cascade_message_reads a_unary o e hs hd f = refl
  cascade_message_reads {kept} {us = us} (a_binary {x = x} {t = t} {e = a} {ws = ws} s argument) o e hs hd f =
      cascade_binary_begins kept o e x t ws s
      ∙ expression_reads argument (binary_part (alone o) as_cascade e x) [] hs hd refl (to_binary f)
      ∙ binary_ends kept (alone o) as_cascade e x (before [] a) no_message (to_binary f)
      ∙ ap (λ a. machine_run kept (have (outer (alone o)) (added as_cascade e (binary_send x a)) no_message) us)
      (before_none a)
  cascade_message_reads {kept} {us = us} (a_keyword {x = x} {e = a} {us = vs} argument parts) o e hs hd f =
      expression_reads argument (outer (keyword_part o as_cascade e x no_expressions)) [] hs hd refl
      (behind_parts parts f)
      ∙ ap (λ a. machine_run kept (have (outer (keyword_part o as_cascade e x no_expressions)) a no_message) vs)
      (before_none a) ∙ parts_read parts o as_cascade e x no_expressions a hs hd f

  statements_read : {kept : Kept} {ss : List Scope} {d : ℕ} {body : Statements} {ws us : List Word}
      → ReadsStatements kept ss d body ws us → (b : Body) → scopes_body b ≡ ss → depth_body b ≡ d
      → Ends us → machine_run kept (begin b) ws ≡ machine_run kept (begin (with_statements b body)) us
  statements_read {kept} {us = us} statements_end b hs hd f = ap
      (λ b. machine_run kept (begin b) us) (sym (with_statements_none b))
  statements_read {kept} (statements_on {us = us} (a_plain {e = e} inner) rest) b hs hd f =
      begin_want kept b (starts_expression inner)
      ∙ expression_reads inner (outer (alone (in_body b false))) [] hs hd refl (behind_rest rest f)
      ∙ ap (λ e. machine_run kept (have (outer (alone (in_body b false))) e no_message) us) (before_none e)
      ∙ rest_reads rest b e hs hd f
  statements_read {kept} (statements_on {us = us} (a_return {e = e} inner) rest) b hs hd f =
      expression_reads inner (outer (alone (in_body b true))) [] hs hd refl (behind_rest rest f)
      ∙ ap (λ e. machine_run kept (have (outer (alone (in_body b true))) e no_message) us) (before_none e)
      ∙ rest_reads rest b e hs hd f

  rest_reads : {kept : Kept} {ss : List Scope} {d : ℕ} {r : Bool} {body : Statements} {us vs : List Word}
      → ReadsRest kept ss d r body us vs → (b : Body) (e : Expression) → scopes_body b ≡ ss → depth_body b ≡ d
      → Ends vs → machine_run kept (have (outer (alone (in_body b r))) e no_message) us
      ≡ machine_run kept (begin (with_statements b (a_statement (statement r e) body))) vs
  rest_reads {kept} {r = r} rest_end b e hs hd f = statement_ends kept b r e f
  rest_reads {kept} last_period b e hs hd f = return_ends kept b e f
  rest_reads {kept} {vs = vs} (rest_on {body = body} more) b e hs hd f =
      statements_read more (with_statement b (statement false e)) (same_scopes b (statement false e) ∙ hs)
      (same_depth b (statement false e) ∙ hd) f
      ∙ ap (λ b. machine_run kept (begin b) vs) (with_statements_more b (statement false e) body)

-- patterns
pattern_ends : (kept : Kept) (selector : Bytes) (ps : List Bytes) (ws : List Word) → starts_with_keyword ws ≡ false
    → machine_run kept (pattern_more selector ps) ws
    ≡ machine_run kept (header (top (Some selector) ps [] no_statements)) ws
pattern_ends kept selector ps [] none = refl
pattern_ends kept selector ps (word keyword x t ∷ ws) none = absurd (true≢false none)
pattern_ends kept selector ps (word kind x t ∷ ws) none = refl

pattern_parts_read : {kept : Kept} {earlier ps : List Bytes} {selector : Bytes} {us vs : List Word}
    → ReadsPatternParts kept earlier selector ps us vs → (s : Bytes)
    → machine_run kept (pattern_more s earlier) us
    ≡ machine_run kept (header (top (Some (s ++ selector)) (earlier ++ ps) [] no_statements)) vs
pattern_parts_read {kept} {earlier} {us = us} (pattern_end none) s =
    pattern_ends kept s earlier us none
    ∙ ap₂ (λ z ps. machine_run kept (header (top (Some z) ps [] no_statements)) us) (sym (append-nil s))
    (sym (append-nil earlier))
pattern_parts_read {kept} {earlier} {vs = vs} (pattern_on {ps = ps} {x = x} {selector = selector} {p = p} may more) s =
    rw may (pattern_parts_read more (s ++ x)
    ∙ ap₂ (λ z ps. machine_run kept (header (top (Some z) ps [] no_statements)) vs) (append_assoc s x selector)
    (append_assoc earlier (p ∷ []) ps))

pattern_reads : {kept : Kept} {selector : Bytes} {ps : List Bytes} {ws us : List Word}
    → ReadsPattern kept selector ps ws us
    → machine_run kept at_pattern ws ≡ machine_run kept (header (top (Some selector) ps [] no_statements)) us
pattern_reads a_unary_pattern = refl
pattern_reads (a_binary_pattern binary_is may) = rw may refl
pattern_reads (a_binary_pattern bar_is may) = rw may refl
pattern_reads (a_keyword_pattern {x = x} may more) = rw may (pattern_parts_read more x)

-- The machine reads each tree that the grammar reads.
pub complete : {kept : Kept} {form : Form} {program : Program} {ws : List Word} → ReadsProgram kept form program ws
    → machine_run kept (start form) ws ≡ Ok program
complete (a_chunk {ts = ts} temps body) = temps_read temps (top None [] [] no_statements) refl
    ∙ statements_read body (top None [] ts no_statements) refl refl text_ends
complete (a_method {selector = selector} {ps = ps} {ts = ts} pattern temps body) =
    pattern_reads pattern ∙ temps_read temps (top (Some selector) ps [] no_statements) refl
    ∙ statements_read body (top (Some selector) ps ts no_statements) refl refl text_ends

same_tree : (a b : Program) (answer : Result Program Fault) → answer ≡ Ok a → answer ≡ Ok b → a ≡ b
same_tree a b answer e f = cc

-- Tokens have at most one tree.
pub only_one : {kept : Kept} {form : Form} {a b : Program} {ws : List Word} → ReadsProgram kept form a ws
    → ReadsProgram kept form b ws → a ≡ b
only_one {kept} {form} {a} {b} {ws} r s = same_tree a b (machine_run kept (start form) ws) (complete r) (complete s)
