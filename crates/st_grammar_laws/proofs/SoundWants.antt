-- What still has to be read from each state of the machine, so that the whole text is of the grammar.
use Rattle.std.proofs.Common.{◌≡◌, Bool, true, false, Option, Some, List, [], ◌∷◌, ◌++◌}
use Rattle.texts.specs.Bytes.{Bytes}
use Rattle.st_tree.specs.Trees.{array, Constants, append_constants, sym, Head, constant, block, paren, closure}
use Rattle.st_tree.specs.Trees.{Expression, expression, Send, send, statement, Statements, no_statements, a_statement}
use Rattle.st_tree.specs.Trees.{append_statements, Sends, no_sends, a_send, Expressions, an_expression}
use Rattle.st_tree.specs.Trees.{append_expressions, Program}
use Rattle.st_grammar.specs.Tokens.{Kind, identifier, binary, bar, colon, close_paren, close_bracket}
use Rattle.st_grammar.specs.Grammar.{Word, word, p7, Kept, passes, may_declare, IsSelector, is_minus, starts_with_bar}
use Rattle.st_grammar.specs.Grammar.{Sort, Next, any_message, ReadsKeywordRun, ReadsElements, ReadsParams, ReadsBar}
use Rattle.st_grammar.specs.Grammar.{ReadsTempNames, ReadsExpression, ReadsSends, ReadsMessage, ReadsParts}
use Rattle.st_grammar.specs.Grammar.{ReadsCascade, ReadsStatements, ReadsRest, ReadsPatternParts, method, ReadsProgram}
use Rattle.st_grammar_laws.specs.Machine.{Role, as_message, as_cascade, Body, top, in_block, Seat, in_body, in_paren}
use Rattle.st_grammar_laws.specs.Machine.{Wide, alone, keyword_part, Slot, outer, binary_part, Nest, of_head, in_array}
use Rattle.st_grammar_laws.specs.Machine.{State, at_pattern, pattern_operator, pattern_keyword, pattern_more, header}
use Rattle.st_grammar_laws.specs.Machine.{in_temps, begin, ended, want, named, minus, have, after_semicolon, in_params}
use Rattle.st_grammar_laws.specs.Machine.{param_wanted, in_elements, element_minus, element_run, Verdict, goes, breaks}
use Rattle.st_grammar_laws.specs.Machine.{stuck, bare, added, has_messages, one_more, binary_send, with_temp}
use Rattle.st_grammar_laws.specs.Machine.{scopes_body, scopes_seat, scopes_wide, scopes_of, depth_body, depth_seat}
use Rattle.st_grammar_laws.specs.Machine.{depth_wide, depth_of, depth_nest, level_of, behind_role}

-- the expression with these messages more
abbrev pub with_sends : Role → Expression → Sends → Expression
with_sends role e no_sends = e
with_sends role e (a_send m ms) = with_sends role (added role e m) ms

-- a cascade follows a message
abbrev pub may_follow : Expression → Sends → Bool
may_follow e no_sends = true
may_follow e (a_send m ms) = has_messages e

abbrev pub params_of : Body → List Bytes
params_of (top selector ps ts body) = ps
params_of (in_block k names ps ts body) = ps

abbrev pub temps_of : Body → List Bytes
temps_of (top selector ps ts body) = ts
temps_of (in_block k names ps ts body) = ts

-- the body with these temporaries more
abbrev pub with_temps : Body → List Bytes → Body
with_temps b [] = b
with_temps b (x ∷ xs) = with_temps (with_temp b x) xs

-- What has to follow where a part has ended.
mutual
  -- The body ends with these statements more.
  pub data BodyEnds (kept : Kept) : Body → Statements → List Word → Program → Type 0 where
    text_ends : {selector : Option Bytes} {ps ts : List Bytes} {body more whole : Statements}
        → append_statements body more ≡ whole
        → BodyEnds kept (top selector ps ts body) more [] (record
        { selector = selector; params = ps; temps = ts; body = whole })
    block_ends : {k : Slot} {names ps ts : List Bytes} {body more whole : Statements} {x : Bytes} {t : Bool}
        {ws : List Word} {program : Program} → append_statements body more ≡ whole
        → SendsEnd kept k (bare names (block (closure ps ts whole))) any_message ws program
        → BodyEnds kept (in_block k names ps ts body) more (word close_bracket x t ∷ ws) program

  -- The whole expression in this seat ends.
  pub data SeatEnds (kept : Kept) : Seat → Expression → List Word → Program → Type 0 where
    statement_ends : {b : Body} {r : Bool} {e : Expression} {rest : Statements} {ws us : List Word} {program : Program}
        → ReadsRest kept (scopes_body b) (depth_body b) r rest ws us
        → BodyEnds kept b (a_statement (statement r e) rest) us program → SeatEnds kept (in_body b r) e ws program
    paren_ends : {k : Slot} {names : List Bytes} {e : Expression} {x : Bytes} {t : Bool} {ws : List Word}
        {program : Program} → SendsEnd kept k (bare names (paren e)) any_message ws program
        → SeatEnds kept (in_paren k names) e (word close_paren x t ∷ ws) program

  -- The messages of the expression in this seat end, and a cascade may follow.
  pub data CascadeEnds (kept : Kept) : Seat → Expression → List Word → Program → Type 0 where
    cascade_then : {o : Seat} {e : Expression} {cs : Sends} {ws us : List Word} {program : Program}
        → ReadsCascade kept (scopes_seat o) (depth_seat o) cs ws us → may_follow e cs ≡ true
        → SeatEnds kept o (with_sends as_cascade e cs) us program → CascadeEnds kept o e ws program

  -- The binary messages of an expression end.
  pub data WideEnds (kept : Kept) : Wide → Expression → List Word → Program → Type 0 where
    messages_end : {o : Seat} {e : Expression} {ws : List Word} {program : Program} → CascadeEnds kept o e ws program
        → WideEnds kept (alone o) e ws program
    keywords_end : {o : Seat} {role : Role} {f e : Expression} {selector rest whole : Bytes} {es fs all : Expressions}
        {ws us : List Word} {program : Program}
        → ReadsParts kept (scopes_seat o) (depth_seat o) rest fs ws us → selector ++ rest ≡ whole
        → append_expressions es (an_expression e fs) ≡ all
        → CascadeEnds kept o (added role f (send whole all)) us program
        → WideEnds kept (keyword_part o role f selector es) e ws program

  -- The messages of an expression end that may stand in this slot.
  pub data SlotEnds (kept : Kept) : Slot → Expression → List Word → Program → Type 0 where
    wide_ends : {w : Wide} {e : Expression} {ws : List Word} {program : Program} → WideEnds kept w e ws program
        → SlotEnds kept (outer w) e ws program
    argument_ends : {w : Wide} {role : Role} {f e : Expression} {x : Bytes} {ms : Sends} {ws us : List Word}
        {program : Program}
        → ReadsSends kept (scopes_wide w) (depth_wide w) (behind_role role) (level_of (outer w)) ms ws us
        → WideEnds kept w (with_sends as_message (added role f (binary_send x e)) ms) us program
        → SlotEnds kept (binary_part w role f x) e ws program

  -- More messages may follow the expression.
  pub data SendsEnd (kept : Kept) : Slot → Expression → Next → List Word → Program → Type 0 where
    sends_then : {k : Slot} {e : Expression} {next : Next} {ms : Sends} {ws us : List Word} {program : Program}
        → ReadsSends kept (scopes_of k) (depth_of k) next (level_of k) ms ws us
        → SlotEnds kept k (with_sends as_message e ms) us program → SendsEnd kept k e next ws program

-- At least one message follows the expression.
pub data SendsGoOn (kept : Kept) : Slot → Expression → Next → List Word → Program → Type 0 where
  goes_then : {k : Slot} {e : Expression} {next : Next} {m : Send} {ms : Sends} {ws us : List Word} {program : Program}
      → ReadsSends kept (scopes_of k) (depth_of k) next (level_of k) (a_send m ms) ws us
      → SlotEnds kept k (with_sends as_message (added as_message e m) ms) us program
      → SendsGoOn kept k e next ws program

-- An expression in this slot ends, with its cascade where it may have one.
abbrev pub ExpressionEnds : Kept → Slot → Expression → List Word → Program → Type 0
ExpressionEnds kept (outer (alone o)) e ws program = SeatEnds kept o e ws program
ExpressionEnds kept (outer (keyword_part o role f selector es)) e ws program = SlotEnds kept
    (outer (keyword_part o role f selector es)) e ws program
ExpressionEnds kept (binary_part w role f x) e ws program = SlotEnds kept (binary_part w role f x) e ws program

-- An expression is to follow in this slot, after assignments to these names.
pub data WantEnds (kept : Kept) : Slot → List Bytes → List Word → Program → Type 0 where
  wanted : {k : Slot} {names more all : List Bytes} {h : Head} {ms cs : Sends} {ws us : List Word} {program : Program}
      → ReadsExpression kept (scopes_of k) (depth_of k) (level_of k) (expression more h ms cs) ws us
      → names ++ more ≡ all
      → ExpressionEnds kept k (expression all h ms cs) us program → WantEnds kept k names ws program

-- A message of a cascade is to follow.
pub data SemicolonEnds (kept : Kept) : Seat → Expression → List Word → Program → Type 0 where
  message_then : {o : Seat} {e : Expression} {s : Sort} {m : Send} {ws us : List Word} {program : Program}
      → ReadsMessage kept (scopes_seat o) (depth_seat o) s m ws us
      → CascadeEnds kept o (added as_cascade e m) us program → SemicolonEnds kept o e ws program

-- Statements are to follow, temporaries, or both.
pub data BeginEnds (kept : Kept) : Body → List Word → Program → Type 0 where
  statements_then : {b : Body} {more : Statements} {ws us : List Word} {program : Program}
      → ReadsStatements kept (scopes_body b) (depth_body b) more ws us
      → BodyEnds kept b more us program → BeginEnds kept b ws program

pub data TempsEnd (kept : Kept) : Body → List Word → Program → Type 0 where
  temps_then : {b : Body} {ts : List Bytes} {ws us : List Word} {program : Program}
      → ReadsTempNames kept (params_of b) (temps_of b) ts ws us
      → BeginEnds kept (with_temps b ts) us program → TempsEnd kept b ws program

pub data HeaderEnds (kept : Kept) : Body → List Word → Program → Type 0 where
  without_temps : {b : Body} {ws : List Word} {program : Program} → starts_with_bar ws ≡ false
      → BeginEnds kept b ws program → HeaderEnds kept b ws program
  behind_bar : {b : Body} {x : Bytes} {t : Bool} {ws : List Word} {program : Program} → TempsEnd kept b ws program
      → HeaderEnds kept b (word bar x t ∷ ws) program

-- Parameters of a block may follow these.
pub data ParamsEnd (kept : Kept) : Slot → (names params : List Bytes) → List Word → Program → Type 0 where
  params_then : {k : Slot} {names ps qs all : List Bytes} {ws us vs : List Word} {program : Program}
      → ReadsParams kept ps qs ws us → ps ++ qs ≡ all → ReadsBar all us vs
      → HeaderEnds kept (in_block k names all [] no_statements) vs program → ParamsEnd kept k names ps ws program

-- Elements of a literal array may follow these.
mutual
  pub data ElementsEnd (kept : Kept) : Nest → Constants → List Word → Program → Type 0 where
    elements_then : {n : Nest} {cs ds all : Constants} {ws us : List Word} {program : Program}
        → ReadsElements kept (depth_nest n) ds ws us → append_constants cs ds ≡ all
        → NestEnds kept n all us program → ElementsEnd kept n cs ws program

  pub data NestEnds (kept : Kept) : Nest → Constants → List Word → Program → Type 0 where
    literal_ends : {k : Slot} {names : List Bytes} {cs : Constants} {x : Bytes} {t : Bool} {ws : List Word}
        {program : Program}
        → SendsEnd kept k (bare names (constant (array cs))) any_message ws program
        → NestEnds kept (of_head k names) cs (word close_paren x t ∷ ws) program
    element_ends : {n : Nest} {cs ds : Constants} {x : Bytes} {t : Bool} {ws : List Word} {program : Program}
        → ElementsEnd kept n (one_more ds (array cs)) ws program
        → NestEnds kept (in_array n ds) cs (word close_paren x t ∷ ws) program

-- Keywords may follow these.
pub data RunEnds (kept : Kept) : Nest → Constants → Bytes → List Word → Program → Type 0 where
  run_then : {n : Nest} {cs : Constants} {run rest whole : Bytes} {ws us : List Word} {program : Program}
      → ReadsKeywordRun rest ws us → run ++ rest ≡ whole
      → ElementsEnd kept n (one_more cs (sym whole)) us program → RunEnds kept n cs run ws program

-- Keywords of a pattern may follow these.
pub data PatternEnds (kept : Kept) : (selector : Bytes) → (params : List Bytes) → List Word → Program → Type 0 where
  pattern_then : {selector rest whole : Bytes} {ps qs all : List Bytes} {ws us : List Word} {program : Program}
      → ReadsPatternParts kept ps rest qs ws us → selector ++ rest ≡ whole → ps ++ qs ≡ all
      → HeaderEnds kept (top (Some whole) all [] no_statements) us program → PatternEnds kept selector ps ws program

-- A parameter of a pattern is to follow.
pub data ParamEnds (kept : Kept) : (selector : Bytes) → (params : List Bytes) → List Word → Program → Type 0 where
  param_then : {selector x : Bytes} {ps : List Bytes} {t : Bool} {ws : List Word} {program : Program}
      → passes kept p7 (may_declare ps x) ≡ true
      → PatternEnds kept selector (ps ++ x ∷ []) ws program
      → ParamEnds kept selector ps (word identifier x t ∷ ws) program

-- These words make the text whole from this state on, with this tree.
abbrev pub Will : Kept → State → List Word → Program → Type 0
Will kept at_pattern ws program = ReadsProgram kept method program ws
Will kept (pattern_operator selector) ws program = (k : Kind) (t : Bool) → IsSelector k
    → ReadsProgram kept method program (word k selector t ∷ ws)
Will kept (pattern_keyword selector ps) ws program = ParamEnds kept selector ps ws program
Will kept (pattern_more selector ps) ws program = PatternEnds kept selector ps ws program
Will kept (header b) ws program = HeaderEnds kept b ws program
Will kept (in_temps b) ws program = TempsEnd kept b ws program
Will kept (begin b) ws program = BeginEnds kept b ws program
Will kept (ended b) ws program = BodyEnds kept b no_statements ws program
Will kept (want k names) ws program = WantEnds kept k names ws program
Will kept (named k names y) ws program = (t : Bool) → WantEnds kept k names (word identifier y t ∷ ws) program
Will kept (minus k names) ws program = (m : Bytes) (t : Bool) → is_minus m ≡ true
    → WantEnds kept k names (word binary m t ∷ ws) program
Will kept (have k e next) ws program = SendsEnd kept k e next ws program
Will kept (after_semicolon o e) ws program = SemicolonEnds kept o e ws program
Will kept (in_params k names ps) ws program = ParamsEnd kept k names ps ws program
Will kept (param_wanted k names ps) ws program = (x : Bytes) (t : Bool)
    → ParamsEnd kept k names ps (word colon x t ∷ ws) program
Will kept (in_elements n cs) ws program = ElementsEnd kept n cs ws program
Will kept (element_minus n cs m) ws program = (t : Bool) → is_minus m ≡ true
    → ElementsEnd kept n cs (word binary m t ∷ ws) program
Will kept (element_run n cs run) ws program = RunEnds kept n cs run ws program

abbrev pub Wills : Kept → Verdict → List Word → Program → Type 0
Wills kept (goes s) ws program = Will kept s ws program
Wills kept (breaks r) ws program = ⊥
Wills kept stuck ws program = ⊥
