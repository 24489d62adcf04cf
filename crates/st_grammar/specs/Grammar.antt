-- The grammar of chunks and methods: which tree the tokens of a text stand for.
--
-- Each family below has a constructor for each form that its part of the grammar may have.
-- `ReadsX .. x before after` says that the tokens `before` begin with an x, and that `after` are
-- the tokens after it. Letters: ws, us, vs, xs and ys are tokens, each list what is left of the one
-- before; ss are the scopes around and d the depth; x and y are a token's bytes, and t and u
-- whether it touches the token before it.
use Rattle.std.specs.Prelude.{◌≡◌, ℕ, suc, pos, neg_ℤ, Bool, true, false, cond, not, ◌&&◌, ◌||◌}
use Rattle.std.specs.Prelude.{◌==◌, nat_lt, bytes_eq, codes, Some, None, List, [], ◌∷◌, ◌++◌}
use Rattle.std.specs.List.{list_any}
use Rattle.texts.specs.Bytes.{Bytes}
use Rattle.st_grammar.specs.declared.limits.TheConstants.{DEPTH_LIMIT}
use Rattle.st_tree.specs.Trees.{Constant, int, char, str, sym, nothing, yes, no, array, Constants}
use Rattle.st_tree.specs.Trees.{no_constants, a_constant, Head, name, constant, block, paren}
use Rattle.st_tree.specs.Trees.{closure, Expression, expression, Send, send, Statement, statement}
use Rattle.st_tree.specs.Trees.{Statements, no_statements, a_statement, Sends, no_sends, a_send}
use Rattle.st_tree.specs.Trees.{Expressions, no_expressions, an_expression, Program}
use Rattle.st_grammar.specs.Tokens.{Kind, identifier, keyword, number, character, string, symbol}
use Rattle.st_grammar.specs.Tokens.{binary, bar, assign, colon, caret, semicolon, period}
use Rattle.st_grammar.specs.Tokens.{open_paren, close_paren, open_bracket, close_bracket}
use Rattle.st_grammar.specs.Tokens.{open_array, Token, text_of, number_value, character_value, string_value}
use Rattle.st_grammar.specs.Tokens.{symbol_value}

-- A token as the grammar sees it: its kind, its bytes, and whether it touches the token before it,
-- with no gap between.
pub data Word : Type 0 where
  word : (kind : Kind) (text : Bytes) (touches : Bool) → Word

-- what the grammar sees of the tokens of a text, where the token before them ended at `at`
abbrev pub words_after : (at : ℕ) → Bytes → List Token → List Word
words_after at text [] = []
words_after at text (t ∷ ts) = word t.kind (text_of text t) (t.from == at)
    ∷ words_after t.to text ts

abbrev pub words_of : Bytes → List Token → List Word
words_of text ts = words_after 0 text ts

-- The rules that a token breaks which can't stand where it does.
pub data GrammarRule : Type 0 where
  -- P4: another token where an expression, a pattern, a message or the end is expected
  p4 : GrammarRule
  -- P5: a missing `]`
  p5 : GrammarRule
  -- P6: a missing `)`
  p6 : GrammarRule
  -- P7: a name twice among the parameters and temporaries of one method or block, or a
  -- pseudo-variable declared
  p7 : GrammarRule
  -- P8: an assignment to a pseudo-variable or a parameter
  p8 : GrammarRule
  -- P9: blocks, parentheses and literal arrays nested too deep
  p9 : GrammarRule

-- Which of the rules P7, P8 and P9 a text has to keep. The grammar without one of them shows what
-- that rule alone forbids.
abbrev pub Kept : Type 0
Kept = GrammarRule → Bool

abbrev pub passes : Kept → GrammarRule → Bool → Bool
passes kept r test = cond (kept r) test true

-- The names that can be neither declared nor assigned to.
abbrev pub is_pseudo_variable : Bytes → Bool
is_pseudo_variable x = list_any (bytes_eq x)
    (codes "self" ∷ codes "super" ∷ codes "nil" ∷ codes "true" ∷ codes "false" ∷ [])

abbrev pub is_super : Bytes → Bool
is_super x = bytes_eq x (codes "super")

-- the names that a method or block declares
pub record Scope : Type 0 where
  pub params : List Bytes
  pub temps : List Bytes

abbrev pub scope : (params temps : List Bytes) → Scope
scope ps ts = record { params = ps; temps = ts }

abbrev pub is_among : List Bytes → Bytes → Bool
is_among names x = list_any (bytes_eq x) names

-- The name is a parameter, in the innermost of the scopes that declares it.
abbrev pub is_parameter : List Scope → Bytes → Bool
is_parameter [] x = false
is_parameter (s ∷ ss) x = is_among s.params x || (not (is_among s.temps x) && is_parameter ss x)

abbrev pub may_assign : List Scope → Bytes → Bool
may_assign ss x = not (is_pseudo_variable x || is_parameter ss x)

-- the name may be declared where those before it are
abbrev pub may_declare : (before : List Bytes) → Bytes → Bool
may_declare before x = not (is_pseudo_variable x || is_among before x)

-- The kinds of token that are binary selectors: `|` is one where it stands alone.
pub data IsSelector : Kind → Type 0 where
  binary_is : IsSelector binary
  bar_is : IsSelector bar

abbrev pub is_minus : Bytes → Bool
is_minus x = bytes_eq x (codes "-")

-- the binary selector `-`, which is a number's sign where a number touches it
abbrev pub is_sign : Kind → Bytes → Bool
is_sign binary x = is_minus x
is_sign _ x = false

abbrev pub starts_with_bar : List Word → Bool
starts_with_bar (word bar x t ∷ ws) = true
starts_with_bar _ = false

abbrev pub starts_with_keyword : List Word → Bool
starts_with_keyword (word keyword x t ∷ ws) = true
starts_with_keyword _ = false

-- a keyword that touches the token before it
abbrev pub starts_with_joined_keyword : List Word → Bool
starts_with_joined_keyword (word keyword x t ∷ ws) = t
starts_with_joined_keyword _ = false

-- a number that touches the token before it
abbrev pub starts_with_joined_number : List Word → Bool
starts_with_joined_number (word number x t ∷ ws) = t
starts_with_joined_number _ = false

-- What a literal's token stands for.
abbrev pub whole_number : Bytes → Constant
whole_number x = int (pos (number_value x))

abbrev pub negative_number : Bytes → Constant
negative_number x = int (neg_ℤ (pos (number_value x)))

-- what an identifier stands for among the elements of a literal array
abbrev pub named_constant : Bytes → Constant
named_constant x = cond (bytes_eq x (codes "nil")) nothing
    (cond (bytes_eq x (codes "true")) yes (cond (bytes_eq x (codes "false")) no (sym x)))

-- Where an expression stands, by the messages that it may hold.
pub data Level : Type 0 where
  -- the argument of a binary message: unary messages
  of_binary : Level
  -- the argument of a keyword message: unary and binary messages
  of_keyword : Level
  -- elsewhere: every message, a cascade, and assignments
  full : Level

-- The sorts of message.
pub data Sort : Type 0 where
  unary_sort : Sort
  binary_sort : Sort
  keyword_sort : Sort

-- Which messages may still come in an expression.
pub data Next : Type 0 where
  any_message : Next
  -- after a binary message
  no_unary : Next
  -- after a keyword message, and after a cascade's message
  no_message : Next

abbrev pub goes_on : Next → Bool
goes_on any_message = true
goes_on no_unary = true
goes_on no_message = false

abbrev pub takes_unary : Next → Bool
takes_unary any_message = true
takes_unary _ = false

-- the sorts of message that an expression at this level holds
abbrev pub holds : Level → Sort → Bool
holds full s = true
holds of_keyword keyword_sort = false
holds of_keyword s = true
holds of_binary unary_sort = true
holds of_binary s = false

-- Unary messages come first, then binary ones, then at most one keyword message.
abbrev pub may_come : Next → Sort → Bool
may_come next unary_sort = takes_unary next
may_come next s = goes_on next

abbrev pub behind : Sort → Next
behind unary_sort = any_message
behind binary_sort = no_unary
behind keyword_sort = no_message

-- `super` needs a message
abbrev pub needs_no_message : Head → Sends → Bool
needs_no_message (name x) no_sends = not (is_super x)
needs_no_message h ms = true

-- keywords that follow one another without a gap: their bytes together
pub data ReadsKeywordRun : Bytes → List Word → List Word → Type 0 where
  run_end : {ws : List Word} → starts_with_joined_keyword ws ≡ false → ReadsKeywordRun [] ws ws
  run_on : {x run : Bytes} {ws us : List Word} → ReadsKeywordRun run ws us
      → ReadsKeywordRun (x ++ run) (word keyword x true ∷ ws) us

mutual
  -- A literal. `depth` counts the blocks, parentheses and literal arrays around.
  pub data ReadsLiteral (kept : Kept) : (depth : ℕ) → Constant → List Word → List Word
      → Type 0 where
    a_number : {d : ℕ} {x : Bytes} {t : Bool} {ws : List Word}
        → ReadsLiteral kept d (whole_number x) (word number x t ∷ ws) ws
    -- `-` directly followed by a number
    a_negative_number : {d : ℕ} {m x : Bytes} {t : Bool} {ws : List Word} → is_minus m ≡ true
        → ReadsLiteral kept d (negative_number x) (word binary m t ∷ word number x true ∷ ws) ws
    a_character : {d : ℕ} {x : Bytes} {t : Bool} {ws : List Word}
        → ReadsLiteral kept d (char (character_value x)) (word character x t ∷ ws) ws
    a_string : {d : ℕ} {x : Bytes} {t : Bool} {ws : List Word}
        → ReadsLiteral kept d (str (string_value x)) (word string x t ∷ ws) ws
    a_symbol : {d : ℕ} {x : Bytes} {t : Bool} {ws : List Word}
        → ReadsLiteral kept d (sym (symbol_value x)) (word symbol x t ∷ ws) ws
    -- `#(` elements `)`
    an_array : {d : ℕ} {x y : Bytes} {t u : Bool} {cs : Constants} {ws us : List Word}
        → passes kept p9 (nat_lt d DEPTH_LIMIT) ≡ true
        → ReadsElements kept (suc d) cs ws (word close_paren y u ∷ us)
        → ReadsLiteral kept d (array cs) (word open_array x t ∷ ws) us

  -- an element of a literal array
  pub data ReadsElement (kept : Kept) : (depth : ℕ) → Constant → List Word → List Word
      → Type 0 where
    a_literal_element : {d : ℕ} {c : Constant} {ws us : List Word} → ReadsLiteral kept d c ws us
        → ReadsElement kept d c ws us
    -- an identifier is a symbol, but for `nil`, `true` and `false`
    a_name_element : {d : ℕ} {x : Bytes} {t : Bool} {ws : List Word}
        → ReadsElement kept d (named_constant x) (word identifier x t ∷ ws) ws
    -- keywords without a gap are one symbol
    a_keyword_element : {d : ℕ} {x run : Bytes} {t : Bool} {ws us : List Word}
        → ReadsKeywordRun run ws us
        → ReadsElement kept d (sym (x ++ run)) (word keyword x t ∷ ws) us
    -- a binary selector is a symbol, but for a `-` that is a number's
    a_selector_element : {d : ℕ} {k : Kind} {x : Bytes} {t : Bool} {ws : List Word} → IsSelector k
        → (is_sign k x && starts_with_joined_number ws) ≡ false
        → ReadsElement kept d (sym x) (word k x t ∷ ws) ws
    -- `(` elements `)`
    a_nested_array : {d : ℕ} {x y : Bytes} {t u : Bool} {cs : Constants} {ws us : List Word}
        → passes kept p9 (nat_lt d DEPTH_LIMIT) ≡ true
        → ReadsElements kept (suc d) cs ws (word close_paren y u ∷ us)
        → ReadsElement kept d (array cs) (word open_paren x t ∷ ws) us

  pub data ReadsElements (kept : Kept) : (depth : ℕ) → Constants → List Word → List Word
      → Type 0 where
    no_elements : {d : ℕ} {ws : List Word} → ReadsElements kept d no_constants ws ws
    an_element : {d : ℕ} {c : Constant} {cs : Constants} {ws us vs : List Word}
        → ReadsElement kept d c ws us → ReadsElements kept d cs us vs
        → ReadsElements kept d (a_constant c cs) ws vs

-- `:` and an identifier, any number of times: the parameters of a block, after those before
pub data ReadsParams (kept : Kept) : (before : List Bytes) → List Bytes → List Word → List Word
    → Type 0 where
  no_params : {before : List Bytes} {ws : List Word} → ReadsParams kept before [] ws ws
  a_param : {before : List Bytes} {p x : Bytes} {t u : Bool} {ps : List Bytes} {ws us : List Word}
      → passes kept p7 (may_declare before p) ≡ true
      → ReadsParams kept (before ++ p ∷ []) ps ws us
      → ReadsParams kept before (p ∷ ps) (word colon x t ∷ word identifier p u ∷ ws) us

-- the `|` after the parameters, where there are any; it may be left out directly before `]`
pub data ReadsBar : (params : List Bytes) → List Word → List Word → Type 0 where
  no_bar : {ws : List Word} → ReadsBar [] ws ws
  a_bar : {p x : Bytes} {ps : List Bytes} {t : Bool} {ws : List Word}
      → ReadsBar (p ∷ ps) (word bar x t ∷ ws) ws
  bar_left_out : {p x : Bytes} {ps : List Bytes} {t : Bool} {ws : List Word}
      → ReadsBar (p ∷ ps) (word close_bracket x t ∷ ws) (word close_bracket x t ∷ ws)

-- identifiers and then `|`: the rest of the temporaries, after the parameters and the temporaries
-- before
pub data ReadsTempNames (kept : Kept) : (params before : List Bytes) → List Bytes → List Word
    → List Word → Type 0 where
  temps_end : {ps before : List Bytes} {x : Bytes} {t : Bool} {ws : List Word}
      → ReadsTempNames kept ps before [] (word bar x t ∷ ws) ws
  a_temp : {ps before ts : List Bytes} {x : Bytes} {t : Bool} {ws us : List Word}
      → passes kept p7 (may_declare (ps ++ before) x) ≡ true
      → ReadsTempNames kept ps (before ++ x ∷ []) ts ws us
      → ReadsTempNames kept ps before (x ∷ ts) (word identifier x t ∷ ws) us

-- temporaries: nothing, or `|`, identifiers, `|`
pub data ReadsTemps (kept : Kept) : (params : List Bytes) → List Bytes → List Word → List Word
    → Type 0 where
  no_temps : {ps : List Bytes} {ws : List Word} → starts_with_bar ws ≡ false
      → ReadsTemps kept ps [] ws ws
  some_temps : {ps ts : List Bytes} {x : Bytes} {t : Bool} {ws us : List Word}
      → ReadsTempNames kept ps [] ts ws us → ReadsTemps kept ps ts (word bar x t ∷ ws) us

mutual
  -- An expression in these scopes, so many brackets deep.
  pub data ReadsExpression (kept : Kept) : List Scope → (depth : ℕ) → Level → Expression → List Word
      → List Word → Type 0 where
    -- identifier `:=` expression
    an_assignment : {ss : List Scope} {d : ℕ} {x y : Bytes} {t u : Bool} {names : List Bytes}
        {h : Head} {ms cs : Sends} {ws us : List Word} → passes kept p8 (may_assign ss x) ≡ true
        → ReadsExpression kept ss d full (expression names h ms cs) ws us
        → ReadsExpression kept ss d full (expression (x ∷ names) h ms cs)
        (word identifier x t ∷ word assign y u ∷ ws) us
    -- a head and messages
    messages_sent : {ss : List Scope} {d : ℕ} {l : Level} {h : Head} {ms : Sends}
        {ws us vs : List Word} → ReadsHead kept ss d h ws us → needs_no_message h ms ≡ true
        → ReadsSends kept ss d any_message l ms us vs
        → ReadsExpression kept ss d l (expression [] h ms no_sends) ws vs
    -- a head, at least one message, and at least one `;` with a message
    a_cascade : {ss : List Scope} {d : ℕ} {h : Head} {m n : Send} {ms cs : Sends}
        {ws us vs xs : List Word} → ReadsHead kept ss d h ws us
        → ReadsSends kept ss d any_message full (a_send m ms) us vs
        → ReadsCascade kept ss d (a_send n cs) vs xs
        → ReadsExpression kept ss d full (expression [] h (a_send m ms) (a_send n cs)) ws xs

  pub data ReadsHead (kept : Kept) : List Scope → (depth : ℕ) → Head → List Word → List Word
      → Type 0 where
    a_name : {ss : List Scope} {d : ℕ} {x : Bytes} {t : Bool} {ws : List Word}
        → ReadsHead kept ss d (name x) (word identifier x t ∷ ws) ws
    a_literal : {ss : List Scope} {d : ℕ} {c : Constant} {ws us : List Word}
        → ReadsLiteral kept d c ws us → ReadsHead kept ss d (constant c) ws us
    -- `(` expression `)`
    a_paren : {ss : List Scope} {d : ℕ} {x y : Bytes} {t u : Bool} {e : Expression}
        {ws us : List Word} → passes kept p9 (nat_lt d DEPTH_LIMIT) ≡ true
        → ReadsExpression kept ss (suc d) full e ws (word close_paren y u ∷ us)
        → ReadsHead kept ss d (paren e) (word open_paren x t ∷ ws) us
    -- `[`, parameters, temporaries, statements, `]`
    a_block : {ss : List Scope} {d : ℕ} {x y : Bytes} {t u : Bool} {ps ts : List Bytes}
        {body : Statements} {ws us vs xs ys : List Word}
        → passes kept p9 (nat_lt d DEPTH_LIMIT) ≡ true
        → ReadsParams kept [] ps ws us → ReadsBar ps us vs → ReadsTemps kept ps ts vs xs
        → ReadsStatements kept (scope ps ts ∷ ss) (suc d) body xs (word close_bracket y u ∷ ys)
        → ReadsHead kept ss d (block (closure ps ts body)) (word open_bracket x t ∷ ws) ys

  -- the messages of an expression at this level, of which `next` may still come
  pub data ReadsSends (kept : Kept) : List Scope → (depth : ℕ) → Next → Level → Sends → List Word
      → List Word → Type 0 where
    sends_end : {ss : List Scope} {d : ℕ} {next : Next} {l : Level} {ws : List Word}
        → ReadsSends kept ss d next l no_sends ws ws
    sends_on : {ss : List Scope} {d : ℕ} {next : Next} {l : Level} {s : Sort} {m : Send}
        {ms : Sends} {ws us vs : List Word} → (holds l s && may_come next s) ≡ true
        → ReadsMessage kept ss d s m ws us → ReadsSends kept ss d (behind s) l ms us vs
        → ReadsSends kept ss d next l (a_send m ms) ws vs

  -- a message of this sort
  pub data ReadsMessage (kept : Kept) : List Scope → (depth : ℕ) → Sort → Send → List Word
      → List Word → Type 0 where
    a_unary : {ss : List Scope} {d : ℕ} {x : Bytes} {t : Bool} {ws : List Word}
        → ReadsMessage kept ss d unary_sort (send x no_expressions) (word identifier x t ∷ ws) ws
    a_binary : {ss : List Scope} {d : ℕ} {k : Kind} {x : Bytes} {t : Bool} {e : Expression}
        {ws us : List Word} → IsSelector k
        → ReadsExpression kept ss d of_binary e ws us
        → ReadsMessage kept ss d binary_sort (send x (an_expression e no_expressions))
        (word k x t ∷ ws) us
    a_keyword : {ss : List Scope} {d : ℕ} {x selector : Bytes} {t : Bool} {e : Expression}
        {es : Expressions} {ws us vs : List Word} → ReadsExpression kept ss d of_keyword e ws us
        → ReadsParts kept ss d selector es us vs
        → ReadsMessage kept ss d keyword_sort (send (x ++ selector) (an_expression e es))
        (word keyword x t ∷ ws) vs

  -- keywords and their arguments: the rest of a keyword message, with the rest of its selector
  pub data ReadsParts (kept : Kept) : List Scope → (depth : ℕ) → Bytes → Expressions → List Word
      → List Word → Type 0 where
    parts_end : {ss : List Scope} {d : ℕ} {ws : List Word}
        → ReadsParts kept ss d [] no_expressions ws ws
    parts_on : {ss : List Scope} {d : ℕ} {x selector : Bytes} {t : Bool} {e : Expression}
        {es : Expressions} {ws us vs : List Word} → ReadsExpression kept ss d of_keyword e ws us
        → ReadsParts kept ss d selector es us vs
        → ReadsParts kept ss d (x ++ selector) (an_expression e es) (word keyword x t ∷ ws) vs

  -- messages with a `;` before each
  pub data ReadsCascade (kept : Kept) : List Scope → (depth : ℕ) → Sends → List Word → List Word
      → Type 0 where
    cascade_end : {ss : List Scope} {d : ℕ} {ws : List Word} → ReadsCascade kept ss d no_sends ws ws
    cascade_on : {ss : List Scope} {d : ℕ} {s : Sort} {m : Send} {ms : Sends} {x : Bytes} {t : Bool}
        {ws us vs : List Word} → ReadsMessage kept ss d s m ws us
        → ReadsCascade kept ss d ms us vs
        → ReadsCascade kept ss d (a_send m ms) (word semicolon x t ∷ ws) vs

  -- an expression, or `^` and an expression
  pub data ReadsStatement (kept : Kept) : List Scope → (depth : ℕ) → Statement → List Word
      → List Word → Type 0 where
    a_plain : {ss : List Scope} {d : ℕ} {e : Expression} {ws us : List Word}
        → ReadsExpression kept ss d full e ws us
        → ReadsStatement kept ss d (statement false e) ws us
    a_return : {ss : List Scope} {d : ℕ} {x : Bytes} {t : Bool} {e : Expression} {ws us : List Word}
        → ReadsExpression kept ss d full e ws us
        → ReadsStatement kept ss d (statement true e) (word caret x t ∷ ws) us

  -- nothing, or statements separated by `.` with one more `.` allowed at the end
  pub data ReadsStatements (kept : Kept) : List Scope → (depth : ℕ) → Statements → List Word
      → List Word → Type 0 where
    statements_end : {ss : List Scope} {d : ℕ} {ws : List Word}
        → ReadsStatements kept ss d no_statements ws ws
    statements_on : {ss : List Scope} {d : ℕ} {r : Bool} {e : Expression} {body : Statements}
        {ws us vs : List Word} → ReadsStatement kept ss d (statement r e) ws us
        → ReadsRest kept ss d r body us vs
        → ReadsStatements kept ss d (a_statement (statement r e) body) ws vs

  -- what follows a statement: none follows one with `^`
  pub data ReadsRest (kept : Kept) : List Scope → (depth : ℕ) → (returns : Bool) → Statements
      → List Word → List Word → Type 0 where
    rest_end : {ss : List Scope} {d : ℕ} {r : Bool} {ws : List Word}
        → ReadsRest kept ss d r no_statements ws ws
    last_period : {ss : List Scope} {d : ℕ} {x : Bytes} {t : Bool} {ws : List Word}
        → ReadsRest kept ss d true no_statements (word period x t ∷ ws) ws
    rest_on : {ss : List Scope} {d : ℕ} {body : Statements} {x : Bytes} {t : Bool}
        {ws us : List Word} → ReadsStatements kept ss d body ws us
        → ReadsRest kept ss d false body (word period x t ∷ ws) us

-- keywords with the parameter of each: the rest of a pattern, after the parameters before, with the
-- rest of its selector
pub data ReadsPatternParts (kept : Kept) : (before : List Bytes) → Bytes → List Bytes → List Word
    → List Word → Type 0 where
  pattern_end : {before : List Bytes} {ws : List Word} → starts_with_keyword ws ≡ false
      → ReadsPatternParts kept before [] [] ws ws
  pattern_on : {before ps : List Bytes} {x selector p : Bytes} {t u : Bool} {ws us : List Word}
      → passes kept p7 (may_declare before p) ≡ true
      → ReadsPatternParts kept (before ++ p ∷ []) selector ps ws us
      → ReadsPatternParts kept before (x ++ selector) (p ∷ ps)
      (word keyword x t ∷ word identifier p u ∷ ws) us

-- the pattern of a method, with its selector and its parameters
pub data ReadsPattern (kept : Kept) : Bytes → List Bytes → List Word → List Word → Type 0 where
  a_unary_pattern : {x : Bytes} {t : Bool} {ws : List Word}
      → ReadsPattern kept x [] (word identifier x t ∷ ws) ws
  a_binary_pattern : {k : Kind} {x p : Bytes} {t u : Bool} {ws : List Word} → IsSelector k
      → passes kept p7 (may_declare [] p) ≡ true
      → ReadsPattern kept x (p ∷ []) (word k x t ∷ word identifier p u ∷ ws) ws
  a_keyword_pattern : {ps : List Bytes} {x selector p : Bytes} {t u : Bool} {ws us : List Word}
      → passes kept p7 (may_declare [] p) ≡ true
      → ReadsPatternParts kept (p ∷ []) selector ps ws us
      → ReadsPattern kept (x ++ selector) (p ∷ ps) (word keyword x t ∷ word identifier p u ∷ ws) us

-- What a text is to be.
pub data Form : Type 0 where
  chunk : Form
  method : Form

-- A chunk is temporaries, statements and the end; a method has a pattern before them.
pub data ReadsProgram (kept : Kept) : Form → Program → List Word → Type 0 where
  a_chunk : {ts : List Bytes} {body : Statements} {ws us : List Word} → ReadsTemps kept [] ts ws us
      → ReadsStatements kept (scope [] ts ∷ []) 0 body us []
      → ReadsProgram kept chunk
      (record { selector = None; params = []; temps = ts; body = body }) ws
  a_method : {selector : Bytes} {ps ts : List Bytes} {body : Statements} {ws us vs : List Word}
      → ReadsPattern kept selector ps ws us → ReadsTemps kept ps ts us vs
      → ReadsStatements kept (scope ps ts ∷ []) 0 body vs []
      → ReadsProgram kept method
      (record { selector = Some selector; params = ps; temps = ts; body = body }) ws
