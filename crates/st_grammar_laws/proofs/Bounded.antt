-- A tree's size is at most three for each word that it is read from, and a few more or less by the sort of the tree.
-- Each lemma says so of what is read and of the words before and after it.
use Rattle.std.proofs.Common.{◌≡◌, refl, ℕ, ◌+◌, ◌*◌, ◌≤◌, Bool, true, false, cond, List, [], ◌∷◌, length, arith}
use Rattle.std.proofs.Common.{bytes_eq, codes}
use Rattle.texts.specs.Bytes.{Bytes}
use Rattle.st_tree.specs.Trees.{Constant, nothing, yes, no, sym, Constants, Head, Expression, Send, Statement}
use Rattle.st_tree.specs.Trees.{Statements, Sends, Expressions, Program}
use Rattle.st_grammar.specs.Tokens.{Token}
use Rattle.st_grammar.specs.Grammar.{Word, Kept, Scope, Level, Sort, Next, Form, words_after, words_of, named_constant}
use Rattle.st_grammar.specs.Grammar.{ReadsKeywordRun, run_end, run_on, ReadsLiteral, a_number, a_negative_number}
use Rattle.st_grammar.specs.Grammar.{a_character, a_string, a_symbol, an_array, ReadsElement, a_literal_element}
use Rattle.st_grammar.specs.Grammar.{a_name_element, a_keyword_element, a_selector_element, a_nested_array}
use Rattle.st_grammar.specs.Grammar.{ReadsElements, no_elements, an_element, ReadsParams, no_params, a_param, ReadsBar}
use Rattle.st_grammar.specs.Grammar.{no_bar, a_bar, bar_left_out, ReadsTempNames, temps_end, a_temp, ReadsTemps}
use Rattle.st_grammar.specs.Grammar.{no_temps, some_temps, ReadsExpression, an_assignment, messages_sent, a_cascade}
use Rattle.st_grammar.specs.Grammar.{ReadsHead, a_name, a_literal, a_paren, a_block, ReadsSends, sends_end, sends_on}
use Rattle.st_grammar.specs.Grammar.{ReadsMessage, a_unary, a_binary, a_keyword, ReadsParts, parts_end, parts_on}
use Rattle.st_grammar.specs.Grammar.{ReadsCascade, cascade_end, cascade_on, ReadsStatement, a_plain, a_return}
use Rattle.st_grammar.specs.Grammar.{ReadsStatements, statements_end, statements_on, ReadsRest, rest_end, last_period}
use Rattle.st_grammar.specs.Grammar.{rest_on, ReadsPatternParts, pattern_end, pattern_on, ReadsPattern, a_unary_pattern}
use Rattle.st_grammar.specs.Grammar.{a_binary_pattern, a_keyword_pattern, ReadsProgram, a_chunk, a_method}
use Rattle.st_grammar.specs.Fails.{Reads}
use Rattle.st_tree.specs.Falls.{size_constant, size_constants, size_head, size_expression, size_send, size_statement}
use Rattle.st_tree.specs.Falls.{size_statements, size_sends, size_expressions, size_program}
use Rattle.st_lexer.specs.Spans.{SpansAscend}
use Rattle.st_lexer.proofs.Ascending.{within}

-- A name among the elements of a literal array has size one, whichever constant it stands for.
small_choice : (b : Bool) (c e : Constant) → size_constant c ≡ 1 → size_constant e ≡ 1 → size_constant (cond b c e) ≡ 1
small_choice true c e here there = here
small_choice false c e here there = there

small_name : (x : Bytes) → size_constant (named_constant x) ≡ 1
small_name x =
    small_choice (bytes_eq x (codes "nil")) nothing _ refl
    (small_choice (bytes_eq x (codes "true")) yes _ refl
    (small_choice (bytes_eq x (codes "false")) no (sym x) refl refl))

-- literals
run_bounded : {run : Bytes} {ws us : List Word} → ReadsKeywordRun run ws us → length us ≤ length ws
run_bounded (run_end none) = omega arith
run_bounded (run_on more) = omega (arith, run_bounded more)

mutual
  literal_bounded : {kept : Kept} {d : ℕ} {c : Constant} {ws us : List Word} → ReadsLiteral kept d c ws us
      → size_constant c + 2 + 3 * length us ≤ 3 * length ws
  literal_bounded a_number = omega arith
  literal_bounded (a_negative_number minus) = omega arith
  literal_bounded a_character = omega arith
  literal_bounded a_string = omega arith
  literal_bounded a_symbol = omega arith
  literal_bounded (an_array p es) = omega (arith, elements_bounded es)

  element_bounded : {kept : Kept} {d : ℕ} {c : Constant} {ws us : List Word} → ReadsElement kept d c ws us
      → size_constant c + 2 + 3 * length us ≤ 3 * length ws
  element_bounded (a_literal_element l) = literal_bounded l
  element_bounded (a_name_element {x = x}) = omega (arith, small_name x)
  element_bounded (a_keyword_element run) = omega (arith, run_bounded run)
  element_bounded (a_selector_element s none) = omega arith
  element_bounded (a_nested_array p es) = omega (arith, elements_bounded es)

  elements_bounded : {kept : Kept} {d : ℕ} {cs : Constants} {ws us : List Word} → ReadsElements kept d cs ws us
      → size_constants cs + 3 * length us ≤ 3 * length ws
  elements_bounded no_elements = omega arith
  elements_bounded (an_element e es) = omega (arith, element_bounded e, elements_bounded es)

-- what declares names takes words, and adds nothing to the size
params_bounded : {kept : Kept} {earlier ps : List Bytes} {ws us : List Word} → ReadsParams kept earlier ps ws us
    → length us ≤ length ws
params_bounded no_params = omega arith
params_bounded (a_param may more) = omega (arith, params_bounded more)

bar_bounded : {ps : List Bytes} {ws us : List Word} → ReadsBar ps ws us → length us ≤ length ws
bar_bounded no_bar = omega arith
bar_bounded a_bar = omega arith
bar_bounded bar_left_out = omega arith

temp_names_bounded : {kept : Kept} {ps earlier ts : List Bytes} {ws us : List Word}
    → ReadsTempNames kept ps earlier ts ws us → length us ≤ length ws
temp_names_bounded temps_end = omega arith
temp_names_bounded (a_temp may more) = omega (arith, temp_names_bounded more)

temps_bounded : {kept : Kept} {ps ts : List Bytes} {ws us : List Word} → ReadsTemps kept ps ts ws us
    → length us ≤ length ws
temps_bounded (no_temps none) = omega arith
temps_bounded (some_temps more) = omega (arith, temp_names_bounded more)

pattern_parts_bounded : {kept : Kept} {earlier ps : List Bytes} {selector : Bytes} {ws us : List Word}
    → ReadsPatternParts kept earlier selector ps ws us → length us ≤ length ws
pattern_parts_bounded (pattern_end none) = omega arith
pattern_parts_bounded (pattern_on may more) = omega (arith, pattern_parts_bounded more)

pattern_bounded : {kept : Kept} {selector : Bytes} {ps : List Bytes} {ws us : List Word}
    → ReadsPattern kept selector ps ws us → length us ≤ length ws
pattern_bounded a_unary_pattern = omega arith
pattern_bounded (a_binary_pattern s may) = omega arith
pattern_bounded (a_keyword_pattern may more) = omega (arith, pattern_parts_bounded more)

-- expressions and statements
mutual
  expression_bounded : {kept : Kept} {ss : List Scope} {d : ℕ} {l : Level} {e : Expression} {ws us : List Word}
      → ReadsExpression kept ss d l e ws us → size_expression e + 3 * length us ≤ 3 * length ws
  expression_bounded (an_assignment may e) = omega (arith, expression_bounded e)
  expression_bounded (messages_sent head none sends) = omega (arith, head_bounded head, sends_bounded sends)
  expression_bounded (a_cascade head sends rest) = omega
      (arith, head_bounded head, sends_bounded sends, cascade_bounded rest)

  head_bounded : {kept : Kept} {ss : List Scope} {d : ℕ} {h : Head} {ws us : List Word} → ReadsHead kept ss d h ws us
      → size_head h + 1 + 3 * length us ≤ 3 * length ws
  head_bounded a_name = omega arith
  head_bounded (a_literal l) = omega (arith, literal_bounded l)
  head_bounded (a_paren p e) = omega (arith, expression_bounded e)
  head_bounded (a_block p params stroke temps body) = omega
      (arith, params_bounded params, bar_bounded stroke, temps_bounded temps, statements_bounded body)

  sends_bounded : {kept : Kept} {ss : List Scope} {d : ℕ} {next : Next} {l : Level} {ms : Sends} {ws us : List Word}
      → ReadsSends kept ss d next l ms ws us → size_sends ms + 3 * length us ≤ 3 * length ws
  sends_bounded sends_end = omega arith
  sends_bounded (sends_on may message rest) = omega (arith, message_bounded message, sends_bounded rest)

  message_bounded : {kept : Kept} {ss : List Scope} {d : ℕ} {s : Sort} {m : Send} {ws us : List Word}
      → ReadsMessage kept ss d s m ws us → size_send m + 1 + 3 * length us ≤ 3 * length ws
  message_bounded a_unary = omega arith
  message_bounded (a_binary s argument) = omega (arith, expression_bounded argument)
  message_bounded (a_keyword argument parts) = omega (arith, expression_bounded argument, parts_bounded parts)

  parts_bounded : {kept : Kept} {ss : List Scope} {d : ℕ} {selector : Bytes} {es : Expressions} {ws us : List Word}
      → ReadsParts kept ss d selector es ws us → size_expressions es + 3 * length us ≤ 3 * length ws
  parts_bounded parts_end = omega arith
  parts_bounded (parts_on argument parts) = omega (arith, expression_bounded argument, parts_bounded parts)

  cascade_bounded : {kept : Kept} {ss : List Scope} {d : ℕ} {cs : Sends} {ws us : List Word}
      → ReadsCascade kept ss d cs ws us → size_sends cs + 3 * length us ≤ 3 * length ws
  cascade_bounded cascade_end = omega arith
  cascade_bounded (cascade_on message rest) = omega (arith, message_bounded message, cascade_bounded rest)

  statement_bounded : {kept : Kept} {ss : List Scope} {d : ℕ} {s : Statement} {ws us : List Word}
      → ReadsStatement kept ss d s ws us → size_statement s + 3 * length us ≤ 3 * length ws + 1
  statement_bounded (a_plain e) = omega (arith, expression_bounded e)
  statement_bounded (a_return e) = omega (arith, expression_bounded e)

  statements_bounded : {kept : Kept} {ss : List Scope} {d : ℕ} {body : Statements} {ws us : List Word}
      → ReadsStatements kept ss d body ws us → size_statements body + 3 * length us ≤ 3 * length ws + 2
  statements_bounded statements_end = omega arith
  statements_bounded (statements_on s rest) = omega (arith, statement_bounded s, rest_bounded rest)

  rest_bounded : {kept : Kept} {ss : List Scope} {d : ℕ} {r : Bool} {body : Statements} {ws us : List Word}
      → ReadsRest kept ss d r body ws us → size_statements body + 3 * length us ≤ 3 * length ws
  rest_bounded rest_end = omega arith
  rest_bounded last_period = omega arith
  rest_bounded (rest_on more) = omega (arith, statements_bounded more)

program_bounded : {kept : Kept} {form : Form} {program : Program} {ws : List Word} → ReadsProgram kept form program ws
    → size_program program ≤ 3 * length ws + 3
program_bounded (a_chunk temps body) = omega (arith, temps_bounded temps, statements_bounded body)
program_bounded (a_method pattern temps body) = omega
    (arith, pattern_bounded pattern, temps_bounded temps, statements_bounded body)

-- A text has at least one byte for each word.
words_bounded : (at stop : ℕ) (text : Bytes) (ts : List Token) → SpansAscend at stop ts
    → at + length (words_after at text ts) ≤ stop
words_bounded at stop text [] h = omega (arith, h)
words_bounded at stop text (t ∷ ts) h = omega (arith, h.0, h.1, words_bounded t.to stop text ts h.2)

pub tree_bounded : (form : Form) (text : Bytes) (program : Program) → Reads form text program
    → size_program program ≤ 3 * length text + 3
tree_bounded form text program (ts, lexes, reads) =
    let words : 0 + length (words_of text ts)
    ≤ length text = words_bounded 0 (length text) text ts (within text ts lexes) in
    let tree : size_program program ≤ 3 * length (words_of text ts) + 3 = program_bounded reads in
    omega arith
