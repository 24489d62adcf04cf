-- How the machine comes to the parts of a text: what their first token tells.
use Rattle.std.proofs.Common.{◌≡◌, ℕ, Bool, true, false, not, ◌&&◌, cond, nat_lt, Result, List, [], ◌∷◌, refl, sym, ap}
use Rattle.std.proofs.Common.{◌∙◌, true≢false}
use Rattle.texts.specs.Bytes.{Bytes}
use Rattle.st_grammar.specs.declared.limits.TheConstants.{DEPTH_LIMIT}
use Rattle.st_tree.specs.Trees.{Program, name, Constant, Head, Expression, Sends, no_statements, no_constants}
use Rattle.st_tree.specs.Trees.{Statements}
use Rattle.st_grammar.specs.Tokens.{identifier, number, character, string, symbol, binary, bar, colon, assign}
use Rattle.st_grammar.specs.Tokens.{open_paren, open_bracket, open_array}
use Rattle.st_grammar.specs.Grammar.{Word, word, GrammarRule, p9, Kept, passes, Scope, is_minus, is_super}
use Rattle.st_grammar.specs.Grammar.{needs_no_message, starts_with_bar, binary_is, bar_is, Level, Sort, binary_sort}
use Rattle.st_grammar.specs.Grammar.{keyword_sort, holds, may_come, Next, any_message, ReadsLiteral, a_number}
use Rattle.st_grammar.specs.Grammar.{a_negative_number, a_character, a_string, a_symbol, an_array, ReadsExpression}
use Rattle.st_grammar.specs.Grammar.{an_assignment, messages_sent, a_cascade, ReadsHead, a_name, a_literal, a_paren}
use Rattle.st_grammar.specs.Grammar.{a_block, ReadsSends, sends_end, sends_on, a_unary, a_binary, a_keyword, a_plain}
use Rattle.st_grammar.specs.Grammar.{a_return, ReadsStatements, statements_end, statements_on, ReadsTemps, no_temps}
use Rattle.st_grammar.specs.Grammar.{some_temps}
use Rattle.st_grammar_laws.specs.Machine.{Body, in_block, in_body, alone, keyword_part, Slot, outer, binary_part, State}
use Rattle.st_grammar_laws.specs.Machine.{header, begin, want, named, have, in_params, in_paren, of_head, in_elements}
use Rattle.st_grammar_laws.specs.Machine.{depth_body, machine_step, check, blame, goes, breaks, bare, level_of, go}
use Rattle.st_grammar_laws.specs.Machine.{machine_run, Fault}
use Rattle.st_lexer.proofs.Sizes.{and_left}
use Rattle.st_grammar_laws.proofs.Follows.{Follows, end_follows, period_follows, round_follows, square_follows}
use Rattle.st_grammar_laws.proofs.Follows.{semicolon_follows, keyword_follows, selector_follows}

abbrev pub starts_with_assign : List Word → Bool
starts_with_assign (word assign x t ∷ ws) = true
starts_with_assign _ = false

abbrev pub starts_with_colon : List Word → Bool
starts_with_colon (word colon x t ∷ ws) = true
starts_with_colon _ = false

-- An identifier that isn't `super` is a head, where no `:=` follows.
pub named_plain : (kept : Kept) (k : Slot) (names : List Bytes) (x : Bytes) (ws : List Word) → is_super x ≡ false
    → starts_with_assign ws ≡ false
    → machine_run kept (named k names x) ws ≡ machine_run kept (have k (bare names (name x)) any_message) ws
named_plain kept k names x [] plain none = rw plain refl
named_plain kept k names x (word assign y t ∷ ws) plain none = absurd (true≢false none)
named_plain kept k names x (word kind y t ∷ ws) plain none = rw plain refl

-- `super` is a head, where a message follows.
holds_here : (k : Slot) (l : Level) (s : Sort) (next : Next) → level_of k ≡ l → (holds l s && may_come next s) ≡ true
    → holds (level_of k) s ≡ true
holds_here k l s next h e = ap (λ l. holds l s) h ∙ and_left (holds l s) (may_come next s) e

super_sends : (kept : Kept) (k : Slot) (names : List Bytes) (x : Bytes) {other : Kept} {ss : List Scope} {d : ℕ}
    {next : Next} {l : Level} {ms : Sends} {us vs : List Word} → ReadsSends other ss d next l ms us vs
    → is_super x ≡ true → level_of k ≡ l → needs_no_message (name x) ms ≡ true
    → machine_run kept (named k names x) us ≡ machine_run kept (have k (bare names (name x)) any_message) us
super_sends kept k names x sends_end is h none = absurd (true≢false (sym none ∙ ap not is))
super_sends kept k names x (sends_on e a_unary rest) is h none = rw is refl
super_sends kept (outer w) names x {next = next}
    {l = l} (sends_on e (a_binary binary_is a) rest) is h none = let takes = holds_here
    (outer w) l binary_sort next h e in rw (is, takes) refl
super_sends kept (outer w) names x {next = next}
    {l = l} (sends_on e (a_binary bar_is a) rest) is h none = let takes = holds_here
    (outer w) l binary_sort next h e in rw (is, takes) refl
super_sends kept (binary_part w role f y) names x {next = next}
    {l = l} (sends_on e (a_binary s a) rest) is h none = absurd
    (true≢false (sym (holds_here (binary_part w role f y) l binary_sort next h e)))
super_sends kept (outer (alone o)) names x (sends_on e (a_keyword a parts) rest) is h none = rw is refl
super_sends kept (outer (keyword_part o role f selector es)) names x {next = next}
    {l = l} (sends_on e (a_keyword a parts) rest) is h none = absurd
    (true≢false (sym (holds_here (outer (keyword_part o role f selector es)) l keyword_sort next h e)))
super_sends kept (binary_part w role f y) names x {next = next}
    {l = l} (sends_on e (a_keyword a parts) rest) is h none = absurd
    (true≢false (sym (holds_here (binary_part w role f y) l keyword_sort next h e)))

no_assign : {kept : Kept} {ss : List Scope} {d : ℕ} {next : Next} {l : Level} {ms : Sends} {us vs : List Word}
    → ReadsSends kept ss d next l ms us vs → Follows l vs → starts_with_assign us ≡ false
no_assign sends_end end_follows = refl
no_assign sends_end period_follows = refl
no_assign sends_end round_follows = refl
no_assign sends_end square_follows = refl
no_assign sends_end semicolon_follows = refl
no_assign sends_end (keyword_follows a) = refl
no_assign sends_end (selector_follows binary_is) = refl
no_assign sends_end (selector_follows bar_is) = refl
no_assign (sends_on e a_unary rest) f = refl
no_assign (sends_on e (a_binary binary_is a) rest) f = refl
no_assign (sends_on e (a_binary bar_is a) rest) f = refl
no_assign (sends_on e (a_keyword a parts) rest) f = refl

named_by : (v : Bool) (kept : Kept) (k : Slot) (names : List Bytes) (x : Bytes) {other : Kept} {ss : List Scope} {d : ℕ}
    {next : Next} {l : Level} {ms : Sends} {us vs : List Word} → is_super x ≡ v → ReadsSends other ss d next l ms us vs
    → Follows l vs
    → level_of k ≡ l → needs_no_message (name x) ms ≡ true
    → machine_run kept (named k names x) us ≡ machine_run kept (have k (bare names (name x)) any_message) us
named_by true kept k names x is sends f h none = super_sends kept k names x sends is h none
named_by false kept k names x {us = us} is sends f h none = named_plain kept k names x us is (no_assign sends f)

-- An identifier is a head, where messages follow or the expression ends.
pub named_sends : (kept : Kept) (k : Slot) (names : List Bytes) (x : Bytes) {other : Kept} {ss : List Scope} {d : ℕ}
    {next : Next} {l : Level} {ms : Sends} {us vs : List Word} → ReadsSends other ss d next l ms us vs → Follows l vs
    → level_of k ≡ l → needs_no_message (name x) ms ≡ true
    → machine_run kept (named k names x) us ≡ machine_run kept (have k (bare names (name x)) any_message) us
named_sends kept k names x sends f h none = named_by (is_super x) kept k names x refl sends f h none

-- what an expression can begin with
pub data Starts : List Word → Type 0 where
  identifier_starts : {x : Bytes} {t : Bool} {ws : List Word} → Starts (word identifier x t ∷ ws)
  number_starts : {x : Bytes} {t : Bool} {ws : List Word} → Starts (word number x t ∷ ws)
  character_starts : {x : Bytes} {t : Bool} {ws : List Word} → Starts (word character x t ∷ ws)
  string_starts : {x : Bytes} {t : Bool} {ws : List Word} → Starts (word string x t ∷ ws)
  symbol_starts : {x : Bytes} {t : Bool} {ws : List Word} → Starts (word symbol x t ∷ ws)
  minus_starts : {x : Bytes} {t : Bool} {ws : List Word} → is_minus x ≡ true → Starts (word binary x t ∷ ws)
  paren_starts : {x : Bytes} {t : Bool} {ws : List Word} → Starts (word open_paren x t ∷ ws)
  block_starts : {x : Bytes} {t : Bool} {ws : List Word} → Starts (word open_bracket x t ∷ ws)
  array_starts : {x : Bytes} {t : Bool} {ws : List Word} → Starts (word open_array x t ∷ ws)

starts_literal : {kept : Kept} {d : ℕ} {c : Constant} {ws us : List Word} → ReadsLiteral kept d c ws us → Starts ws
starts_literal a_number = number_starts
starts_literal (a_negative_number m) = minus_starts m
starts_literal a_character = character_starts
starts_literal a_string = string_starts
starts_literal a_symbol = symbol_starts
starts_literal (an_array p e) = array_starts

starts_head : {kept : Kept} {ss : List Scope} {d : ℕ} {h : Head} {ws us : List Word} → ReadsHead kept ss d h ws us
    → Starts ws
starts_head a_name = identifier_starts
starts_head (a_literal l) = starts_literal l
starts_head (a_paren p e) = paren_starts
starts_head (a_block p ps b ts body) = block_starts

pub starts_expression : {kept : Kept} {ss : List Scope} {d : ℕ} {l : Level} {e : Expression} {ws us : List Word}
    → ReadsExpression kept ss d l e ws us → Starts ws
starts_expression (an_assignment p e) = identifier_starts
starts_expression (messages_sent h n ms) = starts_head h
starts_expression (a_cascade h ms cs) = starts_head h

-- A verdict that is never stuck needs nobody to blame.
never_stuck : (v : Bool) (a b : GrammarRule) (ws : List Word) (on : State
    → Result Program Fault) (s : State) (r : GrammarRule)
    → go a ws on (cond v (goes s) (breaks r)) ≡ go b ws on (cond v (goes s) (breaks r))
never_stuck true a b ws on s r = refl
never_stuck false a b ws on s r = refl

same_check : (kept : Kept) (s t : State) (w : Word) (ws : List Word) (r : GrammarRule) (test : Bool) (next : State)
    → machine_step kept s w ≡ check kept r test next → machine_step kept t w ≡ check kept r test next
    → machine_run kept s (w ∷ ws) ≡ machine_run kept t (w ∷ ws)
same_check kept s t w ws r test next e f =
    ap (go (blame kept s) (w ∷ ws) (λ u. machine_run kept u ws)) e
    ∙ never_stuck (passes kept r test) (blame kept s) (blame kept t) (w ∷ ws) (λ u. machine_run kept u ws) next r
    ∙ sym (ap (go (blame kept t) (w ∷ ws) (λ u. machine_run kept u ws)) f)

-- A statement begins as its expression does.
pub begin_want : (kept : Kept) (b : Body) {ws : List Word} → Starts ws
    → machine_run kept (begin b) ws ≡ machine_run kept (want (outer (alone (in_body b false))) []) ws
begin_want kept b identifier_starts = refl
begin_want kept b number_starts = refl
begin_want kept b character_starts = refl
begin_want kept b string_starts = refl
begin_want kept b symbol_starts = refl
begin_want kept b (minus_starts m) = rw m refl
begin_want kept b (paren_starts {x = x} {t = t} {ws = ws}) = same_check kept (begin b)
    (want (outer (alone (in_body b false))) []) (word open_paren x t) ws p9 (nat_lt (depth_body b) DEPTH_LIMIT)
    (want (outer (alone (in_paren (outer (alone (in_body b false))) []))) []) refl refl
begin_want kept b (block_starts {x = x} {t = t} {ws = ws}) = same_check kept (begin b)
    (want (outer (alone (in_body b false))) []) (word open_bracket x t) ws p9 (nat_lt (depth_body b) DEPTH_LIMIT)
    (in_params (outer (alone (in_body b false))) [] []) refl refl
begin_want kept b (array_starts {x = x} {t = t} {ws = ws}) = same_check kept (begin b)
    (want (outer (alone (in_body b false))) []) (word open_array x t) ws p9 (nat_lt (depth_body b) DEPTH_LIMIT)
    (in_elements (of_head (outer (alone (in_body b false))) []) no_constants) refl refl

-- A body without temporaries begins with its statements.
pub header_begin : (kept : Kept) (b : Body) (ws : List Word) → starts_with_bar ws ≡ false
    → machine_run kept (header b) ws ≡ machine_run kept (begin b) ws
header_begin kept b [] none = refl
header_begin kept b (word bar x t ∷ ws) none = absurd (true≢false none)
header_begin kept b (word kind x t ∷ ws) none = refl

-- A block without parameters begins with its temporaries.
pub params_header : (kept : Kept) (k : Slot) (names : List Bytes) (ws : List Word) → starts_with_colon ws ≡ false
    → machine_run kept (in_params k names []) ws ≡ machine_run kept (header (in_block k names [] [] no_statements)) ws
params_header kept k names [] none = refl
params_header kept k names (word colon x t ∷ ws) none = absurd (true≢false none)
params_header kept k names (word kind x t ∷ ws) none = refl

no_colon_expression : {ws : List Word} → Starts ws → starts_with_colon ws ≡ false
no_colon_expression identifier_starts = refl
no_colon_expression number_starts = refl
no_colon_expression character_starts = refl
no_colon_expression string_starts = refl
no_colon_expression symbol_starts = refl
no_colon_expression (minus_starts m) = refl
no_colon_expression paren_starts = refl
no_colon_expression block_starts = refl
no_colon_expression array_starts = refl

pub no_colon_statements : {kept : Kept} {ss : List Scope} {d : ℕ} {body : Statements} {ws us : List Word}
    → ReadsStatements kept ss d body ws us → starts_with_colon us ≡ false → starts_with_colon ws ≡ false
no_colon_statements statements_end none = none
no_colon_statements (statements_on (a_plain e) rest) none = no_colon_expression (starts_expression e)
no_colon_statements (statements_on (a_return e) rest) none = refl

pub no_colon_temps : {kept : Kept} {ps ts : List Bytes} {ws us : List Word} → ReadsTemps kept ps ts ws us
    → starts_with_colon us ≡ false → starts_with_colon ws ≡ false
no_colon_temps (no_temps b) none = none
no_colon_temps (some_temps ts) none = refl
