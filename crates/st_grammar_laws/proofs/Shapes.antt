-- What of a step depends on the rules that are kept: nothing, or one test.
use Rattle.std.proofs.Common.{◌≡◌, Bool, true, false, cond, ◌&&◌, not, Some, List, [], ◌∷◌, refl, sym, ◌∙◌, subst}
use Rattle.texts.specs.Bytes.{Bytes}
use Rattle.st_tree.specs.Trees.{Expression, Constants, no_statements, name, sym as sym_constant}
use Rattle.st_grammar.specs.Tokens.{Kind, identifier, keyword, number, character, string, symbol, binary, bar, assign}
use Rattle.st_grammar.specs.Tokens.{colon, caret, semicolon, period, open_paren, close_paren, open_bracket}
use Rattle.st_grammar.specs.Tokens.{close_bracket, open_array}
use Rattle.st_grammar.specs.Grammar.{Word, word, GrammarRule, p7, p8, p9, Kept, is_super, is_minus, Next, any_message}
use Rattle.st_grammar.specs.Grammar.{takes_unary, goes_on}
use Rattle.st_grammar.specs.Fails.{every, but}
use Rattle.st_grammar_laws.specs.Machine.{Body, top, in_block, Seat, in_body, in_paren, Wide, alone, keyword_part, Slot}
use Rattle.st_grammar_laws.specs.Machine.{outer, Nest, State, at_pattern, pattern_operator, pattern_keyword}
use Rattle.st_grammar_laws.specs.Machine.{pattern_more, header, in_temps, begin, ended, want, named, minus, have}
use Rattle.st_grammar_laws.specs.Machine.{after_semicolon, in_params, param_wanted, in_elements, element_minus}
use Rattle.st_grammar_laws.specs.Machine.{element_run, Verdict, goes, breaks, stuck, check, bare, one_more}
use Rattle.st_grammar_laws.specs.Machine.{has_messages, with_statement, wide_of, seat_of, held, next_in, closed}
use Rattle.st_grammar_laws.specs.Machine.{keyword_at, period_at, round_at, square_at, close_block, have_step}
use Rattle.st_grammar_laws.specs.Machine.{named_step, head_step, begin_step, header_step, params_step, elements_step}
use Rattle.st_grammar_laws.specs.Machine.{more_step, level_of, super_takes, is_full, machine_step}

-- the rules that a text may be let off
pub data MayBeLeft : GrammarRule → Type 0 where
  p7_may : MayBeLeft p7
  p8_may : MayBeLeft p8
  p9_may : MayBeLeft p9

-- what a step can be, as a function of the rules that are kept
pub data Shape (f : Kept → Verdict) : Type 0 where
  goes_always : (u : State) → ((kept : Kept) → f kept ≡ goes u) → Shape f
  stuck_always : ((kept : Kept) → f kept ≡ stuck) → Shape f
  checks : (r : GrammarRule) → MayBeLeft r → (test : Bool) (u : State) → ((kept : Kept) → f kept ≡ check kept r test u)
      → Shape f

goes_shape : (u : State) → Shape (λ kept. goes u)
goes_shape u = goes_always u (λ kept. refl)

stuck_shape : Shape (λ kept. stuck)
stuck_shape = stuck_always (λ kept. refl)

check_shape : (r : GrammarRule) → MayBeLeft r → (test : Bool) (u : State) → Shape (λ kept. check kept r test u)
check_shape r may test u = checks r may test u (λ kept. refl)

if_shape : (v : Bool) (f g : Kept → Verdict) → Shape f → Shape g → Shape (λ kept. cond v (f kept) (g kept))
if_shape true f g a b = a
if_shape false f g a b = b

keyword_shape : (w : Wide) (e : Expression) (next : Next) (x : Bytes) → Shape (λ kept. keyword_at w e next x)
keyword_shape (alone o) e next x = if_shape (goes_on next) (λ kept. goes _) (λ kept. stuck) (goes_shape _) stuck_shape
keyword_shape (keyword_part o role f selector es) e next x = goes_shape _

period_shape : (o : Seat) (e : Expression) → Shape (λ kept. period_at o e)
period_shape (in_body b true) e = goes_shape _
period_shape (in_body b false) e = goes_shape _
period_shape (in_paren k names) e = stuck_shape

round_shape : (o : Seat) (e : Expression) → Shape (λ kept. round_at o e)
round_shape (in_body b r) e = stuck_shape
round_shape (in_paren k names) e = goes_shape _

block_shape : (b : Body) → Shape (λ kept. close_block b)
block_shape (top selector ps ts body) = stuck_shape
block_shape (in_block k names ps ts body) = goes_shape _

square_shape : (o : Seat) (e : Expression) → Shape (λ kept. square_at o e)
square_shape (in_body b r) e = block_shape (with_statement b _)
square_shape (in_paren k names) e = stuck_shape

have_shape : (k : Slot) (e : Expression) (next : Next) (kind : Kind) (x : Bytes)
    → Shape (λ kept. have_step k e next kind x)
have_shape k e next identifier x = if_shape (takes_unary next) (λ kept. goes _)
    (λ kept. stuck) (goes_shape _) stuck_shape
have_shape k e next binary x = if_shape (goes_on (next_in k next)) (λ kept. goes _)
    (λ kept. stuck) (goes_shape _) stuck_shape
have_shape k e next bar x = if_shape (goes_on (next_in k next)) (λ kept. goes _)
    (λ kept. stuck) (goes_shape _) stuck_shape
have_shape k e next keyword x = keyword_shape (wide_of k) (held k e) (next_in k next) x
have_shape k e next semicolon x = if_shape (has_messages (closed k e)) (λ kept. goes _)
    (λ kept. stuck) (goes_shape _) stuck_shape
have_shape k e next period x = period_shape (seat_of k) (closed k e)
have_shape k e next close_paren x = round_shape (seat_of k) (closed k e)
have_shape k e next close_bracket x = square_shape (seat_of k) (closed k e)
have_shape k e next _ x = stuck_shape

named_shape : (k : Slot) (names : List Bytes) (y : Bytes) (kind : Kind) (x : Bytes)
    → Shape (λ kept. named_step kept k names y kind x)
named_shape k names y assign x = if_shape (is_full (level_of k)) (λ kept. check kept p8 _ _)
    (λ kept. stuck) (check_shape p8 p8_may _ _) stuck_shape
named_shape k names y kind x = if_shape (is_super y && not (super_takes (level_of k) kind)) (λ kept. stuck)
    (λ kept. have_step k (bare names (name y)) any_message kind x) stuck_shape
    (have_shape k (bare names (name y)) any_message kind x)

head_shape : (k : Slot) (names : List Bytes) (kind : Kind) (x : Bytes) → Shape (λ kept. head_step kept k names kind x)
head_shape k names identifier x = goes_shape _
head_shape k names number x = goes_shape _
head_shape k names character x = goes_shape _
head_shape k names string x = goes_shape _
head_shape k names symbol x = goes_shape _
head_shape k names binary x = if_shape (is_minus x) (λ kept. goes _) (λ kept. stuck) (goes_shape _) stuck_shape
head_shape k names open_paren x = check_shape p9 p9_may _ _
head_shape k names open_bracket x = check_shape p9 p9_may _ _
head_shape k names open_array x = check_shape p9 p9_may _ _
head_shape k names _ x = stuck_shape

begin_shape : (b : Body) (kind : Kind) (x : Bytes) → Shape (λ kept. begin_step kept b kind x)
begin_shape b caret x = goes_shape _
begin_shape b close_bracket x = block_shape b
begin_shape b kind x = head_shape (outer (alone (in_body b false))) [] kind x

header_shape : (b : Body) (kind : Kind) (x : Bytes) → Shape (λ kept. header_step kept b kind x)
header_shape b bar x = goes_shape _
header_shape b kind x = begin_shape b kind x

params_shape : (k : Slot) (names ps : List Bytes) (kind : Kind) (x : Bytes)
    → Shape (λ kept. params_step kept k names ps kind x)
params_shape k names ps colon x = goes_shape _
params_shape k names [] kind x = header_shape (in_block k names [] [] no_statements) kind x
params_shape k names (p ∷ ps) bar x = goes_shape _
params_shape k names (p ∷ ps) close_bracket x = goes_shape _
params_shape k names (p ∷ ps) _ x = stuck_shape

elements_shape : (n : Nest) (cs : Constants) (kind : Kind) (x : Bytes) → Shape (λ kept. elements_step kept n cs kind x)
elements_shape n cs identifier x = goes_shape _
elements_shape n cs number x = goes_shape _
elements_shape n cs character x = goes_shape _
elements_shape n cs string x = goes_shape _
elements_shape n cs symbol x = goes_shape _
elements_shape n cs keyword x = goes_shape _
elements_shape n cs binary x = if_shape (is_minus x) (λ kept. goes _) (λ kept. goes _) (goes_shape _) (goes_shape _)
elements_shape n cs bar x = goes_shape _
elements_shape n cs open_paren x = check_shape p9 p9_may _ _
elements_shape n cs open_array x = check_shape p9 p9_may _ _
elements_shape n cs close_paren x = goes_shape _
elements_shape n cs _ x = stuck_shape

more_shape : (selector : Bytes) (ps : List Bytes) (kind : Kind) (x : Bytes)
    → Shape (λ kept. more_step kept selector ps kind x)
more_shape selector ps keyword x = goes_shape _
more_shape selector ps kind x = header_shape (top (Some selector) ps [] no_statements) kind x

pub shape : (s : State) (kind : Kind) (x : Bytes) (t : Bool) → Shape (λ kept. machine_step kept s (word kind x t))
shape at_pattern identifier x t = goes_shape _
shape at_pattern binary x t = goes_shape _
shape at_pattern bar x t = goes_shape _
shape at_pattern keyword x t = goes_shape _
shape at_pattern _ x t = stuck_shape
shape (pattern_operator selector) identifier x t = check_shape p7 p7_may _ _
shape (pattern_operator selector) _ x t = stuck_shape
shape (pattern_keyword selector ps) identifier x t = check_shape p7 p7_may _ _
shape (pattern_keyword selector ps) _ x t = stuck_shape
shape (pattern_more selector ps) kind x t = more_shape selector ps kind x
shape (header b) kind x t = header_shape b kind x
shape (in_temps b) identifier x t = check_shape p7 p7_may _ _
shape (in_temps b) bar x t = goes_shape _
shape (in_temps b) _ x t = stuck_shape
shape (begin b) kind x t = begin_shape b kind x
shape (ended b) close_bracket x t = block_shape b
shape (ended b) _ x t = stuck_shape
shape (want k names) kind x t = head_shape k names kind x
shape (named k names y) kind x t = named_shape k names y kind x
shape (minus k names) number x true = goes_shape _
shape (minus k names) number x false = stuck_shape
shape (minus k names) _ x t = stuck_shape
shape (have k e next) kind x t = have_shape k e next kind x
shape (after_semicolon o e) identifier x t = goes_shape _
shape (after_semicolon o e) binary x t = goes_shape _
shape (after_semicolon o e) bar x t = goes_shape _
shape (after_semicolon o e) keyword x t = goes_shape _
shape (after_semicolon o e) _ x t = stuck_shape
shape (in_params k names ps) kind x t = params_shape k names ps kind x
shape (param_wanted k names ps) identifier x t = check_shape p7 p7_may _ _
shape (param_wanted k names ps) _ x t = stuck_shape
shape (in_elements n cs) kind x t = elements_shape n cs kind x
shape (element_minus n cs m) number x true = goes_shape _
shape (element_minus n cs m) number x false = goes_shape _
shape (element_minus n cs m) kind x t = elements_shape n (one_more cs (sym_constant m)) kind x
shape (element_run n cs run) keyword x true = goes_shape _
shape (element_run n cs run) keyword x false = goes_shape _
shape (element_run n cs run) kind x t = elements_shape n (one_more cs (sym_constant run)) kind x

-- What follows for the grammar without one rule.
goes_is_not_stuck : (u : State) → goes u ≡ stuck → ⊥
goes_is_not_stuck u e = cc

goes_does_not_break : (u : State) (r : GrammarRule) → goes u ≡ breaks r → ⊥
goes_does_not_break u r e = cc

stuck_does_not_break : (r : GrammarRule) → stuck ≡ breaks r → ⊥
stuck_does_not_break r e = cc

same_broken : (q r : GrammarRule) → breaks q ≡ breaks r → q ≡ r
same_broken q r e = cc

passed : (kept : Bool) (r : GrammarRule) (v : State) → cond (cond kept true true) (goes v) (breaks r) ≡ goes v
passed true r v = refl
passed false r v = refl

check_lax : (kept : Kept) (r : GrammarRule) (test : Bool) (v u : State) → check every r test v ≡ goes u
    → check kept r test v ≡ goes u
check_lax kept r true v u h = passed (kept r) r v ∙ h
check_lax kept r false v u h = absurd (goes_does_not_break u r (sym h))

lax_by : {f : Kept → Verdict} → Shape f → (kept : Kept) (u : State) → f every ≡ goes u → f kept ≡ goes u
lax_by (goes_always v e) kept u h = e kept ∙ sym (e every) ∙ h
lax_by (stuck_always e) kept u h = absurd (goes_is_not_stuck u (sym h ∙ e every))
lax_by (checks r may test v e) kept u h = e kept ∙ check_lax kept r test v u (sym (e every) ∙ h)

check_not_stuck : (r : GrammarRule) (test : Bool) (v : State) → check every r test v ≡ stuck → ⊥
check_not_stuck r true v h = goes_is_not_stuck v h
check_not_stuck r false v h = stuck_does_not_break r (sym h)

stuck_by : {f : Kept → Verdict} → Shape f → (kept : Kept) → f every ≡ stuck → f kept ≡ stuck
stuck_by (goes_always v e) kept h = absurd (goes_is_not_stuck v (sym (e every) ∙ h))
stuck_by (stuck_always e) kept h = e kept
stuck_by (checks r may test v e) kept h = absurd (check_not_stuck r test v (sym (e every) ∙ h))

-- the rule that a token breaks is one that may be left, and without it the token can come
pub record Excused (f : Kept → Verdict) (r : GrammarRule) : Type 0 where
  pub may : MayBeLeft r
  pub next : State
  pub goes_there : f (but r) ≡ goes next

left_off : (r : GrammarRule) (v : State) → MayBeLeft r → check (but r) r false v ≡ goes v
left_off r v p7_may = refl
left_off r v p8_may = refl
left_off r v p9_may = refl

check_excused : (q r : GrammarRule) (test : Bool) (v : State) → MayBeLeft q → check every q test v ≡ breaks r
    → Excused (λ kept. check kept q test v) r
check_excused q r true v may h = absurd (goes_does_not_break v r h)
check_excused q r false v may h = subst
    (λ r. Excused (λ kept. check kept q false v) r) (same_broken q r h) (record
    { may = may; next = v; goes_there = left_off q v may })

excused_by : {f : Kept → Verdict} {r : GrammarRule} → Shape f → f every ≡ breaks r → Excused f r
excused_by {r = r} (goes_always v e) h = absurd (goes_does_not_break v r (sym (e every) ∙ h))
excused_by {r = r} (stuck_always e) h = absurd (stuck_does_not_break r (sym (e every) ∙ h))
excused_by {r = r} (checks q may test v e) h = let x = check_excused q r test v may (sym (e every) ∙ h) in record
    { may = x.may; next = x.next; goes_there = e (but r) ∙ x.goes_there }

-- only without that rule it can come
check_only : (p q : GrammarRule) (v u : State) → MayBeLeft p → MayBeLeft q → check (but p) q false v ≡ goes u → p ≡ q
check_only p q v u p7_may p7_may h = refl
check_only p q v u p7_may p8_may h = absurd (goes_does_not_break u _ (sym h))
check_only p q v u p7_may p9_may h = absurd (goes_does_not_break u _ (sym h))
check_only p q v u p8_may p7_may h = absurd (goes_does_not_break u _ (sym h))
check_only p q v u p8_may p8_may h = refl
check_only p q v u p8_may p9_may h = absurd (goes_does_not_break u _ (sym h))
check_only p q v u p9_may p7_may h = absurd (goes_does_not_break u _ (sym h))
check_only p q v u p9_may p8_may h = absurd (goes_does_not_break u _ (sym h))
check_only p q v u p9_may p9_may h = refl

check_only_excused : (p q r : GrammarRule) (test : Bool) (v u : State) → MayBeLeft p → MayBeLeft q
    → check every q test v ≡ breaks r → check (but p) q test v ≡ goes u → p ≡ r
check_only_excused p q r true v u may there h g = absurd (goes_does_not_break v r h)
check_only_excused p q r false v u may there h g = check_only p q v u may there g ∙ same_broken q r h

only_excused_by : {f : Kept → Verdict} {r : GrammarRule} (p : GrammarRule) (u : State) → MayBeLeft p → Shape f
    → f every ≡ breaks r → f (but p) ≡ goes u → p ≡ r
only_excused_by {r = r} p u may (goes_always v e) h g = absurd (goes_does_not_break v r (sym (e every) ∙ h))
only_excused_by {r = r} p u may (stuck_always e) h g = absurd (stuck_does_not_break r (sym (e every) ∙ h))
only_excused_by {r = r} p u may (checks q there test v e) h g = check_only_excused p q r test v u may there
    (sym (e every) ∙ h) (sym (e (but p)) ∙ g)

pub lax : (kept : Kept) (s u : State) (w : Word) → machine_step every s w ≡ goes u → machine_step kept s w ≡ goes u
lax kept s u (word kind x t) h = lax_by (shape s kind x t) kept u h

pub always_stuck : (kept : Kept) (s : State) (w : Word) → machine_step every s w ≡ stuck → machine_step kept s w ≡ stuck
always_stuck kept s (word kind x t) h = stuck_by (shape s kind x t) kept h

pub excused : (s : State) (w : Word) (r : GrammarRule) → machine_step every s w ≡ breaks r
    → Excused (λ kept. machine_step kept s w) r
excused s (word kind x t) r h = excused_by (shape s kind x t) h

pub only_excused : (s u : State) (w : Word) (p r : GrammarRule) → MayBeLeft p → machine_step every s w ≡ breaks r
    → machine_step (but p) s w ≡ goes u → p ≡ r
only_excused s u (word kind x t) p r may h g = only_excused_by p u may (shape s kind x t) h g
