-- The machine is after a `-` that wants its number only where the last word is one.
use Rattle.std.proofs.Common.{◌≡◌, refl, sym, subst, Bool, true, false, cond, not, ◌&&◌, true≢false, nat_lt, Some, List}
use Rattle.std.proofs.Common.{[], ◌∷◌}
use Rattle.std.proofs.lemmas.Slice.Eq.{bytes_eq-Decides}
use Rattle.texts.specs.Bytes.{Bytes}
use Rattle.st_grammar.specs.declared.limits.TheConstants.{DEPTH_LIMIT}
use Rattle.st_tree.specs.Trees.{sym as symbol_of, array, Constants, name, Expression, no_statements}
use Rattle.st_grammar.specs.Tokens.{Kind, identifier, keyword, number, character, string, symbol, binary, bar, assign}
use Rattle.st_grammar.specs.Tokens.{colon, caret, semicolon, period, open_paren, close_paren, open_bracket}
use Rattle.st_grammar.specs.Tokens.{close_bracket, open_array}
use Rattle.st_grammar.specs.Grammar.{Word, word, p7, p8, p9, Kept, passes, is_super, may_assign, may_declare, is_minus}
use Rattle.st_grammar.specs.Grammar.{is_sign, Next, any_message, goes_on, takes_unary, Form, chunk, method}
use Rattle.st_grammar_laws.specs.Machine.{Body, top, in_block, Seat, in_body, in_paren, Wide, alone, keyword_part, Slot}
use Rattle.st_grammar_laws.specs.Machine.{outer, Nest, of_head, in_array, State, at_pattern, pattern_operator}
use Rattle.st_grammar_laws.specs.Machine.{pattern_keyword, pattern_more, header, in_temps, begin, ended, want, named}
use Rattle.st_grammar_laws.specs.Machine.{minus, have, after_semicolon, in_params, param_wanted, in_elements}
use Rattle.st_grammar_laws.specs.Machine.{element_minus, element_run, Verdict, goes, breaks, stuck, bare, one_more}
use Rattle.st_grammar_laws.specs.Machine.{has_messages, declared, depth_of, depth_nest, scopes_of, level_of, wide_of}
use Rattle.st_grammar_laws.specs.Machine.{held, next_in, seat_of, closed, keyword_at, period_at, round_at, close_block}
use Rattle.st_grammar_laws.specs.Machine.{square_at, have_step, super_takes, is_full, named_step, head_step, begin_step}
use Rattle.st_grammar_laws.specs.Machine.{ended_step, header_step, temps_step, params_step, param_step, cascade_step}
use Rattle.st_grammar_laws.specs.Machine.{close_array, elements_step, element_minus_step, element_run_step, minus_step}
use Rattle.st_grammar_laws.specs.Machine.{pattern_step, operator_step, keyword_step, more_step, machine_step, start}
use Rattle.st_grammar_laws.proofs.Paths.{Path, path_end, path_on}

abbrev pub in_minus : State → Bool
in_minus (minus k names) = true
in_minus s = false

-- The verdict on a token of this kind and with these bytes goes after a `-` only where the token is one.
abbrev Signed : Kind → Bytes → Verdict → Type 0
Signed q z (goes s) = in_minus s ≡ true → is_sign q z ≡ true
Signed q z (breaks r) = Unit {0}
Signed q z stuck = Unit {0}

off : {A : Type 0} → false ≡ true → A
off e = absurd (true≢false (sym e))

either : (q : Kind) (z : Bytes) (b : Bool) (v w : Verdict) → Signed q z v → Signed q z w → Signed q z (cond b v w)
either q z true v w h i = h
either q z false v w h i = i

-- after an expression
keyword_off : (q : Kind) (z : Bytes) (w : Wide) (e : Expression) (next : Next) (x : Bytes)
    → Signed q z (keyword_at w e next x)
keyword_off q z (alone o) e next x = either q z (goes_on next) _ stuck off tt
keyword_off q z (keyword_part o role f selector es) e next x = off

period_off : (q : Kind) (z : Bytes) (o : Seat) (e : Expression) → Signed q z (period_at o e)
period_off q z (in_body b true) e = off
period_off q z (in_body b false) e = off
period_off q z (in_paren k names) e = tt

round_off : (q : Kind) (z : Bytes) (o : Seat) (e : Expression) → Signed q z (round_at o e)
round_off q z (in_body b r) e = tt
round_off q z (in_paren k names) e = off

close_off : (q : Kind) (z : Bytes) (b : Body) → Signed q z (close_block b)
close_off q z (top selector ps ts body) = tt
close_off q z (in_block k names ps ts body) = off

square_off : (q : Kind) (z : Bytes) (o : Seat) (e : Expression) → Signed q z (square_at o e)
square_off q z (in_body (top selector ps ts body) r) e = tt
square_off q z (in_body (in_block k names ps ts body) r) e = off
square_off q z (in_paren k names) e = tt

have_off : (q : Kind) (z : Bytes) (k : Slot) (e : Expression) (next : Next) (kind : Kind) (x : Bytes)
    → Signed q z (have_step k e next kind x)
have_off q z k e next identifier x = either q z (takes_unary next) _ stuck off tt
have_off q z k e next binary x = either q z (goes_on (next_in k next)) _ stuck off tt
have_off q z k e next bar x = either q z (goes_on (next_in k next)) _ stuck off tt
have_off q z k e next keyword x = keyword_off q z (wide_of k) (held k e) (next_in k next) x
have_off q z k e next semicolon x = either q z (has_messages (closed k e)) _ stuck off tt
have_off q z k e next period x = period_off q z (seat_of k) (closed k e)
have_off q z k e next close_paren x = round_off q z (seat_of k) (closed k e)
have_off q z k e next close_bracket x = square_off q z (seat_of k) (closed k e)
have_off q z k e next _ x = tt

named_off : (q : Kind) (z : Bytes) (kept : Kept) (k : Slot) (names : List Bytes) (y : Bytes) (kind : Kind) (x : Bytes)
    → Signed q z (named_step kept k names y kind x)
named_off q z kept k names y assign x = either q z (is_full (level_of k)) _ stuck
    (either q z (passes kept p8 (may_assign (scopes_of k) y)) _ (breaks p8) off tt) tt
named_off q z kept k names y kind x = either q z (is_super y && not (super_takes (level_of k) kind)) stuck
    (have_step k (bare names (name y)) any_message kind x) tt (have_off q z k (bare names (name y)) any_message kind x)

-- the head of an expression
minus_signed : (k : Slot) (names : List Bytes) (x : Bytes) (b : Bool) → is_minus x ≡ b
    → Signed binary x (cond b (goes (minus k names)) stuck)
minus_signed k names x true e = λ i. e
minus_signed k names x false e = tt

head_signed : (kept : Kept) (k : Slot) (names : List Bytes) (kind : Kind) (x : Bytes)
    → Signed kind x (head_step kept k names kind x)
head_signed kept k names identifier x = off
head_signed kept k names number x = off
head_signed kept k names character x = off
head_signed kept k names string x = off
head_signed kept k names symbol x = off
head_signed kept k names binary x = minus_signed k names x (is_minus x) refl
head_signed kept k names open_paren x = either open_paren x (passes kept p9 (nat_lt (depth_of k) DEPTH_LIMIT)) _
    (breaks p9) off tt
head_signed kept k names open_bracket x = either open_bracket x (passes kept p9 (nat_lt (depth_of k) DEPTH_LIMIT)) _
    (breaks p9) off tt
head_signed kept k names open_array x = either open_array x (passes kept p9 (nat_lt (depth_of k) DEPTH_LIMIT)) _
    (breaks p9) off tt
head_signed kept k names _ x = tt

-- bodies
begin_signed : (kept : Kept) (b : Body) (kind : Kind) (x : Bytes) → Signed kind x (begin_step kept b kind x)
begin_signed kept b caret x = off
begin_signed kept b close_bracket x = close_off close_bracket x b
begin_signed kept b kind x = head_signed kept (outer (alone (in_body b false))) [] kind x

ended_off : (x : Bytes) (b : Body) (kind : Kind) → Signed kind x (ended_step b kind)
ended_off x b close_bracket = close_off close_bracket x b
ended_off x b _ = tt

header_signed : (kept : Kept) (b : Body) (kind : Kind) (x : Bytes) → Signed kind x (header_step kept b kind x)
header_signed kept b bar x = off
header_signed kept b kind x = begin_signed kept b kind x

temps_off : (kept : Kept) (b : Body) (kind : Kind) (x : Bytes) → Signed kind x (temps_step kept b kind x)
temps_off kept b identifier x = either identifier x (passes kept p7 (may_declare (declared b) x)) _ (breaks p7) off tt
temps_off kept b bar x = off
temps_off kept b _ x = tt

params_signed : (kept : Kept) (k : Slot) (names ps : List Bytes) (kind : Kind) (x : Bytes)
    → Signed kind x (params_step kept k names ps kind x)
params_signed kept k names ps colon x = off
params_signed kept k names [] kind x = header_signed kept (in_block k names [] [] no_statements) kind x
params_signed kept k names (p ∷ ps) bar x = off
params_signed kept k names (p ∷ ps) close_bracket x = off
params_signed kept k names (p ∷ ps) _ x = tt

param_off : (kept : Kept) (k : Slot) (names ps : List Bytes) (kind : Kind) (x : Bytes)
    → Signed kind x (param_step kept k names ps kind x)
param_off kept k names ps identifier x = either identifier x (passes kept p7 (may_declare ps x)) _ (breaks p7) off tt
param_off kept k names ps _ x = tt

cascade_off : (o : Seat) (e : Expression) (kind : Kind) (x : Bytes) → Signed kind x (cascade_step o e kind x)
cascade_off o e identifier x = off
cascade_off o e binary x = off
cascade_off o e bar x = off
cascade_off o e keyword x = off
cascade_off o e _ x = tt

-- literal arrays
array_off : (q : Kind) (z : Bytes) (n : Nest) (cs : Constants) → Signed q z (goes (close_array n (array cs)))
array_off q z (of_head k names) cs = off
array_off q z (in_array n ds) cs = off

elements_off : (kept : Kept) (n : Nest) (cs : Constants) (kind : Kind) (x : Bytes)
    → Signed kind x (elements_step kept n cs kind x)
elements_off kept n cs identifier x = off
elements_off kept n cs number x = off
elements_off kept n cs character x = off
elements_off kept n cs string x = off
elements_off kept n cs symbol x = off
elements_off kept n cs keyword x = off
elements_off kept n cs binary x = either binary x (is_minus x) _ _ off off
elements_off kept n cs bar x = off
elements_off kept n cs open_paren x = either open_paren x (passes kept p9 (nat_lt (depth_nest n) DEPTH_LIMIT)) _
    (breaks p9) off tt
elements_off kept n cs open_array x = either open_array x (passes kept p9 (nat_lt (depth_nest n) DEPTH_LIMIT)) _
    (breaks p9) off tt
elements_off kept n cs close_paren x = array_off close_paren x n cs
elements_off kept n cs _ x = tt

abbrev SignedWord : Word → Verdict → Type 0
SignedWord (word kind x t) v = Signed kind x v

element_minus_off : (kept : Kept) (n : Nest) (cs : Constants) (m : Bytes) (w : Word)
    → SignedWord w (element_minus_step kept n cs m w)
element_minus_off kept n cs m (word number x true) = off
element_minus_off kept n cs m (word kind x t) = elements_off kept n (one_more cs (symbol_of m)) kind x

element_run_off : (kept : Kept) (n : Nest) (cs : Constants) (run : Bytes) (w : Word)
    → SignedWord w (element_run_step kept n cs run w)
element_run_off kept n cs run (word keyword x true) = off
element_run_off kept n cs run (word kind x t) = elements_off kept n (one_more cs (symbol_of run)) kind x

minus_off : (k : Slot) (names : List Bytes) (w : Word) → SignedWord w (minus_step k names w)
minus_off k names (word number x true) = off
minus_off k names (word kind x t) = tt

-- patterns
pattern_off : (kind : Kind) (x : Bytes) → Signed kind x (pattern_step kind x)
pattern_off identifier x = off
pattern_off binary x = off
pattern_off bar x = off
pattern_off keyword x = off
pattern_off _ x = tt

operator_off : (kept : Kept) (selector : Bytes) (kind : Kind) (x : Bytes)
    → Signed kind x (operator_step kept selector kind x)
operator_off kept selector identifier x = either identifier x (passes kept p7 (may_declare [] x)) _ (breaks p7) off tt
operator_off kept selector _ x = tt

keyword_param_off : (kept : Kept) (selector : Bytes) (ps : List Bytes) (kind : Kind) (x : Bytes)
    → Signed kind x (keyword_step kept selector ps kind x)
keyword_param_off kept selector ps identifier x = either identifier x (passes kept p7 (may_declare ps x)) _
    (breaks p7) off tt
keyword_param_off kept selector ps _ x = tt

more_signed : (kept : Kept) (selector : Bytes) (ps : List Bytes) (kind : Kind) (x : Bytes)
    → Signed kind x (more_step kept selector ps kind x)
more_signed kept selector ps keyword x = off
more_signed kept selector ps kind x = header_signed kept (top (Some selector) ps [] no_statements) kind x

signed : (kept : Kept) (s : State) (w : Word) → SignedWord w (machine_step kept s w)
signed kept at_pattern (word kind x t) = pattern_off kind x
signed kept (pattern_operator selector) (word kind x t) = operator_off kept selector kind x
signed kept (pattern_keyword selector ps) (word kind x t) = keyword_param_off kept selector ps kind x
signed kept (pattern_more selector ps) (word kind x t) = more_signed kept selector ps kind x
signed kept (header b) (word kind x t) = header_signed kept b kind x
signed kept (in_temps b) (word kind x t) = temps_off kept b kind x
signed kept (begin b) (word kind x t) = begin_signed kept b kind x
signed kept (ended b) (word kind x t) = ended_off x b kind
signed kept (want k names) (word kind x t) = head_signed kept k names kind x
signed kept (named k names y) (word kind x t) = named_off kind x kept k names y kind x
signed kept (minus k names) (word kind x t) = minus_off k names (word kind x t)
signed kept (have k e next) (word kind x t) = have_off kind x k e next kind x
signed kept (after_semicolon o e) (word kind x t) = cascade_off o e kind x
signed kept (in_params k names ps) (word kind x t) = params_signed kept k names ps kind x
signed kept (param_wanted k names ps) (word kind x t) = param_off kept k names ps kind x
signed kept (in_elements n cs) (word kind x t) = elements_off kept n cs kind x
signed kept (element_minus n cs m) (word kind x t) = element_minus_off kept n cs m (word kind x t)
signed kept (element_run n cs r) (word kind x t) = element_run_off kept n cs r (word kind x t)

-- paths
abbrev pub sign : Word → Bool
sign (word kind x t) = is_sign kind x

abbrev pub ends_in_sign : List Word → Bool
ends_in_sign [] = false
ends_in_sign (w ∷ []) = sign w
ends_in_sign (w ∷ v ∷ ws) = ends_in_sign (v ∷ ws)

signed_step : (kept : Kept) (s s' : State) (w : Word) → machine_step kept s w ≡ goes s' → in_minus s' ≡ true
    → sign w ≡ true
signed_step kept s s' (word kind x t) e = subst (Signed kind x) e (signed kept s (word kind x t))

pub path_signs : (kept : Kept) (s end : State) (w : Word) (ws : List Word) → Path kept s (w ∷ ws) end
    → in_minus end ≡ true → ends_in_sign (w ∷ ws) ≡ true
path_signs kept s end w [] (path_on e path_end) m = signed_step kept s _ w e m
path_signs kept s end w (v ∷ ws) (path_on {u = s'} e path) m = path_signs kept s' end v ws path m

pub no_path : {A : Type 0} {kept : Kept} {end : State} (form : Form) → Path kept (start form) [] end
    → in_minus end ≡ true → A
no_path chunk path_end m = off m
no_path method path_end m = off m

pub sign_is : (kind : Kind) (x : Bytes) → is_sign kind x ≡ true → (kind ≡ binary) × (x ≡ 45 ∷ [])
sign_is binary x e = (refl, (bytes_eq-Decides x (45 ∷ [])).0 e)
sign_is _ x e = off e
