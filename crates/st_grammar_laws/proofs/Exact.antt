-- A text fails exactly where the machine halts, and by the rule that the machine gives.
use Rattle.std.proofs.Common.{◌≡◌, ℕ, ◌==◌, Bool, false, Option, Some, None, Result, Ok, Err, List, [], ◌∷◌, ◌++◌, refl}
use Rattle.std.proofs.Common.{sym, ap, ◌∙◌, subst, append_assoc, append-nil}
use Rattle.texts.specs.Bytes.{Bytes}
use Rattle.st_tree.specs.Trees.{Program}
use Rattle.st_grammar.specs.Tokens.{Kind, close_paren, close_bracket, Token, Lexes, text_of, end_after}
use Rattle.st_grammar.specs.Grammar.{Word, word, GrammarRule, p7, p8, p9, Kept, Form, words_after, words_of}
use Rattle.st_grammar.specs.Fails.{every, but, Continues, CouldStand, IsForbidden, Bracket, square, round, Breaks}
use Rattle.st_grammar.specs.Fails.{FailsBehind}
use Rattle.st_grammar_laws.specs.Machine.{State, at_pattern, pattern_operator, pattern_keyword, pattern_more, header}
use Rattle.st_grammar_laws.specs.Machine.{in_temps, begin, ended, want, named, minus, have, after_semicolon, in_params}
use Rattle.st_grammar_laws.specs.Machine.{param_wanted, in_elements, element_minus, element_run, Verdict, goes, breaks}
use Rattle.st_grammar_laws.specs.Machine.{stuck, machine_step, last, bracket, blame, blame_of, go, finish, machine_run}
use Rattle.st_grammar_laws.specs.Machine.{start, Fault}
use Rattle.st_grammar_laws.proofs.Complete.{complete}
use Rattle.st_grammar_laws.proofs.Paths.{Path, path_end, path_on, run_path, Halted, at_end, at_broken, at_stuck, fault}
use Rattle.st_grammar_laws.proofs.Paths.{first_word, words_joined}
use Rattle.st_grammar_laws.proofs.TextWords.{words_same}
use Rattle.st_grammar_laws.proofs.Refuses.{refuses, halts_there}
use Rattle.st_grammar_laws.proofs.OpenBrackets.{path_bracket}
use Rattle.st_grammar_laws.proofs.Shapes.{MayBeLeft, p7_may, p8_may, p9_may, lax, always_stuck, excused}

-- paths
pub path_joined : {kept : Kept} {s u v : State} {ws vs : List Word} → Path kept s ws u → Path kept u vs v
    → Path kept s (ws ++ vs) v
path_joined path_end q = q
path_joined (path_on e p) q = path_on e (path_joined p q)

pub path_lax : (kept : Kept) {s u : State} {ws : List Word} → Path every s ws u → Path kept s ws u
path_lax kept path_end = path_end
path_lax kept {s} (path_on {u = v} {w = w} e p) = path_on (lax kept s v w e) (path_lax kept p)

-- a path by the tokens seen, and one token on
pub path_seen : {kept : Kept} {s u v : State} (text : Bytes) (seen : List Token) (t : Token)
    → Path kept s (words_of text seen) u → machine_step kept u (first_word (end_after 0 seen) text t) ≡ goes v
    → Path kept s (words_of text (seen ++ t ∷ [])) v
path_seen {kept} {s} {u} {v} text seen t p e = subst
    (λ ws. Path kept s ws v) (sym (words_joined 0 text seen (t ∷ []))) (path_joined p (path_on e path_end))

-- what the machine reads it goes through
not_ok_broken : (v : Verdict) (r : GrammarRule) (ws : List Word) (on : State → Result Program Fault) (program : Program)
    → go r ws on v ≡ Ok program → (u : State) × (v ≡ goes u) × (on u ≡ Ok program)
not_ok_broken (goes u) r ws on program e = (u, refl, e)
not_ok_broken (breaks q) r ws on program e = absurd (failed (fault ws q) program e) where
  failed : (f : Fault) (program : Program) → Err f ≡ Ok program → ⊥
  failed f program e = cc
not_ok_broken stuck r ws on program e = absurd (failed (fault ws r) program e) where
  failed : (f : Fault) (program : Program) → Err f ≡ Ok program → ⊥
  failed f program e = cc

pub first_goes : (kept : Kept) (s : State) (w : Word) (ws : List Word) (program : Program)
    → machine_run kept s (w ∷ ws) ≡ Ok program
    → (u : State) × (machine_step kept s w ≡ goes u) × (machine_run kept u ws ≡ Ok program)
first_goes kept s w ws program e = not_ok_broken (machine_step kept s w) (blame kept s) (w ∷ ws)
    (λ u. machine_run kept u ws) program e

pub path_of_run : (kept : Kept) (s : State) (ws vs : List Word) (program : Program)
    → machine_run kept s (ws ++ vs) ≡ Ok program → (u : State) × Path kept s ws u × (machine_run kept u vs ≡ Ok program)
path_of_run kept s [] vs program e = (s, path_end, e)
path_of_run kept s (w ∷ ws) vs program e =
    let one = first_goes kept s w (ws ++ vs) program e in
    let more = path_of_run kept one.0 ws vs program one.2 in
    (more.0, path_on one.1 more.1, more.2)

pub run_reaches : {kept : Kept} {s u : State} {ws : List Word} (program : Program) → Path kept s ws u
    → last u ≡ Some program → machine_run kept s ws ≡ Ok program
run_reaches {kept} {s} {u} {ws} program p e = ap (machine_run kept s) (sym (append-nil ws)) ∙ run_path p []
    ∙ ap (finish (blame kept u)) e

-- What texts supply: a text of the lexer for each way on that the machine has.
abbrev pub Supplies : Type 0
Supplies = (kept : Kept) (form : Form) (text : Bytes) (seen left : List Token) (u : State) → Lexes 0 text (seen ++ left)
    → Path kept (start form) (words_of text seen) u → Continues kept form text seen

-- the brackets that close
pub data Closer : Kind → Bytes → Type 0 where
  square_closes : Closer close_bracket (93 ∷ [])
  round_closes : Closer close_paren (41 ∷ [])

abbrev pub Stands : Type 0
Stands = (kind : Kind) (x : Bytes) → Closer kind x → (form : Form) (text : Bytes) (seen left : List Token) (u v : State)
    → Lexes 0 text (seen ++ left) → Path every (start form) (words_of text seen) u
    → machine_step every u (word kind x false) ≡ goes v → CouldStand form kind text seen

square_step : (kept : Kept) (s : State) (x : Bytes) (t : Bool)
    → machine_step kept s (word close_bracket x t) ≡ machine_step kept s (word close_bracket (93 ∷ []) false)
square_step kept at_pattern x t = refl
square_step kept (pattern_operator selector) x t = refl
square_step kept (pattern_keyword selector ps) x t = refl
square_step kept (pattern_more selector ps) x t = refl
square_step kept (header b) x t = refl
square_step kept (in_temps b) x t = refl
square_step kept (begin b) x t = refl
square_step kept (ended b) x t = refl
square_step kept (want k names) x t = refl
square_step kept (named k names y) x t = refl
square_step kept (minus k names) x t = refl
square_step kept (have k e next) x t = refl
square_step kept (after_semicolon o e) x t = refl
square_step kept (in_params k names []) x t = refl
square_step kept (in_params k names (p ∷ ps)) x t = refl
square_step kept (param_wanted k names ps) x t = refl
square_step kept (in_elements n cs) x t = refl
square_step kept (element_minus n cs m) x t = refl
square_step kept (element_run n cs r) x t = refl

round_step : (kept : Kept) (s : State) (x : Bytes) (t : Bool)
    → machine_step kept s (word close_paren x t) ≡ machine_step kept s (word close_paren (41 ∷ []) false)
round_step kept at_pattern x t = refl
round_step kept (pattern_operator selector) x t = refl
round_step kept (pattern_keyword selector ps) x t = refl
round_step kept (pattern_more selector ps) x t = refl
round_step kept (header b) x t = refl
round_step kept (in_temps b) x t = refl
round_step kept (begin b) x t = refl
round_step kept (ended b) x t = refl
round_step kept (want k names) x t = refl
round_step kept (named k names y) x t = refl
round_step kept (minus k names) x t = refl
round_step kept (have k e next) x t = refl
round_step kept (after_semicolon o e) x t = refl
round_step kept (in_params k names []) x t = refl
round_step kept (in_params k names (p ∷ ps)) x t = refl
round_step kept (param_wanted k names ps) x t = refl
round_step kept (in_elements n cs) x t = refl
round_step kept (element_minus n cs m) x t = refl
round_step kept (element_run n cs r) x t = refl

closer_step : (kept : Kept) (s : State) {kind : Kind} {x : Bytes} → Closer kind x → (k : Kind) (y : Bytes) (t : Bool)
    → k ≡ kind → machine_step kept s (word k y t) ≡ machine_step kept s (word kind x false)
closer_step kept s square_closes k y t e = ap (λ k. machine_step kept s (word k y t)) e ∙ square_step kept s y t
closer_step kept s round_closes k y t e = ap (λ k. machine_step kept s (word k y t)) e ∙ round_step kept s y t

-- where a bracket could stand, the machine takes it
stands_goes : {form : Form} {kind : Kind} {x : Bytes} {text : Bytes} {seen : List Token} {u : State} → Closer kind x
    → CouldStand form kind text seen → Path every (start form) (words_of text seen) u
    → (v : State) × (machine_step every u (word kind x false) ≡ goes v)
stands_goes {form} {kind} {x} {text} {seen} {u} closer c p =
    let end : ℕ = end_after 0 seen in
    let w : Word = first_word end c.other c.next in
    let rest : List Word = words_after c.next.to c.other c.more in
    let same = words_same c.other text seen (c.next ∷ c.more) c.lexes (sym c.alike) in
    let words : words_of c.other (seen ++ c.next ∷ c.more) ≡ words_of text seen ++ w
    ∷ rest = words_joined 0 c.other seen (c.next ∷ c.more) ∙ ap (λ ws. ws ++ w ∷ rest) (sym same) in
    let ok : machine_run every u (w ∷ rest) ≡ Ok c.program = sym (run_path p (w ∷ rest))
    ∙ ap (machine_run every (start form)) (sym words) ∙ complete c.reads in
    let on = first_goes every u w rest c.program ok in
    (on.0, sym (closer_step every u closer c.next.kind (text_of c.other c.next) (c.next.from == end) c.is_kind) ∙ on.1)

-- A token that no state takes is none that one rule alone forbids.
stuck_forbidden : (form : Form) (text : Bytes) (seen : List Token) (t : Token) (left : List Token) {u : State}
    → Path every (start form) (words_of text seen) u
    → machine_step every u (first_word (end_after 0 seen) text t) ≡ stuck → IsForbidden form text seen (t ∷ left)
stuck_forbidden form text seen t left {u} p e = (no p7, no p8, no p9) where
  no : (r : GrammarRule) → Continues (but r) form text (seen ++ t ∷ []) → ⊥
  no r = refuses (but r) form text seen t
      {ws = []} (path_lax (but r) p) (at_stuck (always_stuck (but r) u (first_word (end_after 0 seen) text t) e) refl)

different : (a b : Option Bracket) → a ≡ b → (c d : Bracket) → a ≡ Some c → b ≡ Some d → c ≡ d
different a b e c d f g = cc

none_open : (b : Bracket) → None ≡ Some b → ⊥
none_open b e = cc

square_is_not_round : Some square ≡ Some round → ⊥
square_is_not_round e = cc

goes_not_breaks : (u : State) (r : GrammarRule) → breaks r ≡ goes u → ⊥
goes_not_breaks u r e = cc

goes_not_stuck : (u : State) → stuck ≡ goes u → ⊥
goes_not_stuck u e = cc

-- the rule that is blamed is the one that is broken
blamed_by : Stands → (form : Form) (text : Bytes) (seen left : List Token) (u : State) → Lexes 0 text (seen ++ left)
    → Path every (start form) (words_of text seen) u → IsForbidden form text seen left
    → (b : Option Bracket) (v w : Verdict) → bracket u ≡ b
    → machine_step every u (word close_bracket (93 ∷ []) false) ≡ v
    → machine_step every u (word close_paren (41 ∷ []) false) ≡ w → Breaks (blame_of b v w) form text seen left
blamed_by stands form text seen left u lexes p forbidden (Some square) (goes s) w is v1 w1 = (
  forbidden,
  (
    sym (path_bracket form text seen p)
        ∙ is,
    stands close_bracket (93 ∷ []) square_closes form text seen left u s lexes p v1,
  ),
)
blamed_by stands form text seen left u lexes p forbidden (Some square) (breaks r) w is v1 w1 = (
  forbidden,
  λ m. (let on = stands_goes square_closes m.1 p in goes_not_breaks on.0 r (sym v1 ∙ on.1)),
  λ m. square_is_not_round (sym (sym (path_bracket form text seen p) ∙ is) ∙ m.0),
)
blamed_by stands form text seen left u lexes p forbidden (Some square) stuck w is v1 w1 = (
  forbidden,
  λ m. (let on = stands_goes square_closes m.1 p in goes_not_stuck on.0 (sym v1 ∙ on.1)),
  λ m. square_is_not_round (sym (sym (path_bracket form text seen p) ∙ is) ∙ m.0),
)
blamed_by stands form text seen left u lexes p forbidden (Some round) v (goes s) is v1 w1 = (
  forbidden,
  (
    sym (path_bracket form text seen p)
        ∙ is,
    stands close_paren (41 ∷ []) round_closes form text seen left u s lexes p w1,
  ),
)
blamed_by stands form text seen left u lexes p forbidden (Some round) v (breaks r) is v1 w1 = (
  forbidden,
  λ m. square_is_not_round (sym m.0 ∙ (sym (path_bracket form text seen p) ∙ is)),
  λ m. (let on = stands_goes round_closes m.1 p in goes_not_breaks on.0 r (sym w1 ∙ on.1)),
)
blamed_by stands form text seen left u lexes p forbidden (Some round) v stuck is v1 w1 = (
  forbidden,
  λ m. square_is_not_round (sym m.0 ∙ (sym (path_bracket form text seen p) ∙ is)),
  λ m. (let on = stands_goes round_closes m.1 p in goes_not_stuck on.0 (sym w1 ∙ on.1)),
)
blamed_by stands form text seen left u lexes p forbidden None v w is v1 w1 = (
  forbidden,
  λ m. none_open square (sym (sym (path_bracket form text seen p) ∙ is) ∙ m.0),
  λ m. none_open round (sym (sym (path_bracket form text seen p) ∙ is) ∙ m.0),
)

blamed : Stands → (form : Form) (text : Bytes) (seen left : List Token) (u : State) (r : GrammarRule)
    → Lexes 0 text (seen ++ left) → Path every (start form) (words_of text seen) u → IsForbidden form text seen left
    → blame every u ≡ r → Breaks r form text seen left
blamed stands form text seen left u r lexes p forbidden is =
    subst (λ r. Breaks r form text seen left) is
    (blamed_by stands form text seen left u lexes p forbidden (bracket u)
    (machine_step every u (word close_bracket (93 ∷ []) false))
    (machine_step every u (word close_paren (41 ∷ []) false)) refl refl refl)

let_off : (form : Form) (text : Bytes) (seen : List Token) (t : Token) (left : List Token) (r : GrammarRule)
    → MayBeLeft r → Continues (but r) form text (seen ++ t ∷ []) → Breaks r form text seen (t ∷ left)
let_off form text seen t left r p7_may c = c
let_off form text seen t left r p8_may c = c
let_off form text seen t left r p9_may c = c

pub breaks_there : Supplies → Stands
    → (form : Form) (text : Bytes) (seen left : List Token) (u : State) (r : GrammarRule) → Lexes 0 text (seen ++ left)
    → Path every (start form) (words_of text seen) u
    → Halted every u (words_after (end_after 0 seen) text left) r → Breaks r form text seen left
breaks_there supplies stands form text seen [] u r lexes p
    (at_end none is) = blamed stands form text seen [] u r lexes p (λ h. h, λ h. h, λ h. h) is
breaks_there supplies stands form text seen (t ∷ left) u r lexes p (at_broken e) =
    let w : Word = first_word (end_after 0 seen) text t in
    let off = excused u w r e in
    let joined : Lexes 0 text ((seen ++ t ∷ []) ++ left) = subst (Lexes 0 text)
    (sym (append_assoc seen (t ∷ []) left)) lexes in
    let_off form text seen t left r off.may
    (supplies (but r) form text (seen ++ t ∷ []) left off.next joined
    (path_seen text seen t (path_lax (but r) p) off.goes_there))
breaks_there supplies stands form text seen (t ∷ left) u r lexes p (at_stuck e is) = blamed stands form text seen
    (t ∷ left) u r lexes p (stuck_forbidden form text seen t left p e) is

-- Where the machine halts, the text fails, by the machine's rule.
pub fails_there : Supplies → Stands
    → (form : Form) (text : Bytes) (seen left : List Token) (u : State) (r : GrammarRule) → Lexes 0 text (seen ++ left)
    → Path every (start form) (words_of text seen) u
    → Halted every u (words_after (end_after 0 seen) text left) r → FailsBehind form text seen left r
fails_there supplies stands form text seen left u r lexes p h = record {
  continues = supplies every form text seen left u lexes p;
  halts = halts_there form text seen left p h;
  breaks = breaks_there supplies stands form text seen left u r lexes p h;
}
