-- A text has one answer: one tree, or one place where it fails and one rule.
use Rattle.std.proofs.Common.{◌≡◌, ℕ, suc, ◌⊎◌, inl, inr, Some, Result, Ok, Err, List, [], ◌∷◌, ◌++◌, length, refl, sym}
use Rattle.std.proofs.Common.{ap, ◌∙◌, subst, append_assoc, arith, length-append}
use Rattle.texts.specs.Bytes.{Bytes}
use Rattle.st_tree.specs.Trees.{Program}
use Rattle.st_grammar.specs.Tokens as tokens
use Rattle.st_grammar.specs.Tokens.{Token, Lexes, Stops, text_of, end_after}
use Rattle.st_grammar.specs.Grammar.{Word, GrammarRule, p4, p5, p6, p7, p8, p9, Kept, Form, words_after, words_of}
use Rattle.st_grammar.specs.Grammar.{ReadsProgram}
use Rattle.st_grammar.specs.Fails.{every, but, Reads, Continues, Halts, AllowedBut, square, round, Breaks, FailsBehind}
use Rattle.st_grammar.specs.Fails.{place_of, AnyRule, of_token, of_grammar, Fails, bad_token, bad_form}
use Rattle.st_grammar_laws.specs.Machine.{State, goes, stuck, machine_step, machine_run, start, Fault}
use Rattle.st_lexer.proofs.Once.{one_list, one_fault, not_both, some_answer}
use Rattle.st_grammar_laws.proofs.Complete.{only_one, complete}
use Rattle.st_grammar_laws.proofs.Sound.{sound}
use Rattle.st_grammar_laws.proofs.Paths.{Path, path_end, path_on, run_path, Halted, at_broken, at_stuck, fault}
use Rattle.st_grammar_laws.proofs.Paths.{run_halted, Outcome, reaches, halts, outcome, first_word, words_joined}
use Rattle.st_grammar_laws.proofs.Refuses.{continued_run, refuses}
use Rattle.st_grammar_laws.proofs.Shapes.{MayBeLeft, p7_may, p8_may, p9_may, always_stuck, only_excused}
use Rattle.st_grammar_laws.proofs.Exact.{Supplies, Stands, path_lax, path_seen, first_goes, path_of_run, run_reaches}
use Rattle.st_grammar_laws.proofs.Exact.{breaks_there, fails_there}
use Rattle.st_lexer.proofs.Fronts.{none_is_some}

-- where a text goes on, the machine does
continues_goes : (kept : Kept) (form : Form) (text : Bytes) (seen : List Token) (t : Token) (u : State)
    → Path kept (start form) (words_of text seen) u → Continues kept form text (seen ++ t ∷ [])
    → (v : State) × (machine_step kept u (first_word (end_after 0 seen) text t) ≡ goes v)
continues_goes kept form text seen t u p c =
    let w : Word = first_word (end_after 0 seen) text t in
    let more : List Word = words_after (end_after 0 (seen ++ t ∷ [])) c.other c.more in
    let joined : words_of text (seen ++ t ∷ []) ++ more ≡ words_of text seen ++ w ∷ more = ap
    (λ ws. ws ++ more) (words_joined 0 text seen (t ∷ [])) ∙ append_assoc (words_of text seen) (w ∷ []) more in
    let ok : machine_run kept u (w ∷ more) ≡ Ok c.program = sym (run_path p (w ∷ more))
    ∙ ap (machine_run kept (start form)) (sym joined) ∙ continued_run c in
    let on = first_goes kept u w more c.program ok in
    (on.0, on.1)

stuck_refuses : (form : Form) (text : Bytes) (seen : List Token) (t : Token) (u : State) (p : GrammarRule)
    → Path every (start form) (words_of text seen) u
    → machine_step every u (first_word (end_after 0 seen) text t) ≡ stuck
    → Continues (but p) form text (seen ++ t ∷ []) → ⊥
stuck_refuses form text seen t u p path e c = refuses (but p) form text seen t
    {ws = []} (path_lax (but p) path)
    (at_stuck (always_stuck (but p) u (first_word (end_after 0 seen) text t) e) refl) c

not_square_and_round : Some square ≡ Some round → ⊥
not_square_and_round e = cc

-- the rule that alone forbids a token is the machine's
allowed_is : (form : Form) (text : Bytes) (seen left : List Token) (u : State) (p q : GrammarRule) → MayBeLeft p
    → AllowedBut p form text seen left → Path every (start form) (words_of text seen) u
    → Halted every u (words_after (end_after 0 seen) text left) q → p ≡ q
allowed_is form text seen [] u p q may c path h = absurd c
allowed_is form text seen (t ∷ left) u p q may c path (at_broken e) =
    let on = continues_goes (but p) form text seen t u (path_lax (but p) path) c in
    only_excused u on.0 (first_word (end_after 0 seen) text t) p q may e on.1
allowed_is form text seen (t ∷ left) u p q may c path (at_stuck e is) = absurd
    (stuck_refuses form text seen t u p path e c)

-- Of the rules that can't be left, only one is broken.
data Stays : GrammarRule → Type 0 where
  p4_stays : Stays p4
  p5_stays : Stays p5
  p6_stays : Stays p6

apart : (form : Form) (text : Bytes) (seen left : List Token) (r q : GrammarRule) → Stays r
    → Breaks r form text seen left → Breaks q form text seen left → r ≡ q
apart form text seen left p4 p4 p4_stays a b = refl
apart form text seen left p4 p5 p4_stays a b = absurd (a.1 b.1)
apart form text seen left p4 p6 p4_stays a b = absurd (a.2 b.1)
apart form text seen left p4 p7 p4_stays a b = absurd (a.0.0 b)
apart form text seen left p4 p8 p4_stays a b = absurd (a.0.1 b)
apart form text seen left p4 p9 p4_stays a b = absurd (a.0.2 b)
apart form text seen left p5 p4 p5_stays a b = absurd (b.1 a.1)
apart form text seen left p5 p5 p5_stays a b = refl
apart form text seen left p5 p6 p5_stays a b = absurd (not_square_and_round (sym a.1.0 ∙ b.1.0))
apart form text seen left p5 p7 p5_stays a b = absurd (a.0.0 b)
apart form text seen left p5 p8 p5_stays a b = absurd (a.0.1 b)
apart form text seen left p5 p9 p5_stays a b = absurd (a.0.2 b)
apart form text seen left p6 p4 p6_stays a b = absurd (b.2 a.1)
apart form text seen left p6 p5 p6_stays a b = absurd (not_square_and_round (sym b.1.0 ∙ a.1.0))
apart form text seen left p6 p6 p6_stays a b = refl
apart form text seen left p6 p7 p6_stays a b = absurd (a.0.0 b)
apart form text seen left p6 p8 p6_stays a b = absurd (a.0.1 b)
apart form text seen left p6 p9 p6_stays a b = absurd (a.0.2 b)
apart form text seen left p7 q stays a b = elim stays [ ]
apart form text seen left p8 q stays a b = elim stays [ ]
apart form text seen left p9 q stays a b = elim stays [ ]

rule_is : Supplies → Stands → (form : Form) (text : Bytes) (seen left : List Token) (u : State) (r q : GrammarRule)
    → Lexes 0 text (seen ++ left) → Breaks r form text seen left → Path every (start form) (words_of text seen) u
    → Halted every u (words_after (end_after 0 seen) text left) q → r ≡ q
rule_is supplies stands form text seen left u p4 q lexes b p h = apart form text seen left p4 q p4_stays b
    (breaks_there supplies stands form text seen left u q lexes p h)
rule_is supplies stands form text seen left u p5 q lexes b p h = apart form text seen left p5 q p5_stays b
    (breaks_there supplies stands form text seen left u q lexes p h)
rule_is supplies stands form text seen left u p6 q lexes b p h = apart form text seen left p6 q p6_stays b
    (breaks_there supplies stands form text seen left u q lexes p h)
rule_is supplies stands form text seen left u p7 q lexes b p h = allowed_is form text seen left u p7 q p7_may b p h
rule_is supplies stands form text seen left u p8 q lexes b p h = allowed_is form text seen left u p8 q p8_may b p h
rule_is supplies stands form text seen left u p9 q lexes b p h = allowed_is form text seen left u p9 q p9_may b p h

-- Where a text fails, the machine halts.
goes_no_further : Supplies → (form : Form) (text : Bytes) (seen : List Token) (t : Token) (left : List Token)
    (u v : State) → Lexes 0 text (seen ++ t ∷ left) → Path every (start form) (words_of text seen) u
    → Halts form text seen (t ∷ left) → machine_step every u (first_word (end_after 0 seen) text t) ≡ goes v → ⊥
goes_no_further supplies form text seen t left u v lexes p stop e = stop
    (supplies every form text (seen ++ t ∷ []) left v
    (subst (Lexes 0 text) (sym (append_assoc seen (t ∷ []) left)) lexes) (path_seen text seen t p e))

same_first : (t s : Token) (ts ss : List Token) → t ∷ ts ≡ s ∷ ss → t ≡ s
same_first t s ts ss e = cc

same_rest : (t s : Token) (ts ss : List Token) → t ∷ ts ≡ s ∷ ss → ts ≡ ss
same_rest t s ts ss e = cc

halted_by : Supplies → (form : Form) (text : Bytes) (seen left : List Token) (u : State) → Lexes 0 text (seen ++ left)
    → Path every (start form) (words_of text seen) u → Halts form text seen left
    → Outcome every text u (end_after 0 seen) left
    → (q : GrammarRule) × Halted every u (words_after (end_after 0 seen) text left) q
halted_by supplies form text seen [] u lexes p stop (reaches program path_end f) = absurd
    (stop program (sound every form (words_of text seen) program (run_reaches program p f)))
halted_by supplies form text seen (t ∷ left) u lexes p stop (reaches program (path_on {u = v} e rest) f) = absurd
    (goes_no_further supplies form text seen t left u v lexes p stop e)
halted_by supplies form text seen left u lexes p stop (halts {r = q} [] back same path_end h) =
    (q, subst (λ ts. Halted every u (words_after (end_after 0 seen) text ts) q) (sym same) h)
halted_by supplies form text seen [] u lexes p stop (halts (s ∷ front) back same path h) = absurd
    (none_is_some s (front ++ back) same)
halted_by supplies form text seen (t ∷ left) u lexes p stop (halts (s ∷ front) back same (path_on {u = v} e rest) h) =
    absurd (goes_no_further supplies form text seen t left u v lexes p stop
    (subst (λ s. machine_step every u (first_word (end_after 0 seen) text s) ≡ goes v)
    (sym (same_first t s left (front ++ back) same)) e))

pub record HaltsSo (form : Form) (text : Bytes) (seen left : List Token) (r : GrammarRule) : Type 0 where
  pub state : State
  pub path : Path every (start form) (words_of text seen) state
  pub halted : Halted every state (words_after (end_after 0 seen) text left) r

pub halts_so : Supplies → Stands → (form : Form) (text : Bytes) (seen left : List Token) (r : GrammarRule)
    → Lexes 0 text (seen ++ left) → FailsBehind form text seen left r → HaltsSo form text seen left r
halts_so supplies stands form text seen left r lexes f =
    let on = path_of_run every (start form) (words_of text seen)
    (words_after (end_after 0 seen) f.continues.other f.continues.more) f.continues.program
    (continued_run f.continues) in
    let h = halted_by supplies form text seen left on.0 lexes on.1 f.halts
    (outcome every text on.0 (end_after 0 seen) left) in
    let is : r ≡ h.0 = rule_is supplies stands form text seen left on.0 r h.0 lexes f.breaks on.1 h.1 in
    record {
      state = on.0;
      path = on.1;
      halted = subst
          (λ q. Halted every on.0 (words_after (end_after 0 seen) text left) q) (sym is) h.1;
    }

pub run_so : {form : Form} {text : Bytes} {seen left : List Token} {r : GrammarRule} → HaltsSo form text seen left r
    → machine_run every (start form) (words_of text (seen ++ left))
    ≡ Err (fault (words_after (end_after 0 seen) text left) r)
run_so {form} {text} {seen} {left} h = ap (machine_run every (start form)) (words_joined 0 text seen left)
    ∙ run_path h.path (words_after (end_after 0 seen) text left) ∙ run_halted h.halted

-- one place
pub many_words : (at : ℕ) (text : Bytes) (ts : List Token) → length (words_after at text ts) ≡ length ts
many_words at text [] = refl
many_words at text (t ∷ ts) = ap suc (many_words t.to text ts)

same_back : (seen left front back : List Token) → seen ++ left ≡ front ++ back → length left ≡ length back → left ≡ back
same_back [] left [] back same long = same
same_back [] left (s ∷ front) back same long = absurd (omega (arith, long, ap length same, length-append front back))
same_back (t ∷ seen) left [] back same long = absurd (omega (arith, long, ap length same, length-append seen left))
same_back (t ∷ seen) left (s ∷ front) back same long = same_back seen left front back
    (same_rest t s (seen ++ left) (front ++ back) same) long

pub same_fault : (answer : Result Program Fault) (f g : Fault) → answer ≡ Err f → answer ≡ Err g → f ≡ g
same_fault answer f g a b = cc

pub not_ok : (answer : Result Program Fault) (program : Program) (f : Fault) → answer ≡ Ok program → answer ≡ Err f → ⊥
not_ok answer program f a b = cc

one_halt : (form : Form) (text : Bytes) (seen left front back : List Token) (r q : GrammarRule)
    → seen ++ left ≡ front ++ back → HaltsSo form text seen left r → HaltsSo form text front back q
    → (left ≡ back) × (r ≡ q)
one_halt form text seen left front back r q same h k =
    let f : Fault = fault (words_after (end_after 0 seen) text left) r in
    let g : Fault = fault (words_after (end_after 0 front) text back) q in
    let there : machine_run every (start form) (words_of text (seen ++ left)) ≡ Err g = ap
    (λ ts. machine_run every (start form) (words_of text ts)) same ∙ run_so k in
    let is : f ≡ g = same_fault (machine_run every (start form) (words_of text (seen ++ left))) f g (run_so h) there in
    let long : length left ≡ length back = sym (many_words (end_after 0 seen) text left) ∙ ap (λ f. length f.left) is
    ∙ many_words (end_after 0 front) text back in
    (same_back seen left front back same long, ap (λ f. f.rule) is)

-- the law
pub one_tree : (form : Form) (text : Bytes) (a b : Program) → Reads form text a → Reads form text b → a ≡ b
one_tree form text a b r s = only_one r.2
    (subst (λ ts. ReadsProgram every form b (words_of text ts)) (sym (one_list r.1 s.1)) s.2)

same_of_token : (r q : tokens.TokenRule) → r ≡ q → of_token r ≡ of_token q
same_of_token r q e = ap of_token e

pub one_place : Supplies → Stands → (form : Form) (text : Bytes) (place other : ℕ) (r q : AnyRule)
    → Fails form text place r → Fails form text other q → (place ≡ other) × (r ≡ q)
one_place supplies stands form text place other r q (bad_token a) (bad_token b) = let same = one_fault a b in
    (same.0, ap of_token same.1)
one_place supplies stands form text place other r q (bad_token a) (bad_form lexes f) = absurd (not_both lexes a)
one_place supplies stands form text place other r q (bad_form lexes f) (bad_token b) = absurd (not_both lexes b)
one_place supplies stands form text place other r q (bad_form {seen = seen} {left = left} {r = p} lexes f) (bad_form
    {seen = front} {left = back} {r = s} others g) =
    let same = one_halt form text seen left front back p s (one_list lexes others)
    (halts_so supplies stands form text seen left p lexes f)
    (halts_so supplies stands form text front back s others g) in
    (ap (place_of text) same.0, ap of_grammar same.1)

pub never_both : Supplies → Stands → (form : Form) (text : Bytes) (program : Program) (place : ℕ) (r : AnyRule)
    → Reads form text program → Fails form text place r → ⊥
never_both supplies stands form text program place r reads (bad_token a) = not_both reads.1 a
never_both supplies stands form text program place r reads (bad_form {seen = seen} {left = left} {r = p} lexes f) =
    let h = halts_so supplies stands form text seen left p lexes f in
    let ok : machine_run every (start form) (words_of text (seen ++ left)) ≡ Ok program = ap
    (λ ts. machine_run every (start form) (words_of text ts)) (one_list lexes reads.1) ∙ complete reads.2 in
    not_ok (machine_run every (start form) (words_of text (seen ++ left))) program
    (fault (words_after (end_after 0 seen) text left) p) ok (run_so h)

abbrev pub Answer : Form → Bytes → Type 0
Answer form text = ((program : Program) × Reads form text program)
    ⊎ ((place : ℕ) × (rule : AnyRule) × Fails form text place rule)

by_outcome : Supplies → Stands → (form : Form) (text : Bytes) (ts : List Token) → Lexes 0 text ts
    → Outcome every text (start form) 0 ts → Answer form text
by_outcome supplies stands form text ts lexes (reaches program p e) = inl
    (program, (ts, lexes, sound every form (words_of text ts) program (run_reaches program p e)))
by_outcome supplies stands form text ts lexes (halts {u = u} {r = r} seen left same p h) =
    let here : Lexes 0 text (seen ++ left) = subst (Lexes 0 text) same lexes in
    inr (place_of text left, of_grammar r, bad_form here (fails_there supplies stands form text seen left u r here p h))

pub some_answer_there : Supplies → Stands → (form : Form) (text : Bytes) → Answer form text
some_answer_there supplies stands form text = elim (some_answer 0 text) as (λ v. Answer form text) [
  | inl found ↦ by_outcome supplies stands form text found.0 found.1 (outcome every text (start form) 0 found.0)
  | inr bad ↦ inr (bad.0, of_token bad.1, bad_token bad.2)
]
