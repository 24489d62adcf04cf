-- What the machine's answer says of the text.
use Rattle.std.proofs.Common.{◌≡◌, ℕ, zero, suc, ◌-◌, ◌≤◌, Result, Ok, Err, List, [], ◌∷◌, ◌++◌, length, drop, refl}
use Rattle.std.proofs.Common.{sym, ap, ◌∙◌, subst, arith, append-nil, length-append}
use Rattle.texts.specs.Bytes.{Bytes}
use Rattle.st_tree.specs.Trees.{Program}
use Rattle.st_grammar.specs.Tokens as spec
use Rattle.st_grammar.specs.Tokens.{Lexes, end_after}
use Rattle.st_grammar.specs.Grammar.{Word, Form, words_after, words_of}
use Rattle.st_grammar.specs.Grammar as grammar
use Rattle.st_grammar.specs.Fails.{Reads, Fails, AnyRule, every, place_of, rule_number, of_grammar}
use Rattle.st_grammar_laws.specs.Machine.{State, Fault, machine_run, start, finish, blame}
use Rattle.st_grammar_laws.proofs.Sound.{sound}
use Rattle.st_grammar_laws.proofs.Paths.{Outcome, reaches, halts, outcome, run_path, run_halted, words_joined}
use Rattle.st_lexer.specs.Views.{tokens_seen}
use Rattle.st_lexer.specs.declared.kinds.Token.{Token}
use Rattle.st_parser.specs.declared.stops.Broken.{Broken}
use Rattle.st_parser.specs.declared.faults.ParseFault.TheVariants.{Rule}
use Rattle.st_parser.specs.Descent.{rule_of}
use Rattle.st_lexer.specs.declared.kinds.LexFault.{LexFault}
use Rattle.st_lexer.specs.declared.kinds.LexFault.TheVariants.{Bad, NoMemory}
use Rattle.st_lexer.specs.Views.{IsFault as IsTokenFault}
use Rattle.st_grammar.specs.Fails.{of_token, bad_token}
use Rattle.st_grammar_laws.proofs.Function.{reads_tree, fails_tree, stop_fails}
use Rattle.st_grammar_laws.proofs.Bounded.{tree_bounded}
use Rattle.st_grammar_laws.proofs.Supply.{supplies, stands}
use Rattle.st_parser.specs.Faults.{fault_from}
use Rattle.st_parser.specs.Parsed.{IsTree, FailsAt, IsFault}

-- what the relations say, with what follows of it
tree_known : (form : Form) (text : Bytes) (program : Program) → Reads form text program
    → IsTree form text program
tree_known form text program reads = record {
  reads = reads;
  is = reads_tree form text program reads;
  bound = tree_bounded form text program reads;
}

fails_known : (form : Form) (text : Bytes) (place : ℕ) (r : AnyRule) → Fails form text place r
    → FailsAt form text place r
fails_known form text place r fails = record { fails = fails; is = fails_tree supplies stands form text place r fails }

pub tree_read : (form : Form) (text : Bytes) (ts : List spec.Token) (program : Program)
    → Lexes 0 text ts
    → machine_run every (start form) (words_of text ts) ≡ Ok program → IsTree form text program
tree_read form text ts program h e = tree_known form text program (ts, h, sound every form (words_of text ts) program e)

words_len : (stop : ℕ) (text : Bytes) (ts : List spec.Token)
    → length (words_after stop text ts) ≡ length ts
words_len stop text [] = refl
words_len stop text (t ∷ ts) = ap (λ n. suc n) (words_len t.to text ts)

dropped : (n : ℕ) (ts : List Token) → tokens_seen (drop n ts) ≡ drop n (tokens_seen ts)
dropped zero ts = refl
dropped (suc n) [] = refl
dropped (suc n) (t ∷ ts) = dropped n ts

tokens_len : (ts : List Token) → length (tokens_seen ts) ≡ length ts
tokens_len [] = refl
tokens_len (t ∷ ts) = ap (λ n. suc n) (tokens_len ts)

drop_seen : (seen left : List spec.Token) → drop (length seen) (seen ++ left) ≡ left
drop_seen [] left = refl
drop_seen (t ∷ seen) left = drop_seen seen left

abbrev left_of : Result Program Fault → List Word
left_of (Ok program) = []
left_of (Err f) = f.left

never : (program : Program) (f : Fault) → Ok program ≡ Err f → ⊥
never program f e = cc

halted : {text : Bytes} {s : State} {at : ℕ} {ts : List spec.Token} → Outcome every text s at ts
    → (new : List Word) (r : grammar.GrammarRule)
    → machine_run every s (words_after at text ts) ≡ Err (record { left = new; rule = r })
    → (seen : List spec.Token) × (left : List spec.Token) × (ts ≡ seen ++ left)
    × (new ≡ words_after (end_after at seen) text left)
halted {text} {s} {at} {ts} (reaches {u = u} program p e) new r h =
    let ok : machine_run every s (words_after at text ts)
    ≡ Ok program = ap (machine_run every s) (sym (append-nil (words_after at text ts))) ∙ run_path p []
    ∙ ap (finish (blame every u)) e in
    absurd (never program (record { left = new; rule = r }) (sym ok ∙ h))
halted {text} {s} {at} {ts} (halts {u = u} {r = q} seen left same p k) new r h =
    let err : machine_run every s (words_after at text ts)
    ≡ Err (record { left = words_after (end_after at seen) text left; rule = q }) =
    ap (λ l. machine_run every s (words_after at text l)) same
    ∙ ap (machine_run every s) (words_joined at text seen left) ∙ run_path p (words_after (end_after at seen) text left)
    ∙ run_halted k in
    (seen, left, same, ap left_of (sym h ∙ err))

-- where the machine stops the text fails
pub fault_stops : (form : Form) (text : Bytes) (tokens : List Token) (new : List Word) (b : Broken)
    → Lexes 0 text (tokens_seen tokens)
    → machine_run every (start form) (words_of text (tokens_seen tokens))
    ≡ Err (record { left = new; rule = rule_of b })
    → IsFault form text (Rule (place_of text (tokens_seen (drop (length tokens - length new) tokens)))
    (rule_number (of_grammar (rule_of b))))
fault_stops form text tokens new b lexes e =
    let w = halted (outcome every text (start form) 0 (tokens_seen tokens)) new (rule_of b) e in
    let count : length tokens - length new
    ≡ length w.0 = omega (
      arith,
      sym (tokens_len tokens) ∙ ap length w.2 ∙ length-append w.0 w.1,
      ap length w.3
          ∙ words_len (end_after 0 w.0) text w.1,
    ) in
    let rest : tokens_seen (drop (length tokens - length new) tokens)
    ≡ w.1 = dropped (length tokens - length new) tokens ∙ ap (drop (length tokens - length new)) w.2
    ∙ ap (λ n. drop n (w.0 ++ w.1)) count ∙ drop_seen w.0 w.1 in
    let stopped : machine_run every (start form) (words_of text (w.0 ++ w.1))
    ≡ Err (record { left = words_after (end_after 0 w.0) text w.1; rule = rule_of b }) =
    ap (λ l. machine_run every (start form) (words_of text l)) (sym w.2) ∙ e
    ∙ ap (λ l. Err (record { left = l; rule = rule_of b })) w.3 in
    let fails = stop_fails supplies stands form text w.0 w.1 (rule_of b) (subst (Lexes 0 text) w.2 lexes) stopped in
    subst (λ l. IsFault form text (Rule (place_of text l) (rule_number (of_grammar (rule_of b))))) (sym rest)
    (of_grammar (rule_of b), refl, fails_known form text (place_of text w.1) (of_grammar (rule_of b)) fails)

-- no more words are left than there are tokens
pub left_within : (form : Form) (text : Bytes) (tokens : List Token) (new : List Word) (b : Broken)
    → machine_run every (start form) (words_of text (tokens_seen tokens)) ≡ Err
    (record { left = new; rule = rule_of b }) → length new ≤ length tokens
left_within form text tokens new b e =
    let w = halted (outcome every text (start form) 0 (tokens_seen tokens)) new (rule_of b) e in
    omega (
      arith,
      sym (tokens_len tokens) ∙ ap length w.2 ∙ length-append w.0 w.1,
      ap length w.3
          ∙ words_len (end_after 0 w.0) text w.1,
    )

-- a fault of the tokens is one of the text
pub lexed_fault : (form : Form) (text : Bytes) (e : LexFault) → IsTokenFault text e
    → IsFault form text (fault_from e)
lexed_fault form text (Bad place rule) h =
    (of_token h.0, h.1, fails_known form text place (of_token h.0) (bad_token h.2))
lexed_fault form text NoMemory h = tt
