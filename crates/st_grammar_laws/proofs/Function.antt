-- The function that gives the tree of a text gives what the relations say.
use Rattle.std.proofs.Common.{◌≡◌, ℕ, ◌-◌, Result, Ok, Err, List, ◌++◌, length, drop, ap, ◌∙◌, arith, length-append}
use Rattle.std.proofs.Common.{subst, inl, inr}
use Rattle.std.proofs.Math.Seq.{drop-append_seam}
use Rattle.texts.specs.Bytes.{Bytes}
use Rattle.st_tree.specs.Trees.{Program}
use Rattle.st_grammar.specs.Tokens as tokens
use Rattle.st_grammar.specs.Tokens.{Token, Lexes, Stops, end_after}
use Rattle.st_grammar.specs.Lexed.{tokens_of}
use Rattle.st_grammar.specs.Grammar.{GrammarRule, Form, words_after, words_of}
use Rattle.st_grammar.specs.Fails.{every, Reads, place_of, AnyRule, of_grammar, Fails, bad_token, bad_form}
use Rattle.st_grammar_laws.specs.Machine.{start, machine_run}
use Rattle.st_grammar_laws.specs.TreeOf.{TextFault, last_tokens, in_text, of_tokens, tree_of}
use Rattle.st_lexer.proofs.Function.{gives_tokens, gives_fault}
use Rattle.st_grammar_laws.proofs.Complete.{complete}
use Rattle.st_grammar_laws.proofs.Paths.{fault}
use Rattle.st_grammar_laws.proofs.Exact.{Supplies, Stands}
use Rattle.st_grammar_laws.proofs.OneAnswer.{halts_so, run_so, many_words, some_answer_there}

lexed : (text : Bytes) (ts : List Token) → Lexes 0 text ts → tokens_of text ≡ Ok ts
unfolding tokens_of
lexed text ts lexes = gives_tokens lexes

stopped : (text : Bytes) (place : ℕ) (r : tokens.TokenRule) → Stops 0 text place r
    → tokens_of text ≡ Err (record { place = place; rule = r })
unfolding tokens_of
stopped text place r stops = gives_fault stops

pub reads_tree : (form : Form) (text : Bytes) (program : Program) → Reads form text program
    → tree_of form text ≡ Ok program
unfolding tree_of
reads_tree form text program (ts, lexes, reads) = ap (of_tokens form text) (lexed text ts lexes)
    ∙ ap (in_text text ts) (complete reads)

-- the last tokens, as many as are left
left_over : (seen left : List Token) (n : ℕ) → n ≡ length left → last_tokens n (seen ++ left) ≡ left
left_over seen left n is =
    let long : length (seen ++ left) - n ≡ length seen = omega (arith, is, length-append seen left) in
    ap (λ (k : ℕ). drop k (seen ++ left)) long ∙ drop-append_seam seen left

pub fails_tree : Supplies → Stands → (form : Form) (text : Bytes) (place : ℕ) (r : AnyRule) → Fails form text place r
    → tree_of form text ≡ Err (record { place = place; rule = r })
unfolding tree_of
fails_tree supplies stands form text place r (bad_token {r = q} stops) = ap (of_tokens form text)
    (stopped text place q stops)
fails_tree supplies stands form text place r (bad_form {seen = seen} {left = left} {r = q} lexes f) =
    let h = halts_so supplies stands form text seen left q lexes f in
    ap (of_tokens form text) (lexed text (seen ++ left) lexes) ∙ ap (in_text text (seen ++ left)) (run_so h)
    ∙ ap (λ ts. Err (record { place = place_of text ts; rule = of_grammar q }))
    (left_over seen left _ (many_words (end_after 0 seen) text left))

same_program : (answer : Result Program TextFault) (p q : Program) → answer ≡ Ok p → answer ≡ Ok q → q ≡ p
same_program answer p q a b = cc

same_text_fault : (answer : Result Program TextFault) (f g : TextFault) → answer ≡ Err f → answer ≡ Err g → g ≡ f
same_text_fault answer f g a b = cc

not_both_here : (answer : Result Program TextFault) (p : Program) (f : TextFault) → answer ≡ Ok p → answer ≡ Err f → ⊥
not_both_here answer p f a b = cc

-- and the other way round
pub tree_reads : Supplies → Stands → (form : Form) (text : Bytes) (program : Program) → tree_of form text ≡ Ok program
    → Reads form text program
tree_reads supplies stands form text program is = elim (some_answer_there supplies stands form text) as
    (λ v. Reads form text program) [
      | inl found ↦ subst (Reads form text)
          (same_program (tree_of form text) program found.0 is (reads_tree form text found.0 found.1)) found.1
      | inr bad ↦ absurd (not_both_here (tree_of form text) program (record { place = bad.0; rule = bad.1 }) is
          (fails_tree supplies stands form text bad.0 bad.1 bad.2))
    ]

pub fault_fails : Supplies → Stands → (form : Form) (text : Bytes) (fault : TextFault) → tree_of form text ≡ Err fault
    → Fails form text fault.place fault.rule
fault_fails supplies stands form text fault is = elim (some_answer_there supplies stands form text) as
    (λ v. Fails form text fault.place fault.rule) [
      | inl found ↦ absurd (not_both_here (tree_of form text) found.0 fault (reads_tree form text found.0 found.1) is)
      | inr bad ↦ subst (λ (f : TextFault). Fails form text f.place f.rule)
          (same_text_fault (tree_of form text) fault (record { place = bad.0; rule = bad.1 }) is
          (fails_tree supplies stands form text bad.0 bad.1 bad.2)) bad.2
    ]

-- where the machine can't go on, the text fails
pub stop_fails : Supplies → Stands → (form : Form) (text : Bytes) (seen left : List Token) (r : GrammarRule)
    → Lexes 0 text (seen ++ left)
    → machine_run every (start form) (words_of text (seen ++ left))
    ≡ Err (record { left = words_after (end_after 0 seen) text left; rule = r })
    → Fails form text (place_of text left) (of_grammar r)
unfolding tree_of
stop_fails supplies stands form text seen left r lexes is =
    fault_fails supplies stands form text (record { place = place_of text left; rule = of_grammar r })
    (ap (of_tokens form text) (lexed text (seen ++ left) lexes) ∙ ap (in_text text (seen ++ left)) is
    ∙ ap (λ ts. Err (record { place = place_of text ts; rule = of_grammar r }))
    (left_over seen left _ (many_words (end_after 0 seen) text left)))
