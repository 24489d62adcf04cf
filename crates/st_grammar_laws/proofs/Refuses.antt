-- Where the machine halts, no text with a tree goes on.
use Rattle.std.proofs.Common.{◌≡◌, Result, Ok, Err, List, [], ◌∷◌, ◌++◌, sym, ap, ◌∙◌, append_assoc, append-nil}
use Rattle.texts.specs.Bytes.{Bytes}
use Rattle.st_tree.specs.Trees.{Program}
use Rattle.st_grammar.specs.Tokens.{Token, end_after}
use Rattle.st_grammar.specs.Grammar.{Word, GrammarRule, Kept, Form, words_after, words_of, ReadsProgram}
use Rattle.st_grammar.specs.Fails.{every, Continues, Halts}
use Rattle.st_grammar_laws.specs.Machine.{State, machine_run, start, Fault}
use Rattle.st_grammar_laws.proofs.Complete.{complete}
use Rattle.st_grammar_laws.proofs.Paths.{Path, run_path, Halted, at_broken, at_stuck, fault, run_halted, first_word}
use Rattle.st_grammar_laws.proofs.Paths.{words_joined}
use Rattle.st_grammar_laws.proofs.TextWords.{words_same}

-- the machine reads a text that goes on so
pub continued_run : {kept : Kept} {form : Form} {text : Bytes} {seen : List Token} (c : Continues kept form text seen)
    → machine_run kept (start form) (words_of text seen ++ words_after (end_after 0 seen) c.other c.more) ≡ Ok c.program
continued_run {kept} {form} {text} {seen} c =
    let same = words_same c.other text seen c.more c.lexes (sym c.alike) in
    ap (λ ws. machine_run kept (start form) (ws ++ words_after (end_after 0 seen) c.other c.more)) same
    ∙ ap (machine_run kept (start form)) (sym (words_joined 0 c.other seen c.more)) ∙ complete c.reads

not_both : (answer : Result Program Fault) (program : Program) (f : Fault) → answer ≡ Ok program → answer ≡ Err f → ⊥
not_both answer program f ok err = cc

-- what the machine halts at, it halts at whatever comes after
halted_before : {kept : Kept} {s : State} {w : Word} {ws : List Word} {r : GrammarRule} → Halted kept s (w ∷ ws) r
    → (vs : List Word) → Halted kept s (w ∷ vs) r
halted_before (at_broken e) vs = at_broken e
halted_before (at_stuck e is) vs = at_stuck e is

pub refuses : (kept : Kept) (form : Form) (text : Bytes) (seen : List Token) (t : Token) {u : State} {r : GrammarRule}
    {ws : List Word} → Path kept (start form) (words_of text seen) u
    → Halted kept u (first_word (end_after 0 seen) text t ∷ ws) r
    → Continues kept form text (seen ++ t ∷ []) → ⊥
refuses kept form text seen t {u} {r} p h c =
    let more = words_after (end_after 0 (seen ++ t ∷ [])) c.other c.more in
    let w = first_word (end_after 0 seen) text t in
    let joined : words_of text (seen ++ t ∷ []) ++ more ≡ words_of text seen ++ w ∷ more = ap
    (λ ws. ws ++ more) (words_joined 0 text seen (t ∷ [])) ∙ append_assoc (words_of text seen) (w ∷ []) more in
    let ok : machine_run kept (start form) (words_of text seen ++ w ∷ more)
    ≡ Ok c.program = ap (machine_run kept (start form)) (sym joined) ∙ continued_run c in
    let err : machine_run kept (start form) (words_of text seen ++ w ∷ more)
    ≡ Err (fault (w ∷ more) r) = run_path p (w ∷ more) ∙ run_halted (halted_before h more) in
    not_both (machine_run kept (start form) (words_of text seen ++ w ∷ more)) c.program (fault (w ∷ more) r) ok err

refuses_end : (form : Form) (text : Bytes) (seen : List Token) {u : State} {r : GrammarRule}
    → Path every (start form) (words_of text seen) u → Halted every u [] r → (program : Program)
    → ReadsProgram every form program (words_of text seen) → ⊥
refuses_end form text seen {u} {r} p h program reads =
    let err : machine_run every (start form) (words_of text seen)
    ≡ Err (fault [] r) = ap (machine_run every (start form)) (sym (append-nil (words_of text seen))) ∙ run_path p []
    ∙ run_halted h in
    not_both (machine_run every (start form) (words_of text seen)) program (fault [] r) (complete reads) err

pub halts_there : (form : Form) (text : Bytes) (seen left : List Token) {u : State} {r : GrammarRule}
    → Path every (start form) (words_of text seen) u → Halted every u (words_after (end_after 0 seen) text left) r
    → Halts form text seen left
halts_there form text seen [] p h = refuses_end form text seen p h
halts_there form text seen (t ∷ left) p h = refuses every form text seen t p h
