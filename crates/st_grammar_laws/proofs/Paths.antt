-- How the machine goes through tokens, and where it halts.
use Rattle.std.proofs.Common.{◌≡◌, ℕ, ◌==◌, Option, Some, None, Err, List, [], ◌∷◌, ◌++◌, refl, ap, ◌∙◌}
use Rattle.texts.specs.Bytes.{Bytes}
use Rattle.st_tree.specs.Trees.{Program}
use Rattle.st_grammar.specs.Tokens.{Token, text_of, end_after}
use Rattle.st_grammar.specs.Grammar.{Word, word, GrammarRule, Kept, words_after}
use Rattle.st_grammar_laws.specs.Machine.{State, Verdict, goes, breaks, stuck, machine_step, last, blame, go, finish}
use Rattle.st_grammar_laws.specs.Machine.{machine_run, Fault}

-- The machine goes from the one state to the other by these tokens.
pub data Path (kept : Kept) : State → List Word → State → Type 0 where
  path_end : {s : State} → Path kept s [] s
  path_on : {s u v : State} {w : Word} {ws : List Word} → machine_step kept s w ≡ goes u → Path kept u ws v
      → Path kept s (w ∷ ws) v

pub run_path : {kept : Kept} {s u : State} {ws : List Word} → Path kept s ws u → (vs : List Word)
    → machine_run kept s (ws ++ vs) ≡ machine_run kept u vs
run_path path_end vs = refl
run_path {kept} {s} (path_on {w = w} {ws = ws} e p) vs = ap
    (go (blame kept s) (w ∷ ws ++ vs) (λ u. machine_run kept u (ws ++ vs))) e ∙ run_path p vs

-- The machine halts in this state before these tokens, and this rule is broken.
pub data Halted (kept : Kept) : State → List Word → GrammarRule → Type 0 where
  at_end : {s : State} {r : GrammarRule} → last s ≡ None → blame kept s ≡ r → Halted kept s [] r
  at_broken : {s : State} {w : Word} {ws : List Word} {r : GrammarRule} → machine_step kept s w ≡ breaks r
      → Halted kept s (w ∷ ws) r
  at_stuck : {s : State} {w : Word} {ws : List Word} {r : GrammarRule} → machine_step kept s w ≡ stuck
      → blame kept s ≡ r → Halted kept s (w ∷ ws) r

abbrev pub fault : List Word → GrammarRule → Fault
fault ws r = record { left = ws; rule = r }

pub run_halted : {kept : Kept} {s : State} {ws : List Word} {r : GrammarRule} → Halted kept s ws r
    → machine_run kept s ws ≡ Err (fault ws r)
run_halted {kept} {s} (at_end none is) = ap (finish (blame kept s)) none ∙ ap (λ r. Err (fault [] r)) is
run_halted {kept} {s} (at_broken {w = w} {ws = ws} e) = ap (go (blame kept s) (w ∷ ws) (λ u. machine_run kept u ws)) e
run_halted {kept} {s} (at_stuck {w = w} {ws = ws} e is) = ap (go (blame kept s) (w ∷ ws) (λ u. machine_run kept u ws)) e
    ∙ ap (λ r. Err (fault (w ∷ ws) r)) is

-- What the machine makes of tokens of a text, of which the one before ended at `at`.
pub data Outcome (kept : Kept) (text : Bytes) : State → (at : ℕ) → List Token → Type 0 where
  reaches : {s u : State} {at : ℕ} {ts : List Token} (program : Program) → Path kept s (words_after at text ts) u
      → last u ≡ Some program → Outcome kept text s at ts
  halts : {s u : State} {at : ℕ} {ts : List Token} {r : GrammarRule} (seen left : List Token) → ts ≡ seen ++ left
      → Path kept s (words_after at text seen) u → Halted kept u (words_after (end_after at seen) text left) r
      → Outcome kept text s at ts

abbrev pub first_word : (at : ℕ) → Bytes → Token → Word
first_word at text t = word t.kind (text_of text t) (t.from == at)

at_end_of : (kept : Kept) (text : Bytes) (s : State) (at : ℕ) (v : Option Program) → last s ≡ v
    → Outcome kept text s at []
at_end_of kept text s at (Some program) e = reaches program path_end e
at_end_of kept text s at None e = halts [] [] refl path_end (at_end e refl)

onward : (kept : Kept) (text : Bytes) (s u : State) (at : ℕ) (t : Token) (ts : List Token)
    → machine_step kept s (first_word at text t) ≡ goes u → Outcome kept text u t.to ts
    → Outcome kept text s at (t ∷ ts)
onward kept text s u at t ts e (reaches program p f) = reaches program (path_on e p) f
onward kept text s u at t ts e (halts seen left same p h) = halts (t ∷ seen) left (ap (λ us. t ∷ us) same)
    (path_on e p) h

by_verdict : (kept : Kept) (text : Bytes) (s : State) (at : ℕ) (t : Token) (ts : List Token) (v : Verdict)
    → machine_step kept s (first_word at text t) ≡ v → ((u : State) → Outcome kept text u t.to ts)
    → Outcome kept text s at (t ∷ ts)
by_verdict kept text s at t ts (goes u) e on = onward kept text s u at t ts e (on u)
by_verdict kept text s at t ts (breaks r) e on = halts [] (t ∷ ts) refl path_end (at_broken e)
by_verdict kept text s at t ts stuck e on = halts [] (t ∷ ts) refl path_end (at_stuck e refl)

pub outcome : (kept : Kept) (text : Bytes) (s : State) (at : ℕ) (ts : List Token) → Outcome kept text s at ts
outcome kept text s at [] = at_end_of kept text s at (last s) refl
outcome kept text s at (t ∷ ts) = by_verdict kept text s at t ts (machine_step kept s (first_word at text t)) refl
    (λ u. outcome kept text u t.to ts)

pub words_joined : (at : ℕ) (text : Bytes) (seen left : List Token)
    → words_after at text (seen ++ left) ≡ words_after at text seen ++ words_after (end_after at seen) text left
words_joined at text [] left = refl
words_joined at text (t ∷ seen) left = ap (λ ws. first_word at text t ∷ ws) (words_joined t.to text seen left)
