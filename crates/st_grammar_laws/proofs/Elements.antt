-- What the grammar reads as a literal array, the machine reads.
use Rattle.std.proofs.Common.{◌≡◌, ℕ, suc, Bool, true, false, ◌&&◌, nat_lt, List, [], ◌∷◌, ◌++◌, refl, ap, ◌∙◌}
use Rattle.std.proofs.Common.{true≢false, append_assoc, append-nil}
use Rattle.std.proofs.Common.{sym as sym_path}
use Rattle.texts.specs.Bytes.{Bytes}
use Rattle.st_grammar.specs.declared.limits.TheConstants.{DEPTH_LIMIT}
use Rattle.st_tree.specs.Trees.{Constant, sym, Constants, no_constants, a_constant, append_constants}
use Rattle.st_grammar.specs.Tokens.{keyword, number, binary}
use Rattle.st_grammar.specs.Grammar.{Word, word, p9, Kept, passes, binary_is, bar_is, is_minus}
use Rattle.st_grammar.specs.Grammar.{starts_with_joined_keyword, starts_with_joined_number}
use Rattle.st_grammar.specs.Grammar.{ReadsKeywordRun, run_end, run_on, a_number, a_negative_number, a_character}
use Rattle.st_grammar.specs.Grammar.{a_string, a_symbol, an_array, ReadsElement, a_literal_element, a_name_element}
use Rattle.st_grammar.specs.Grammar.{a_keyword_element, a_selector_element, a_nested_array, ReadsElements, no_elements}
use Rattle.st_grammar.specs.Grammar.{an_element}
use Rattle.st_grammar_laws.specs.Machine.{Nest, in_array, in_elements, element_minus, element_run, one_more, depth_nest}
use Rattle.st_grammar_laws.specs.Machine.{machine_run}
use Rattle.st_grammar_laws.proofs.Joins.{constants_none, constants_assoc}

run_ends : (kept : Kept) (n : Nest) (cs : Constants) (x : Bytes) (ws : List Word)
    → starts_with_joined_keyword ws ≡ false
    → machine_run kept (element_run n cs x) ws ≡ machine_run kept (in_elements n (one_more cs (sym x))) ws
run_ends kept n cs x [] none = refl
run_ends kept n cs x (word keyword y true ∷ ws) none = absurd (true≢false none)
run_ends kept n cs x (word keyword y false ∷ ws) none = refl
run_ends kept n cs x (word kind y t ∷ ws) none = refl

run_reads : {run' : Bytes} {ws us : List Word} → ReadsKeywordRun run' ws us
    → (kept : Kept) (n : Nest) (cs : Constants) (x : Bytes)
    → machine_run kept (element_run n cs x) ws ≡ machine_run kept (in_elements n (one_more cs (sym (x ++ run')))) us
run_reads {us = us} (run_end none) kept n cs x = run_ends kept n cs x us none
    ∙ ap (λ y. machine_run kept (in_elements n (one_more cs (sym y))) us) (sym_path (append-nil x))
run_reads {us = us} (run_on {x = y} {run = r} more) kept n cs x = run_reads more kept n cs (x ++ y)
    ∙ ap (λ z. machine_run kept (in_elements n (one_more cs (sym z))) us) (append_assoc x y r)

minus_ends : (kept : Kept) (n : Nest) (cs : Constants) (x : Bytes) (ws : List Word)
    → starts_with_joined_number ws ≡ false
    → machine_run kept (element_minus n cs x) ws ≡ machine_run kept (in_elements n (one_more cs (sym x))) ws
minus_ends kept n cs x [] none = refl
minus_ends kept n cs x (word number y true ∷ ws) none = absurd (true≢false none)
minus_ends kept n cs x (word number y false ∷ ws) none = refl
minus_ends kept n cs x (word kind y t ∷ ws) none = refl

binary_element : (v : Bool) (kept : Kept) (n : Nest) (cs : Constants) (x : Bytes) (t : Bool) (ws : List Word)
    → is_minus x ≡ v → (v && starts_with_joined_number ws) ≡ false
    → machine_run kept (in_elements n cs) (word binary x t ∷ ws)
    ≡ machine_run kept (in_elements n (one_more cs (sym x))) ws
binary_element true kept n cs x t ws is none = rw is (minus_ends kept n cs x ws none)
binary_element false kept n cs x t ws is none = rw is refl

-- a bracket may be opened here
pub opens : (kept : Kept) (d e : ℕ) → d ≡ e → passes kept p9 (nat_lt e DEPTH_LIMIT) ≡ true
    → passes kept p9 (nat_lt d DEPTH_LIMIT) ≡ true
opens kept d e same p = ap (λ n. passes kept p9 (nat_lt n DEPTH_LIMIT)) same ∙ p

one_more_more : (cs : Constants) (c : Constant) (ds : Constants)
    → append_constants (one_more cs c) ds ≡ append_constants cs (a_constant c ds)
one_more_more cs c ds = constants_assoc cs (a_constant c no_constants) ds

mutual
  element_reads : {kept : Kept} {d : ℕ} {c : Constant} {ws us : List Word} → ReadsElement kept d c ws us
      → (n : Nest) (cs : Constants) → depth_nest n ≡ d
      → machine_run kept (in_elements n cs) ws ≡ machine_run kept (in_elements n (one_more cs c)) us
  element_reads (a_literal_element a_number) n cs h = refl
  element_reads (a_literal_element (a_negative_number m)) n cs h = rw m refl
  element_reads (a_literal_element a_character) n cs h = refl
  element_reads (a_literal_element a_string) n cs h = refl
  element_reads (a_literal_element a_symbol) n cs h = refl
  element_reads {kept} {d} (a_literal_element (an_array p es)) n cs h = rw (opens kept (depth_nest n) d h p)
      (elements_read es (in_array n cs) no_constants (ap suc h))
  element_reads a_name_element n cs h = refl
  element_reads {kept} (a_keyword_element {x = x} more) n cs h = run_reads more kept n cs x
  element_reads {kept} {us = us} (a_selector_element {x = x} {t = t} binary_is none) n cs h = binary_element
      (is_minus x) kept n cs x t us refl none
  element_reads (a_selector_element bar_is none) n cs h = refl
  element_reads {kept} {d} (a_nested_array p es) n cs h = rw (opens kept (depth_nest n) d h p)
      (elements_read es (in_array n cs) no_constants (ap suc h))

  pub elements_read : {kept : Kept} {d : ℕ} {ds : Constants} {ws us : List Word} → ReadsElements kept d ds ws us
      → (n : Nest) (cs : Constants) → depth_nest n ≡ d
      → machine_run kept (in_elements n cs) ws ≡ machine_run kept (in_elements n (append_constants cs ds)) us
  elements_read {kept} {us = us} no_elements n cs h = ap
      (λ ds. machine_run kept (in_elements n ds) us) (sym_path (constants_none cs))
  elements_read {kept} {us = us} (an_element {c = c} {cs = ds} e es) n cs h = element_reads e n cs h
      ∙ elements_read es n (one_more cs c) h ∙ ap (λ ds. machine_run kept (in_elements n ds) us) (one_more_more cs c ds)
