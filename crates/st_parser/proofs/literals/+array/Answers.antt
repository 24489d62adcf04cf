use Rattle.std.proofs.Common.{◌≡◌, ◌∷◌, true, sym, ap, ◌∙◌, subst, rules, arith, is_ok}
use Rattle.std.proofs.ResultArms.{chosen}
use Rattle.std.specs.Prelude.{nat_lt, map}
use Rattle.st_grammar.specs.declared.limits.TheConstants.{DEPTH_LIMIT}
use Rattle.st_tree.specs.Trees.{constants, no_constants}
use Rattle.st_grammar.specs.Tokens.{keyword, binary}
use Rattle.st_tree.specs.Views.{constant_of}
use Rattle.st_grammar.specs.Grammar.{word}
use Rattle.st_grammar_laws.specs.Machine.{in_elements, element_run, in_array, depth_nest, machine_run}
use Rattle.st_grammar.specs.Fails.{every}
use Rattle.st_parser.specs.Literals.{behind_selector}
use Rattle.st_parser.specs.Descent.{Runs}
use Rattle.st_parser.proofs.Steps.{hands_on, reached_after, keyword_element, selector_element, array_opens}
use Rattle.st_parser.proofs.Steps.{constants_more}
use Rattle.st_parser.proofs.literals.+array.Goals as goal

pub element-returns-in-Keyword-clause-met : goal.element-returns-in-Keyword-clause-met
element-returns-in-Keyword-clause-met t c = λ n cs d.
    let shown : c.args.r.now ≡ word keyword c.in-Some.lexeme.bytes.now c.in-Some.lexeme.touches
    ∷ c.skip-in-Keyword.new.self = search rules in
    reached_after (in_elements n cs)
    (element_run n cs c.in-Some.lexeme.bytes.now) c.args.r.now c.skip-in-Keyword.new.self c.keyword_run.new.r _
    c.keyword_run.result
    (keyword_element n cs _ _ c.args.r.now c.skip-in-Keyword.new.self shown) (c.keyword_run.ensures.met n cs)

pub element-returns-in-Binary-clause-met : goal.element-returns-in-Binary-clause-met
element-returns-in-Binary-clause-met t c = λ n cs d.
    let shown : c.args.r.now ≡ word binary c.in-Some.lexeme.bytes.now c.in-Some.lexeme.touches
    ∷ c.skip-in-Binary.new.self = search rules in
    reached_after (in_elements n cs)
    (behind_selector n cs c.in-Some.lexeme.bytes.now) c.args.r.now c.skip-in-Binary.new.self c.selector.new.r _
    c.selector.result
    (selector_element n cs _ _ c.args.r.now c.skip-in-Binary.new.self shown) (c.selector.ensures.met n cs)

pub elements-returns-in_err-element-clause-met : goal.elements-returns-in_err-element-clause-met
elements-returns-in_err-element-clause-met t c = λ n d.
    hands_on (in_elements n no_constants)
    (in_elements n (constants (map constant_of c.elements.items.items))) c.args.r.now c.elements.r c.element.new.r _
    c.in_err-element.field-0.0 c.from_residual.result c.from_residual.ensures.1
    (c.elements.invariant.runs n d) (c.in_err-element.ensures.met n _ d)

pub elements-elements-preserved : goal.elements-elements-preserved
elements-elements-preserved t c =
    let pushed = chosen _ _ _ _ c.push.ensures.items (ap is_ok c.in_ok-push.was) in
    record {
      runs = λ n d. c.elements.invariant.runs n d
          ∙ c.in_ok-element.ensures.met n (constants (map constant_of c.elements.items.items)) d
          ∙ ap (λ cs. machine_run every (in_elements n cs) c.element.new.r)
          (sym (ap (λ ls. constants (map constant_of ls)) pushed
          ∙ constants_more c.elements.items.items c.in_ok-element.field-0));
      shorter = omega (arith, c.elements.invariant.shorter, c.in_ok-element.ensures.shorter);
    }

pub nested-returns-in_err-elements-clause-met : goal.nested-returns-in_err-elements-clause-met
nested-returns-in_err-elements-clause-met t c = λ n cs d.
    let small : nat_lt (depth_nest n) DEPTH_LIMIT ≡ true = search rules in
    let opens : Runs (in_elements n cs) c.args.r.now (in_elements (in_array n cs) no_constants) c.skip.new.self = subst
    (λ ws. Runs (in_elements n cs) c.args.r.now (in_elements (in_array n cs) no_constants) ws) (sym c.skip.ensures)
    (array_opens n cs c.args.r.now c.requires.opens small) in
    hands_on (in_elements n cs)
    (in_elements (in_array n cs) no_constants) c.args.r.now c.skip.new.self c.elements.new.r _
    c.in_err-elements.field-0.0 c.from_residual.result c.from_residual.ensures.1
    opens (c.in_err-elements.ensures.met (in_array n cs) (omega (arith, d)))

pub element-returns-in_default-kind : goal.element-returns-in_default-kind
element-returns-in_default-kind t c = record
    { met = λ n cs d. c.atom_element.ensures.met n cs; shorter = c.atom_element.ensures.shorter }
