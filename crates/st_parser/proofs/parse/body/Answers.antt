use Rattle.std.proofs.Common.{◌≡◌, ◌<◌, ◌≤◌, [], ◌∷◌, false, refl, sym, ap, ◌∙◌, length, rules}
use Rattle.st_tree.specs.Trees.{no_statements, statements}
use Rattle.st_grammar.specs.Grammar.{scope}
use Rattle.st_grammar_laws.specs.Machine.{top, header, begin, outer, alone, in_body}
use Rattle.st_parser.specs.Descent.{Suits}
use Rattle.st_parser.specs.Scopes.{scopes_seen}
use Rattle.st_parser.proofs.Messages.{finishes_on, top_stuck, top_ends}
use Rattle.st_parser.proofs.parse.body.Goals as goal

pub returns-in_err-temps : goal.returns-in_err-temps
returns-in_err-temps c =
    let lent : c.args.params.items ≡ c.deref.result.now = search rules in
    finishes_on (header (top c.args.selector c.args.params.items [] no_statements))
    (header (top c.args.selector c.args.params.items [] no_statements)) c.args.r.now c.args.r.now c.temporaries.new.r
    c.in_err-temps.field-0.0 c.from_residual.result c.from_residual.ensures.1 refl
    (c.in_err-temps.ensures.met (top c.args.selector c.args.params.items [] no_statements) lent)

pub returns-in_err-body : goal.returns-in_err-body
returns-in_err-body c =
    let lent : c.args.params.items ≡ c.deref.result.now = search rules in
    let params : c.args.params.items ≡ c.deref-2.result.now = search rules in
    let temps : c.in_ok-temps.temps.items ≡ c.deref-3.result.now = search rules in
    let suits : Suits (outer (alone
    (in_body (top c.args.selector c.args.params.items c.in_ok-temps.temps.items no_statements) false)))
    (scopes_seen c.within-scopes.result) 0 = (
      ap (λ xs. scope xs c.in_ok-temps.temps.items ∷ []) params ∙ ap (λ xs. scope c.deref-2.result.now xs ∷ []) temps
          ∙ ap (λ ss. scope c.deref-2.result.now c.deref-3.result.now ∷ ss) (sym c.nothing_around-outside.ensures)
          ∙ sym c.within-scopes.ensures,
      refl,
    ) in
    finishes_on (header (top c.args.selector c.args.params.items [] no_statements))
    (begin (top c.args.selector c.args.params.items c.in_ok-temps.temps.items no_statements)) c.args.r.now
    c.temporaries.new.r c.statements.new.r c.in_err-body.field-0.0 c.from_residual-in_err-body.result
    c.from_residual-in_err-body.ensures.1
    (c.in_ok-temps.ensures.met (top c.args.selector c.args.params.items [] no_statements) lent)
    (c.in_err-body.ensures.met (top c.args.selector c.args.params.items c.in_ok-temps.temps.items no_statements) suits)

pub returns-then-left-gt0 : goal.returns-then-left-gt0
returns-then-left-gt0 c =
    let lent : c.args.params.items ≡ c.deref.result.now = search rules in
    let params : c.args.params.items ≡ c.deref-2.result.now = search rules in
    let temps : c.in_ok-temps.temps.items ≡ c.deref-3.result.now = search rules in
    let suits : Suits (outer (alone
    (in_body (top c.args.selector c.args.params.items c.in_ok-temps.temps.items no_statements) false)))
    (scopes_seen c.within-scopes.result) 0 = (
      ap (λ xs. scope xs c.in_ok-temps.temps.items ∷ []) params ∙ ap (λ xs. scope c.deref-2.result.now xs ∷ []) temps
          ∙ ap (λ ss. scope c.deref-2.result.now c.deref-3.result.now ∷ ss) (sym c.nothing_around-outside.ensures)
          ∙ sym c.within-scopes.ensures,
      refl,
    ) in
    let some : 0 < length c.statements.new.r = search rules in
    c.in_ok-temps.ensures.met (top c.args.selector c.args.params.items [] no_statements) lent
    ∙ c.in_ok-body.ensures.met (top c.args.selector c.args.params.items c.in_ok-temps.temps.items no_statements) suits
    ∙ top_stuck c.args.selector c.args.params.items c.in_ok-temps.temps.items
    (statements c.in_ok-body.body.items) c.statements.new.r some

pub returns : goal.returns
returns c =
    let lent : c.args.params.items ≡ c.deref.result.now = search rules in
    let params : c.args.params.items ≡ c.deref-2.result.now = search rules in
    let temps : c.in_ok-temps.temps.items ≡ c.deref-3.result.now = search rules in
    let suits : Suits (outer (alone
    (in_body (top c.args.selector c.args.params.items c.in_ok-temps.temps.items no_statements) false)))
    (scopes_seen c.within-scopes.result) 0 = (
      ap (λ xs. scope xs c.in_ok-temps.temps.items ∷ []) params ∙ ap (λ xs. scope c.deref-2.result.now xs ∷ []) temps
          ∙ ap (λ ss. scope c.deref-2.result.now c.deref-3.result.now ∷ ss) (sym c.nothing_around-outside.ensures)
          ∙ sym c.within-scopes.ensures,
      refl,
    ) in
    let none : length c.statements.new.r ≤ 0 = search rules in
    c.in_ok-temps.ensures.met (top c.args.selector c.args.params.items [] no_statements) lent
    ∙ c.in_ok-body.ensures.met (top c.args.selector c.args.params.items c.in_ok-temps.temps.items no_statements) suits
    ∙ top_ends c.args.selector c.args.params.items c.in_ok-temps.temps.items
    (statements c.in_ok-body.body.items) c.statements.new.r none
