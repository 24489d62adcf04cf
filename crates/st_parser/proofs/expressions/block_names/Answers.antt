use Rattle.std.proofs.Common.{◌≡◌, [], refl, ap, ◌∙◌, rules}
use Rattle.st_tree.specs.Trees.{no_statements}
use Rattle.st_grammar.specs.Fails.{every}
use Rattle.st_grammar_laws.specs.Machine.{machine_run, in_params, in_block, header, begin}
use Rattle.st_parser.proofs.Steps.{hands_on}
use Rattle.st_parser.proofs.expressions.block_names.Goals as goal

pub returns-in_err-params-clause-met : goal.returns-in_err-params-clause-met
returns-in_err-params-clause-met c = λ k names.
    hands_on (in_params k names [])
    (in_params k names []) c.args.r.now c.args.r.now c.parameters.new.r _ c.in_err-params.field-0.0
    c.from_residual.result c.from_residual.ensures.1 refl (c.in_err-params.ensures.met k names)

pub returns-in_err-skip_bar-clause-met : goal.returns-in_err-skip_bar-clause-met
returns-in_err-skip_bar-clause-met c = λ k names.
    let lent : c.in_ok-params.params.items ≡ c.deref.result.now = search rules in
    hands_on (in_params k names [])
    (in_params k names c.deref.result.now) c.args.r.now c.parameters.new.r c.skip_bar.new.r _
    c.in_err-skip_bar.field-0.0 c.from_residual-in_err-skip_bar.result c.from_residual-in_err-skip_bar.ensures.1
    (c.in_ok-params.ensures.met k names ∙ ap (λ ps. machine_run every (in_params k names ps) c.parameters.new.r) lent)
    (c.in_err-skip_bar.ensures.met k names)

pub returns-in_err-temps-clause-met : goal.returns-in_err-temps-clause-met
returns-in_err-temps-clause-met c = λ k names.
    let lent : c.in_ok-params.params.items ≡ c.deref.result.now = search rules in
    let again : c.deref.result.now ≡ c.deref-2.result.now = search rules in
    hands_on (in_params k names [])
    (header (in_block k names c.deref-2.result.now [] no_statements)) c.args.r.now c.skip_bar.new.r c.temporaries.new.r
    _ c.in_err-temps.field-0.0 c.from_residual-in_err-temps.result c.from_residual-in_err-temps.ensures.1
    (c.in_ok-params.ensures.met k names ∙ ap (λ ps. machine_run every (in_params k names ps) c.parameters.new.r) lent
    ∙ c.in_ok-skip_bar.ensures.met k names
    ∙ ap (λ ps. machine_run every (header (in_block k names ps [] no_statements)) c.skip_bar.new.r) again)
    (c.in_err-temps.ensures.met (in_block k names c.deref-2.result.now [] no_statements) refl)

pub returns-clause-met : goal.returns-clause-met
returns-clause-met c = λ k names.
    let lent : c.in_ok-params.params.items ≡ c.deref.result.now = search rules in
    let again : c.deref.result.now ≡ c.deref-2.result.now = search rules in
    let back : c.deref-2.result.now ≡ c.in_ok-params.params.items = search rules in
    c.in_ok-params.ensures.met k names ∙ ap (λ ps. machine_run every (in_params k names ps) c.parameters.new.r) lent
    ∙ c.in_ok-skip_bar.ensures.met k names
    ∙ ap (λ ps. machine_run every (header (in_block k names ps [] no_statements)) c.skip_bar.new.r) again
    ∙ c.in_ok-temps.ensures.met (in_block k names c.deref-2.result.now [] no_statements) refl
    ∙ ap (λ ps. machine_run every
    (begin (in_block k names ps c.in_ok-temps.temps.items no_statements)) c.temporaries.new.r) back
