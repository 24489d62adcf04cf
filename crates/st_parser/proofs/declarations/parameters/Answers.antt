use Rattle.st_grammar_laws.specs.Machine.{in_params, param_wanted}
use Rattle.st_parser.proofs.Steps.{hands_on}
use Rattle.st_parser.proofs.declarations.parameters.Goals as goal
use Rattle.std.proofs.Common.{rules, ◌∙◌, []}
use Rattle.st_parser.specs.Descent.{Runs}

pub returns-in_err-parameter-clause-met : goal.returns-in_err-parameter-clause-met
returns-in_err-parameter-clause-met c = λ k names.
    let before : Runs (in_params k names c.params.params.items) c.params.r
    (param_wanted k names c.params.params.items) c.skip.new.self = search rules in
    hands_on (in_params k names [])
    (param_wanted k names c.params.params.items) c.args.r.now c.skip.new.self c.parameter.new.r _
    c.in_err-parameter.field-0.0 c.from_residual.result c.from_residual.ensures.1
    (c.params.invariant.runs k names ∙ before) (c.in_err-parameter.ensures.block k names)
