use Rattle.std.proofs.Common.{refl}
use Rattle.st_grammar_laws.specs.Machine.{pattern_operator}
use Rattle.st_parser.proofs.Steps.{hands_on}
use Rattle.st_parser.proofs.declarations.operator_pattern.Goals as goal

pub returns-in_err-parameter : goal.returns-in_err-parameter
returns-in_err-parameter c = record {
  met = hands_on (pattern_operator c.args.selector.now)
      (pattern_operator c.args.selector.now) c.args.r.now c.args.r.now c.parameter.new.r _ c.in_err-parameter.field-0.0
      c.from_residual-in_err-parameter.result c.from_residual-in_err-parameter.ensures.1
      refl (c.in_err-parameter.ensures.operator c.args.selector.now c.new-params.ensures.items);
}
