use Rattle.std.proofs.Common.{[]}
use Rattle.st_grammar_laws.specs.Machine.{pattern_keyword}
use Rattle.st_parser.proofs.Steps.{hands_on}
use Rattle.st_parser.proofs.declarations.keyword_pattern.Goals as goal

pub returns-in_err-parameter : goal.returns-in_err-parameter
returns-in_err-parameter c = record {
  met = hands_on (pattern_keyword c.args.first.now [])
      (pattern_keyword c.parts.selector.items c.parts.params.items) c.args.r.now c.parts.r c.parameter.new.r _
      c.in_err-parameter.field-0.0 c.from_residual-in_err-parameter.result c.from_residual-in_err-parameter.ensures.1
      c.parts.invariant (c.in_err-parameter.ensures.keyword c.parts.selector.items);
}
