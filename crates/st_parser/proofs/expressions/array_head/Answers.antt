use Rattle.std.proofs.Common.{◌≡◌, true, arith, rules}
use Rattle.std.specs.Prelude.{nat_lt}
use Rattle.st_grammar.specs.declared.limits.TheConstants.{DEPTH_LIMIT}
use Rattle.st_tree.specs.Trees.{no_constants}
use Rattle.st_grammar_laws.specs.Machine.{want, in_elements, of_head, depth_of}
use Rattle.st_parser.proofs.Steps.{hands_on}
use Rattle.st_parser.proofs.Messages.{array_head_opens}
use Rattle.st_parser.proofs.expressions.array_head.Goals as goal

pub returns-in_err-elements-clause-met : goal.returns-in_err-elements-clause-met
returns-in_err-elements-clause-met c = λ k names d.
    let small : nat_lt (depth_of k) DEPTH_LIMIT ≡ true = search rules in
    hands_on (want k names) (in_elements
    (of_head k names) no_constants) c.args.r.now c.skip.new.self c.elements.new.r _ c.in_err-elements.field-0.0
    c.from_residual.result c.from_residual.ensures.1
    (array_head_opens k names c.args.r.now c.skip.new.self c.requires.opens small c.skip.ensures)
    (c.in_err-elements.ensures.met (of_head k names) (omega (arith, d)))
