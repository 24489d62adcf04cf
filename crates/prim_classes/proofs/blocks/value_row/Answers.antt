use Rattle.std.proofs.Common.{List, ap}
use Rattle.gem_object.specs.declared.value.Value.{Value}
use Rattle.prim_rules.specs.declared.answer.PrimitiveAnswer.TheVariants.{Evaluates}
use Rattle.prim_classes.proofs.Steps.{steps, computes_no_memory, computes_given}
use Rattle.prim_parts.proofs.Onward.{computes_on}
use Rattle.prim_classes.proofs.blocks.value_row.Goals as goal

pub returns-in_err-block : goal.returns-in_err-block
returns-in_err-block c = search (steps, c.in_err-block.ensures, c.from_residual.ensures.1)

pub returns-in_err-check : goal.returns-in_err-check
returns-in_err-check c = search (steps, c.in_ok-block.ensures, c.in_err-check.ensures, c.from_residual-in_err-check.ensures.1)

pub returns-in_err-check-2 : goal.returns-in_err-check-2
returns-in_err-check-2 c = search (steps, c.in_ok-block.ensures, c.in_ok-check.ensures, c.in_err-check-2.ensures, c.from_residual-in_err-check-2.ensures.1)

pub returns-in_err-copies : goal.returns-in_err-copies
returns-in_err-copies c = computes_on c.in_ok-block.ensures (computes_on c.in_ok-check.ensures (computes_on c.in_ok-check-2.ensures
    (computes_no_memory c.from_residual-in_err-copies.ensures.1)))

pub returns : goal.returns
returns c = computes_on c.in_ok-block.ensures (computes_on c.in_ok-check.ensures (computes_on c.in_ok-check-2.ensures
    (computes_given (ap (λ (values : List Value). Evaluates c.in_ok-block.block values) c.in_ok-copies.ensures))))
