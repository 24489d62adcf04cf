use Rattle.std.proofs.Common.{ap, ◌∙◌}
use Rattle.prim_rules.specs.Parts.{truth}
use Rattle.prim_classes.proofs.Same.{same_stops, same_gives}
use Rattle.prim_classes.proofs.any.same.Goals as goal

pub returns-in_err-check : goal.returns-in_err-check
returns-in_err-check c = same_stops c.args.value.now c.args.other.now _ c.are_no_blocks.ensures c.in_err-check.ensures c.from_residual.ensures.1

pub returns : goal.returns
returns c = same_gives c.args.value.now c.args.other.now _ _ c.are_no_blocks.ensures c.in_ok-check.ensures
    (c.truth.ensures ∙ ap truth c.same_value.ensures)
