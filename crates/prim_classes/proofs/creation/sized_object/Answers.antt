use Rattle.std.proofs.Common.{sym, ◌∙◌}
use Rattle.prim_rules.specs.Parts.{new_object}
use Rattle.prim_parts.proofs.Does.{does_exit}
use Rattle.prim_classes.proofs.Created.{sized_large}
use Rattle.prim_classes.proofs.creation.sized_object.Goals as goal

pub returns-in_err-default_segment : goal.returns-in_err-default_segment
unfolding new_object
returns-in_err-default_segment g c = does_exit _ c.from_residual.ensures.1 c.in_err-default_segment.ensures

pub returns-then-not-may_fit : goal.returns-then-not-may_fit
returns-then-not-may_fit g c = sized_large c.args.kind c.args.named c.args.count c.args.class c.in_ok-default_segment.field-0
    (sym c.may_fit.ensures ∙ c.if-not-may_fit.true) c.in_ok-default_segment.ensures
