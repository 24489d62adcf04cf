use Rattle.std.proofs.Common.{sym, ◌∙◌}
use Rattle.prim_rules.specs.Printing.{whole_text}
use Rattle.prim_parts.proofs.Does.{does_then}
use Rattle.prim_classes.proofs.Steps.{does_given}
use Rattle.prim_classes.proofs.Printed.{value_own, value_whole}
use Rattle.prim_classes.proofs.printing.short_text.Goals as goal

pub returns-in-Own : goal.returns-in-Own
unfolding whole_text
returns-in-Own g c = does_then (value_own _ c.args.value.now c.in-Own.text _ (sym c.in-Own.is ∙ c.in_ok-text.ensures)) (does_given c.short.ensures)

pub returns-in-Object : goal.returns-in-Object
unfolding whole_text
returns-in-Object g c = value_whole c.args.value.now c.in-Object.name (sym c.in-Object.is ∙ c.in_ok-text.ensures) c.whole_object.ensures
