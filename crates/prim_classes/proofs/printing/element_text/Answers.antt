use Rattle.std.proofs.Common.{sym, ◌∙◌}
use Rattle.prim_classes.proofs.Printed.{value_element}
use Rattle.prim_classes.proofs.printing.element_text.Goals as goal

pub returns-in-Object : goal.returns-in-Object
returns-in-Object g c = value_element c.args.element.now c.in-Object.name (sym c.in-Object.is ∙ c.in_ok-text.ensures) c.element_object.ensures
