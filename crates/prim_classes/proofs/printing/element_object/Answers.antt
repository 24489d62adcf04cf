use Rattle.std.proofs.Common.{sym, ◌∙◌}
use Rattle.prim_parts.proofs.Does.{does_reached}
use Rattle.prim_classes.proofs.Printed.{element_slots, element_by_class}
use Rattle.prim_classes.proofs.printing.element_object.Goals as goal

pub returns-in-Elements : goal.returns-in-Elements
returns-in-Elements g c = does_reached c.in_ok-read.ensures c.in-Some.ensures (element_slots c.in-Some.object.now.class c.in-Some.object.now.body
    c.in-Elements.field-0 (sym c.in-Elements.is ∙ c.in_ok-text.ensures) c.named_text.ensures)

pub returns : goal.returns
returns g c = does_reached c.in_ok-read.ensures c.in-Some.ensures (element_by_class c.in-Some.object.now.class c.in-Some.object.now.body
    (sym c.in-ByClass.is ∙ c.in_ok-text.ensures) c.named_text-in-ByClass.ensures)
