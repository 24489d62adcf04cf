use Rattle.std.proofs.Common.{sym, ◌∙◌}
use Rattle.prim_parts.proofs.Does.{does_reached, does_assoc}
use Rattle.prim_classes.proofs.Printed.{skims_class}
use Rattle.prim_classes.proofs.printing.skim_object.Goals as goal

pub returns : goal.returns
returns g c = does_assoc (does_reached c.in_ok-read.ensures c.in-Some.ensures (skims_class c.in-Some.object.now.class
    c.in-Some.object.now.body (sym c.has_own_text.ensures ∙ c.if-has_own_text.false) c.skim_class.ensures))
