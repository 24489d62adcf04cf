use Rattle.gem_object.specs.declared.value.Value.{Value}
use Rattle.prim_parts.specs.Does.{Does}
use Rattle.prim_rules.specs.Printing.{array_text}
use Rattle.prim_classes.specs.Prints.{shortened}
use Rattle.std.proofs.Common.{List, sym, subst, ◌∙◌}
use Rattle.prim_parts.proofs.Does.{does_then, does_reached, does_assoc}
use Rattle.prim_classes.proofs.Steps.{does_given}
use Rattle.prim_parts.proofs.Onward.{does_stops}
use Rattle.prim_classes.proofs.Printed.{whole_by_class, whole_slots}
use Rattle.prim_classes.proofs.printing.whole_object.Goals as goal

pub returns-in_err-named_text-in-ByClass : goal.returns-in_err-named_text-in-ByClass
returns-in_err-named_text-in-ByClass g c = does_assoc (does_reached c.in_ok-read.ensures c.in-Some.ensures (does_stops (whole_by_class c.in-Some.object.now.class c.in-Some.object.now.body
    (sym c.in-ByClass.is ∙ c.in_ok-text.ensures) c.in_err-named_text-in-ByClass.ensures)
    c.from_residual-in_err-named_text-in-ByClass.ensures.1))

pub returns-in-Elements : goal.returns-in-Elements
returns-in-Elements g c =
    let At : List Value → Type 0 = λ these. Does (shortened (array_text these)) (g.O.Objects.seen c.read.new.self) c.array_text.result
    (g.O.Objects.seen c.array_text.new.objects) in
    does_assoc (does_reached c.in_ok-read.ensures c.in-Some.ensures (whole_slots c.in-Some.object.now.class c.in-Some.object.now.body c.in-Elements.elements
    (sym c.in-Elements.is ∙ c.in_ok-text.ensures) (subst At c.as_slice.ensures c.array_text.ensures)))

pub returns-in_ok-named_text-in-ByClass : goal.returns-in_ok-named_text-in-ByClass
returns-in_ok-named_text-in-ByClass g c = does_assoc (does_reached c.in_ok-read.ensures c.in-Some.ensures (does_then (whole_by_class c.in-Some.object.now.class c.in-Some.object.now.body
    (sym c.in-ByClass.is ∙ c.in_ok-text.ensures) c.in_ok-named_text-in-ByClass.ensures) (does_given c.short-in-ByClass.ensures)))
