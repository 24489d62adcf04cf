use Rattle.gem_image.specs.Image.{contents_of}
use Rattle.gem_object.specs.declared.value.Value.{Value}
use Rattle.std.proofs.Common.{List, drop, ap, ◌∙◌}
use Rattle.prim_parts.proofs.Does.{does_then, does_reached, does_exit, does_atom, computes_then}
use Rattle.prim_classes.proofs.Steps.{does_no_memory, does_given}
use Rattle.prim_parts.proofs.Onward.{computes_stops}
use Rattle.prim_parts.proofs.Walks.{class_known}
use Rattle.prim_classes.proofs.ClassFacts.{slots_then}
use Rattle.prim_classes.proofs.classes.elements_of.Goals as goal

pub named_slots-named-requires : goal.named_slots-named-requires
named_slots-named-requires g c = class_known (g.O.Objects.seen c.read.new.self) c.sound.ensures c.in_ok-name.name
    (contents_of c.in-Some.object.now) c.in-Some.ensures

pub returns-in_err-name : goal.returns-in_err-name
returns-in_err-name g c = computes_stops c.in_err-name.ensures c.from_residual.ensures.1

pub returns-in_err-read : goal.returns-in_err-read
returns-in_err-read g c = computes_then c.in_ok-name.ensures (does_exit _ c.from_residual-in_err-read.ensures.1 (does_atom c.in_err-read.ensures))

pub returns-in_err-slots_from : goal.returns-in_err-slots_from
returns-in_err-slots_from g c = computes_then c.in_ok-name.ensures (does_reached c.in_ok-read.ensures c.in-Some.ensures (slots_then c.in-Some.object.now.body c.in-Plain.slots c.in-Plain.is
    (does_then c.named_slots-named.ensures (does_no_memory c.from_residual-in_err-slots_from.ensures.1))))

pub returns : goal.returns
returns g c = computes_then c.in_ok-name.ensures (does_reached c.in_ok-read.ensures c.in-Some.ensures (slots_then c.in-Some.object.now.body c.in-Plain.slots c.in-Plain.is
    (does_then c.named_slots-named.ensures (does_given (c.in_ok-slots_from.ensures
    ∙ ap (λ (values : List Value). drop c.named_slots-named.result values) c.as_slice.ensures)))))
