use Rattle.object_programs.specs.declared.fault.Fault.TheVariants as fault
use Rattle.object_programs.specs.gem_world.Access.{a_write}
use Rattle.prim_rules.specs.Parts.{class_in}
use Rattle.prim_parts.proofs.Does.{does_then, does_exit, computes_then}
use Rattle.prim_classes.proofs.Steps.{does_no_memory}
use Rattle.prim_parts.proofs.Onward.{computes_stops}
use Rattle.prim_classes.proofs.ClassFacts.{received_as, received_wrong, received_refused, received_none, check_same, replaced_same}
use Rattle.prim_classes.proofs.ClassFits.{removed_fits}
use Rattle.prim_classes.proofs.classes.row_60.Goals as goal

pub returns-in_err-name : goal.returns-in_err-name
returns-in_err-name g c = does_exit _ c.from_residual.ensures.1 (received_none a_write class_in c.args.receiver.now (g.O.Objects.seen c.args.objects.now) c.in_err-name.ensures)

pub returns-in_err-write : goal.returns-in_err-write
returns-in_err-write g c = does_exit _ c.from_residual-in_err-write.ensures.1 (received_refused a_write class_in c.args.receiver.now _ c.in_ok-name.ensures
    c.in_err-write.ensures)

pub returns-in_err-class : goal.returns-in_err-class
returns-in_err-class g c = does_exit _ c.from_residual-in_err-class.ensures.1 (received_wrong a_write class_in c.args.receiver.now _ c.in_ok-name.ensures c.in_ok-write.ensures
    (c.in_err-class.ensures c.in_ok-write.ensures.object c.in_ok-write.ensures.there))

pub returns-in_err-selector : goal.returns-in_err-selector
returns-in_err-selector g c = does_then (received_as a_write class_in c.args.receiver.now _ _ c.in_ok-name.ensures c.in_ok-write.ensures (c.in_ok-class.ensures c.in_ok-write.ensures.object c.in_ok-write.ensures.there))
    (computes_stops c.in_err-selector.ensures c.from_residual-in_err-selector.ensures.1)

pub returns-in_err-check : goal.returns-in_err-check
returns-in_err-check g c = does_then (received_as a_write class_in c.args.receiver.now _ _ c.in_ok-name.ensures c.in_ok-write.ensures (c.in_ok-class.ensures c.in_ok-write.ensures.object c.in_ok-write.ensures.there))
    (computes_then c.in_ok-selector.ensures (computes_stops (check_same fault.KeyAbsent c.understands.ensures c.in_err-check.ensures)
    c.from_residual-in_err-check.ensures.1))

pub returns-in_err-without : goal.returns-in_err-without
returns-in_err-without g c = does_then (received_as a_write class_in c.args.receiver.now _ _ c.in_ok-name.ensures c.in_ok-write.ensures (c.in_ok-class.ensures c.in_ok-write.ensures.object c.in_ok-write.ensures.there))
    (computes_then c.in_ok-selector.ensures (computes_then (check_same fault.KeyAbsent c.understands.ensures c.in_ok-check.ensures)
    (does_no_memory c.from_residual-in_err-without.ensures.1)))

pub removed-requires : goal.removed-requires
removed-requires g c = removed_fits (g.O.Objects.seen c.write.new.self) c.in_ok-name.name c.in_ok-write.ensures.object c.in_ok-class.class.now c.in_ok-without.without
    c.in_ok-selector.selector.now c.sound.ensures c.in_ok-write.ensures.there (c.in_ok-class.ensures c.in_ok-write.ensures.object c.in_ok-write.ensures.there) c.in_ok-without.ensures

pub returns : goal.returns
returns g c = does_then (received_as a_write class_in c.args.receiver.now _ _ c.in_ok-name.ensures c.in_ok-write.ensures (c.in_ok-class.ensures c.in_ok-write.ensures.object c.in_ok-write.ensures.there))
    (computes_then c.in_ok-selector.ensures (computes_then (check_same fault.KeyAbsent c.understands.ensures c.in_ok-check.ensures)
    (replaced_same c.in_ok-name.name c.in_ok-write.ensures.object c.in_ok-without.ensures (c.removed.ensures c.in_ok-write.ensures.object c.in_ok-write.ensures.there))))
