use Rattle.std.proofs.Common.{Result, subst}
use Rattle.gem_object.specs.declared.value.Value.{Value}
use Rattle.prim_parts.specs.Does.{Does}
use Rattle.gem_language.specs.OutOfScope.{write_out_of_scope}
use Rattle.running_objects.specs.declared.stop.Stop.{Stop}
use Rattle.look_up_cache.specs.Variables.{bare_frame}
use Rattle.st_machine.proofs.Lacking.{assigning_as}
use Rattle.st_machine.proofs.finds.KnownObjectsSharedCodeFindsMethods.set_known_variable.Goals as goal

pub returns-clause-done : goal.returns-clause-done
returns-clause-done g c = subst (λ (ended : Result Value Stop). Does (write_out_of_scope c.args.name.now
    (bare_frame c.args.receiver.now c.args.holder c.args.class_side) c.args.value.now)
    (g.O.Objects.seen c.args.self.now.0) ended (g.O.Objects.seen c.set_known_variable.new.self.0))
    (assigning_as c.args.value.now c.in_ok-ended.ended c.lacking.result c.lacking.ensures) c.in_ok-ended.ensures.done
