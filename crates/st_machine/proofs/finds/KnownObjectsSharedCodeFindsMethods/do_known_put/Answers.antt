use Rattle.std.proofs.Common.{Result, subst, [], ◌∷◌}
use Rattle.prim_parts.specs.prim_rules.declared.answer.PrimitiveAnswer.{PrimitiveAnswer}
use Rattle.prim_parts.specs.Does.{Does}
use Rattle.running_objects.specs.declared.stop.Stop.{Stop}
use Rattle.st_machine.specs.AtOnce.{with_unit}
use Rattle.st_machine.proofs.Lacking.{answering_as}
use Rattle.st_machine.proofs.finds.KnownObjectsSharedCodeFindsMethods.do_known_put.Goals as goal

pub returns-clause-done : goal.returns-clause-done
returns-clause-done g c = subst (λ (ended : Result PrimitiveAnswer Stop).
    Does (with_unit 35 c.args.receiver.now (c.args.index.now ∷ c.args.value.now ∷ [])) (g.O.Objects.seen c.args.self.now.0) ended
    (g.O.Objects.seen c.do_known_put.new.self.0)) (answering_as c.args.value.now c.in_ok-ended.ended c.lacking.result c.lacking.ensures)
    c.in_ok-ended.ensures.done
