use Rattle.std.proofs.Common.{refl, Result}
use Rattle.running_objects.specs.declared.stop.Stop.{Stop}
use Rattle.prim_parts.proofs.Onward.{handed}
use Rattle.look_up_cache.specs.Elements.{UnitAndPut, no_unit, one_unit}
use Rattle.look_up_cache.proofs.Sequences.{there_still}
use Rattle.look_up_cache.proofs.known.KnownObjects.put_after_unit.Goals as goal

pub put_in_slot-requires : goal.put_in_slot-requires
put_in_slot-requires g c = there_still c.args.put.slot.name (g.O.Objects.seen c.args.self.now.0)
    (g.O.Objects.seen c.take_unit.new.self.0) c.in_ok-take_unit.ensures.unit c.requires

pub returns-in_err-take_unit-clause-put : goal.returns-in_err-take_unit-clause-put
returns-in_err-take_unit-clause-put g c =
    handed (λ (result : Result (Unit {0}) Stop). UnitAndPut c.args.put (g.O.Objects.seen c.args.self.now.0) result
    (g.O.Objects.seen c.take_unit.new.self.0)) c.from_residual.result c.in_err-take_unit.field-0.0
    c.from_residual.ensures.1 (no_unit c.in_err-take_unit.field-0.0 c.in_err-take_unit.ensures.unit refl)

pub returns-clause-put : goal.returns-clause-put
returns-clause-put g c = one_unit (g.O.Objects.seen c.take_unit.new.self.0) c.put_in_slot.result
    c.in_ok-take_unit.ensures.unit c.put_in_slot.ensures.put refl
