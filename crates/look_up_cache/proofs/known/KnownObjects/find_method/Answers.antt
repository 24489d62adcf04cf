use Rattle.std.proofs.Common.{ℕ, false, Result}
use Rattle.running_objects.specs.declared.stop.Stop.{Stop}
use Rattle.gem_language.specs.LookUp.{find_method}
use Rattle.prim_parts.specs.Does.{Does}
use Rattle.prim_parts.proofs.Onward.{handed}
use Rattle.look_up_cache.specs.Table.{held_at}
use Rattle.look_up_cache.specs.Memory.{told_by}
use Rattle.look_up_cache.proofs.Gives.{known_does}
use Rattle.look_up_cache.proofs.Meets.{met_goes, met_stops}
use Rattle.look_up_cache.proofs.known.KnownObjects.find_method.Goals as goal

pub returns-in-Some : goal.returns-in-Some
returns-in-Some g c = known_does c.args.frame.now c.args.receiver.now c.args.selector.now
    (held_at c.args.self.now.1 c.in-Some.at) (g.O.Objects.seen c.args.self.now.0) c.in-Some.ensures

pub returns-in_err-meet : goal.returns-in_err-meet
returns-in_err-meet g c =
    handed (λ (result : Result ℕ Stop). Does (find_method false c.args.frame.now c.args.receiver.now c.args.selector.now)
    (g.O.Objects.seen c.args.self.now.0) (told_by c.meet.new.self.1 result) (g.O.Objects.seen c.meet.new.self.0))
    c.from_residual.result c.in_err-meet.field-0.0 c.from_residual.ensures.1
    (met_stops c.args.frame.now c.args.selector.now c.args.receiver.now c.in_err-meet.field-0.0 c.in_err-meet.ensures)

pub returns-in-Some-known_place : goal.returns-in-Some-known_place
returns-in-Some-known_place g c =
    met_goes c.args.frame.now c.args.selector.now c.args.receiver.now c.in_ok-meet.ensures
    (known_does c.args.frame.now c.args.receiver.now c.args.selector.now
    (held_at c.meet.new.self.1 c.in-Some-known_place.at) (g.O.Objects.seen c.meet.new.self.0) c.in-Some-known_place.ensures)

pub returns-in-None : goal.returns-in-None
returns-in-None g c =
    met_goes c.args.frame.now c.args.selector.now c.args.receiver.now c.in_ok-meet.ensures c.look_up.ensures
