use Rattle.std.proofs.Common.{◌∙◌, sym}
use Rattle.st_outside.proofs.Slots.{slot_stop, on_class_side, on_instance_side}
use Rattle.look_up_cache.proofs.known.KnownObjects.slot_of.Goals as goal

pub returns-in_err-found : goal.returns-in_err-found
returns-in_err-found g c = slot_stop c.args.name.now c.args.frame.now c.holder.result c.holder.ensures
    c.from_residual.result c.from_residual.ensures.1 c.in_err-found.ensures

pub returns-then-class_side : goal.returns-then-class_side
returns-then-class_side g c = on_class_side c.args.name.now c.args.frame.now c.holder.result c.holder.ensures
    (sym c.class_side.ensures ∙ c.if-class_side.true) c.in_ok-found.found c.in_ok-found.ensures

pub returns : goal.returns
returns g c = on_instance_side c.args.name.now c.args.frame.now c.holder.result c.holder.ensures
    (sym c.class_side.ensures ∙ c.if-class_side.false) c.in_ok-found.found c.in_ok-found.ensures
