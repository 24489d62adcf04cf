use Rattle.std.proofs.Common.{◌∙◌, sym, ap, is_some}
use Rattle.running_objects.specs.gem_image.Image.{contents_of}
use Rattle.running_objects.specs.Seen.{Seen}
use Rattle.look_up_cache.proofs.Slots.{slot_left}
use Rattle.look_up_cache.proofs.variables.slot_to_set.Goals as goal

pub returns-clause-left : goal.returns-clause-left
returns-clause-left g c = λ holds.
    let seen : Seen = g.O.Objects.seen c.args.objects.now in
    slot_left c.args.name.now c.args.receiver.now c.args.holder c.args.class_side c.in_ok-at.at seen
    (c.in_ok-at.ensures seen holds) c.in_ok-oid.oid (contents_of c.in_ok-object.object.now) (sym c.in_ok-oid.ensures)
    c.in_ok-object.ensures c.args.value.now (c.is_written.ensures seen holds.receivers c.if-not-is_written.false)
    (sym c.is_stored.ensures ∙ c.if-not-is_stored.false) (sym c.has_slot.ensures ∙ c.if-not-has_slot.false)

pub returns-clause-there : goal.returns-clause-there
returns-clause-there g c = ap is_some (sym c.in_ok-object.ensures)
