use Rattle.body_codec.proofs.Given.{as_bytes, names_given}
use Rattle.body_codec.proofs.read_objects.effect_from.Goals as goal

pub of-requires : goal.of-requires
of-requires c = names_given c.args.number c.args.bytes.now c.in_ok-objects.objects.items c.in_ok-objects.rest.now
    (as_bytes c.args.bytes.now c.type_inv.bytes) c.in_ok-objects.ensures
