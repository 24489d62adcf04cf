use Rattle.gem_sound.specs.gem_image.Image.{contents_of}
use Rattle.prim_parts.proofs.Replaced.{limits_told, stored_held}
use Rattle.prim_parts.proofs.edits.stays_small.Goals as goal

pub returns : goal.returns
returns g c = limits_told c.args.change c.args.name (g.O.Objects.seen c.args.objects.now) (contents_of c.in-Some.object.now)
    c.slots.result c.in-Some-stored_bytes.bytes c.stays_within.result c.sound.ensures c.in-Some.ensures c.slots.ensures
    (stored_held (g.O.Objects.seen c.args.objects.now) c.args.name c.in-Some.ensures c.in-Some-stored_bytes.ensures)
    c.stays_within.ensures
