use Rattle.std.proofs.Common.{refl}
use Rattle.gem_image.specs.Image.{contents_of}
use Rattle.plain_state.proofs.OneStep.{added_there}
use Rattle.plain_state.proofs.parts.Parts.add.Goals as goal

pub returns-clause-added : goal.returns-clause-added
returns-clause-added c = rw (c.in_ok-put.ensures.put, ← c.self.view_is)
    (added_there _ c.from_parts-oid.result c.number.result (contents_of c.args.object) _
    refl c.number.ensures.number c.from_parts-oid.ensures)
