use Rattle.std.proofs.Common.{◌∙◌, ap}
use Rattle.std.specs.FinMap.{insert}
use Rattle.gem_object.specs.declared.object.Object.{Object}
use Rattle.gem_image.specs.Image.{contents_of}
use Rattle.plain_state.specs.Overlay.{contents_by_name}
use Rattle.plain_state.proofs.Changes.{put_by_name}
use Rattle.plain_state.proofs.overlay.Overlay.put.Goals as goal

pub returns-clause-put : goal.returns-clause-put
returns-clause-put c = rw (← c.self.view_is) (ap contents_by_name c.in_ok-placed.ensures.entries
    ∙ put_by_name c.self.inside.entries.entries c.args.number c.new.result
    ∙ ap (λ (object : Object). insert (contents_by_name c.self.inside.entries.entries) c.args.number (contents_of object)) c.new.ensures)
