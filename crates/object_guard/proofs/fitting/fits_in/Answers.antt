use Rattle.std.proofs.Common.{◌∙◌, sym}
use Rattle.object_programs.specs.gem_image.Image.{contents_of}
use Rattle.object_guard.proofs.Pieces.{fits_by}
use Rattle.object_guard.proofs.fitting.fits_in.Goals as goal

pub returns : goal.returns
returns g c = c.passes.ensures
    ∙ sym (fits_by (g.S.Sees.parts c.args.state.now) c.args.name (contents_of c.args.object.now) c.requires)
