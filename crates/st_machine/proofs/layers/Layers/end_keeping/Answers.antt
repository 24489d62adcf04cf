use Rattle.st_machine.proofs.KeptOwn.{end_kept}
use Rattle.st_machine.proofs.layers.Layers.end_keeping.Goals as goal

pub returns : goal.returns
returns g c =
    end_kept c.self.inside.items.items c.self.inside.base c.args.base c.args.self.now c.self.view_is c.requires
