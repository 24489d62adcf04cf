use Rattle.gem_server.proofs.Demos.{all_served}
use Rattle.gem_server.proofs.demo.serve_parts.Goals as goal

pub returns : goal.returns
returns g c =
    all_served c.args.load.seed c.args.load.sessions c.args.load.rounds c.in_ok-setup.setup c.in_ok-loaded.loaded
    c.in_ok-serve_part.field-0 c.in_ok-setup.ensures c.in_ok-loaded.ensures c.requires
    (rw c.in_ok-script.ensures at c.in_ok-serve_part.ensures)
