use Rattle.gem_server.proofs.demo.serve_load.Goals as goal

pub returns : goal.returns
returns g c = rw c.in_ok-script.ensures at c.serve_part.ensures
