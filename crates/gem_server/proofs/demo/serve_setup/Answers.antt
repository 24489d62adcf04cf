use Rattle.gem_server.proofs.demo.serve_setup.Goals as goal

pub returns : goal.returns
returns g c =
    rw (c.in_ok-script.ensures, c.new-disk.ensures, c.new.ensures.items, c.new-2.ensures.items) at c.serve_part.ensures
