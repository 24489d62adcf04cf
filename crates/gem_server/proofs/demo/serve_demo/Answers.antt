use Rattle.gem_server.proofs.Demos.{demo_told}
use Rattle.gem_server.proofs.demo.serve_demo.Goals as goal

pub returns-clause-demos : goal.returns-clause-demos
returns-clause-demos g c =
    demo_told c.args.load.seed c.args.load.sessions c.args.load.rounds _ _ _ _ c.in-Ok.ensures
    (rw (c.as_bytes.ensures.value, c.in-Ok-lines_of.ensures) at c.write_out.ensures)
