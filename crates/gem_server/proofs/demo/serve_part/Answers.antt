use Rattle.std.proofs.Common.{Some, ap}
use Rattle.gem_io.specs.Memory.{Reading}
use Rattle.gem_server.proofs.Demos.{is_done, part_served}
use Rattle.gem_server.proofs.demo.serve_part.Goals as goal

pub returns-in-Done : goal.returns-in-Done
returns-in-Done g c = part_served c.served_whole.result c.args.script.items _ _ (λ always.
    let done = is_done c.args.script.items _ _ _ _ _ (ap (λ (s : Reading). Some s.left) c.new-source.ensures)
    (rw c.in-Done.is at c.serve_store-ended.ensures) always in
    record { opened = done.opened; served = done.served })
    c.served_whole.ensures.same c.served_whole.ensures.served
