use Rattle.std.proofs.lemmas.List.{take_rest}
use Rattle.gem_server.proofs.Devices.{piece_written}
use Rattle.gem_server.proofs.output.write_all.Goals as goal

pub loop-rest-preserved : goal.loop-rest-preserved
loop-rest-preserved g c =
    piece_written c.in_ok-count.count _ _ _ c.loop-rest.invariant c.in_ok-count.ensures.bytes (take_rest c.loop-rest.rest.now c.in_ok-count.count)
    c.in_ok-count.ensures.faults.quiet
