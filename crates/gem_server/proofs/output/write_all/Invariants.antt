use Rattle.std.proofs.Common.{length}
use Rattle.gem_server.proofs.Devices.{Wrote}
use Rattle.gem_server.proofs.output.write_all.Given as goal

abbrev pub invariant-loop-rest : goal.invariant-loop-rest
invariant-loop-rest g l =
    Wrote l.bytes (g.K.Sink.written l.fn.sink) (g.K.Sink.written l.sink) l.rest (g.K.Sink.faults l.fn.sink) (g.K.Sink.faults l.sink)

abbrev pub decreases-loop-rest : goal.decreases-loop-rest
decreases-loop-rest g l = length l.rest
