use Rattle.std.proofs.Common.{◌<◌, ◌^◌, length}
use Rattle.st_compiler.specs.Emitted.{bodies}
use Rattle.st_encoder.proofs.Writes.{BodiesLeft}
use Rattle.st_encoder.proofs.writer.put_bodies.Given as goal

abbrev pub invariant-loop-body : goal.invariant-loop-body
invariant-loop-body l = record {
  small : length l.bytes.items < 2 ^ 32;
  left : BodiesLeft (bodies l.pushed) (bodies l.rest) l.bytes.items l.literals.items l.blocks.items
      l.initial.bytes.items l.initial.literals.items l.initial.blocks.items;
}

abbrev pub decreases-loop-body : goal.decreases-loop-body
decreases-loop-body l = length l.rest
