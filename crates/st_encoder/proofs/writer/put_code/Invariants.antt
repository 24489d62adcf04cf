use Rattle.std.proofs.Common.{◌≡◌, ◌+◌, length}
use Rattle.st_compiler.specs.Emitted.{instructions}
use Rattle.st_encoder.proofs.Writes.{CodeLeft}
use Rattle.st_encoder.proofs.writer.put_code.Given as goal

abbrev pub invariant-loop-one : goal.invariant-loop-one
invariant-loop-one l = record {
  count : l.number + length l.rest ≡ length l.code;
  left : CodeLeft l.start (instructions l.code) l.number (instructions l.rest) l.bytes.items l.literals.items
      l.initial.bytes.items l.initial.literals.items;
}

abbrev pub decreases-loop-one : goal.decreases-loop-one
decreases-loop-one l = length l.rest
