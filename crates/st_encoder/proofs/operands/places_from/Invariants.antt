use Rattle.std.proofs.Common.{◌≡◌, ◌<◌, ◌+◌, ◌^◌, ◌++◌, length}
use Rattle.st_compiler.specs.Emitted.{instructions}
use Rattle.st_encoder.specs.Bytes.{code_size}
use Rattle.st_encoder.specs.Operands.{places_from}
use Rattle.st_encoder.proofs.operands.places_from.Given as goal

-- the places so far, and then those of the rest, are all
abbrev pub invariant-loop-one : goal.invariant-loop-one
invariant-loop-one l = record {
  small : l.at < 2 ^ 32;
  size : l.at + code_size (instructions l.rest) ≡ l.start + code_size (instructions l.code);
  places : l.places.items ++ places_from l.at (instructions l.rest) ≡ places_from l.start (instructions l.code);
}

abbrev pub decreases-loop-one : goal.decreases-loop-one
decreases-loop-one l = length l.rest
