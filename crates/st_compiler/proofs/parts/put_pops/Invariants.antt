use Rattle.std.proofs.Common.{replicate}
use Rattle.st_compiler.specs.Instruction.{Pop}
use Rattle.st_compiler.specs.Emitted.{Puts}
use Rattle.st_compiler.proofs.parts.put_pops.Given as goal

abbrev pub invariant-loop-value : goal.invariant-loop-value
invariant-loop-value l = Puts (replicate l._value Pop) l.initial.code.items l.code.items
