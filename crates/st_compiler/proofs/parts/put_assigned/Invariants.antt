use Rattle.std.proofs.Common.{◌≤◌, length, drop}
use Rattle.st_compiler.specs.Emitted.{Puts, assigned}
use Rattle.st_compiler.proofs.parts.put_assigned.Given as goal

abbrev pub invariant-loop-left : goal.invariant-loop-left
invariant-loop-left l = record {
  within : l.left ≤ length l.names;
  puts : Puts (assigned (drop l.left l.names) l.place) l.initial.code.items l.code.items;
}

abbrev pub decreases-loop-left : goal.decreases-loop-left
decreases-loop-left l = l.left
