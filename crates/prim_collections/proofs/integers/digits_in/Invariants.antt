use Rattle.prim_collections.proofs.DigitsRead.{Read}
use Rattle.prim_collections.proofs.integers.digits_in.Given as goal

abbrev pub invariant-loop-byte : goal.invariant-loop-byte
invariant-loop-byte l = Read l.text l.byte-index l.number
