use Rattle.std.proofs.Common.{◌≡◌, ◌≤◌, [], length}
use Rattle.st_grammar_laws.specs.Machine.{Seat, outer, alone, want, scopes_seat}
use Rattle.st_parser.specs.Descent.{Runs}
use Rattle.st_parser.specs.Scopes.{scopes_seen}
use Rattle.st_parser.proofs.expressions.assignments.Given as goal

abbrev pub invariant-names : goal.invariant-names
invariant-names l = record {
  runs : (o : Seat) → scopes_seat o ≡ scopes_seen l.scopes
      → Runs (want (outer (alone o)) []) l.fn.r (want (outer (alone o)) l.names.items) l.r;
  shorter : length l.r ≤ length l.fn.r;
}

abbrev pub decreases-names : goal.decreases-names
decreases-names l = length l.r
