use Rattle.std.proofs.Common.{◌≤◌, List, [], length}
use Rattle.texts.specs.Bytes.{Bytes}
use Rattle.st_grammar_laws.specs.Machine.{Slot, in_params}
use Rattle.st_parser.specs.Descent.{Runs}
use Rattle.st_parser.proofs.declarations.parameters.Given as goal

abbrev pub invariant-params : goal.invariant-params
invariant-params l = record {
  runs : (k : Slot) (names : List Bytes)
      → Runs (in_params k names []) l.fn.r (in_params k names l.params.items) l.r;
  shorter : length l.r ≤ length l.fn.r;
}

abbrev pub decreases-params : goal.decreases-params
decreases-params l = length l.r
