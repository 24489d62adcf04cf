use Rattle.std.proofs.Common.{◌≤◌, List, length}
use Rattle.texts.specs.Bytes.{Bytes}
use Rattle.st_tree.specs.Trees.{Head, expression, sends, no_sends}
use Rattle.st_grammar.specs.Grammar.{any_message}
use Rattle.st_grammar_laws.specs.Machine.{Slot, have, bare}
use Rattle.st_parser.specs.Descent.{Runs}
use Rattle.st_parser.proofs.expressions.unary_messages.Given as goal

abbrev pub invariant-unary : goal.invariant-unary
invariant-unary l = record {
  runs : (k : Slot) (names : List Bytes) (h : Head)
      → Runs (have k (bare names h) any_message) l.fn.r
      (have k (expression names h (sends l.messages.items) no_sends) any_message) l.r;
  shorter : length l.r ≤ length l.fn.r;
}

abbrev pub decreases-unary : goal.decreases-unary
decreases-unary l = length l.r
