use Rattle.std.proofs.Common.{◌≡◌, length, All}
use Rattle.gem_object.specs.Spelling.{IsText}
use Rattle.kernel_tests.proofs.objects.names.Given as goal

abbrev pub invariant-loop-turn : goal.invariant-loop-turn
invariant-loop-turn l = record {
  count : length l.names.items ≡ l._turn;
  texts : All IsText l.names.items;
}
