use Rattle.std.proofs.Common.{◌≡◌, ◌+◌, ◌++◌, length}
use Rattle.std.specs.Vec.Iter.{into_iter_items}
use Rattle.kernel_image.specs.Objects.{named_from}
use Rattle.kernel_image.proofs.build.named.Given as goal

abbrev pub invariant-loop-object : goal.invariant-loop-object
invariant-loop-object l = record {
  can_next : (goal.iterator-loop-object).can_next l.object-iterator;
  finite : (goal.iterator-loop-object).is_finite l.object-iterator;
  counts : l.counter + length (into_iter_items l.object-iterator) ≡ 1 + length (into_iter_items l.initial.object-iterator);
  named : l.named.items ++ named_from l.counter (into_iter_items l.object-iterator) ≡ named_from 1 (into_iter_items l.initial.object-iterator);
}
