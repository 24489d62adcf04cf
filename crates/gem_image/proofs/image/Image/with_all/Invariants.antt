use Rattle.std.proofs.Common.{◌≡◌, length}
use Rattle.std.specs.Vec.Iter.{into_iter_items, into_iter_len}
use Rattle.gem_image.proofs.Puts.{IsUnderWay}
use Rattle.gem_image.proofs.image.Image.with_all.Given as goal

abbrev pub invariant-loop-oid : goal.invariant-loop-oid
invariant-loop-oid g l =
    (into_iter_len l.oid-iterator ≡ length (into_iter_items l.oid-iterator))
    × IsUnderWay l.initial.changed (into_iter_items l.initial.oid-iterator) l.initial.steps
    l.changed (into_iter_items l.oid-iterator) l.steps
