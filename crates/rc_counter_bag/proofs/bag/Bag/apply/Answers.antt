use Rattle.std.proofs.Common.{refl}
use Rattle.rc_counter_bag.proofs.Sizes.{size-with_one_more, size-with_one_less}
use Rattle.rc_counter_bag.proofs.bag.Bag.apply.Goals as goal

pub invariant_of-self-in-Add : goal.invariant_of-self-in-Add
invariant_of-self-in-Add g c =
    let added = size-with_one_more g.T.Ord.cmp c.in-Add.item c.self.inside.pairs.items in (
      c.add.ensures.bag,
      rw (c.saturating_add-self-inside.ensures, c.in_ok-add-in-Add.ensures.added, c.self.invariant.1) (rw added refl),
    )

pub invariant_of-self-in-Remove : goal.invariant_of-self-in-Remove
invariant_of-self-in-Remove g c =
    let less = size-with_one_less g.T.Ord.cmp c.in-Remove.item c.self.inside.pairs.items c.remove.new.pairs.items c.self.invariant.0 (c.remove.ensures.removed c.if-not-remove.false) in (
      c.remove.ensures.bag,
      rw (c.size_after-self-inside.ensures, c.deref.ensures.value, c.self.invariant.1) less,
    )
