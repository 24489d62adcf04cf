use Rattle.std.proofs.Common.{◌≡◌, ◌/◌, ◌≤◌, ◌<◌, ◌^◌, ℕ, None, refl, sym, ap, subst, arith}
use Rattle.std.specs.FinMap.{get}
use Rattle.extent_pages.specs.Contents.{leaf_size}
use Rattle.extent_plan.proofs.Needs.{leaf_there}
use Rattle.stone_store.specs.Counted.{AreCountedBelow}
use Rattle.stone_store.proofs.Sums.{counted_none, counted_over, counted_next}
use Rattle.stone_store.proofs.count.count_leaves.Goals as goal

pub loop-entry-init : goal.loop-entry-init
loop-entry-init c = record {
  few = omega arith;
  counted = subst (AreCountedBelow c.args.image.now c.args.root 0 (record { leaves = 0; all = 0; stale = 0 })) (sym c.new-changed.ensures.items)
      (counted_none c.args.image.now c.args.root _ refl refl refl);
}

pub loop-entry-preserved : goal.loop-entry-preserved
loop-entry-preserved c =
    let at = c.loop-entry in
    let next = c.in-Some.ensures.next in
    let number = c.number-leaf.ensures.number in
    let bound = c.number-leaf.ensures.bound in
    let from = next.0 in
    let image = c.args.image.now in
    let leaf : ℕ = c.number-leaf.result / 64 in
    let least : at.next ≤ leaf = omega (arith, from, number) in
    let none : (name : ℕ) → at.next ≤ name / leaf_size → name / leaf_size < leaf → get image name ≡ None =
    λ name low high. next.1.1 name (omega (arith, low)) (omega (arith, high, number)) in
    let there = leaf_there image c.in-Some.entry.0 leaf c.in-Some.entry.1.now next.1.0 (ap (λ (n : ℕ). n / leaf_size) number) in
    record {
      few = omega (arith, bound);
      counted = counted_next image c.args.root at.sums c.in_ok-sums.sums at.changed.items c.add_leaf.new.changed.items leaf there c.in_ok-sums.ensures
          (counted_over image c.args.root at.sums at.changed.items at.next leaf least none at.invariant.counted);
    }

pub returns : goal.returns
returns c = counted_over c.args.image.now c.args.root c.loop-entry.sums c.loop-entry.changed.items c.loop-entry.next (2 ^ 42) c.loop-entry.invariant.few
    (λ name low high. c.in_default.ensures.next name (omega (arith, low))) c.loop-entry.invariant.counted
