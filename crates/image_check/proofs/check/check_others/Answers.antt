use Rattle.std.proofs.Common.{◌+◌, ℕ, sym, subst, arith}
use Rattle.gem_image.specs.Image.{objects_in}
use Rattle.image_check.specs.Faults.{AreKeptBelow}
use Rattle.image_check.proofs.Kept.{below_next, all_kept}
use Rattle.image_check.proofs.check.check_others.Goals as goal

pub loop-entry-init : goal.loop-entry-init
loop-entry-init c = record {
  past = omega (arith, c.from-from.ensures);
  counts = c.requires.counts;
  below = subst (AreKeptBelow (objects_in c.args.image.now)) (sym c.from-from.ensures) c.requires.kernel;
}

pub check_object-requires-clause-below : goal.check_object-requires-clause-below
check_object-requires-clause-below c =
    below_next c.args.image.now c.loop-entry.from c.in-Some.entry.0 c.in-Some.entry.1.now c.loop-entry.invariant.past
    c.loop-entry.invariant.below c.in-Some.ensures.next

pub loop-entry-preserved : goal.loop-entry-preserved
loop-entry-preserved c =
    let number = c.number-from.ensures.number in
    let next = c.in-Some.ensures.next.0 in
    let past = c.loop-entry.invariant.past in
    record {
      past = omega (arith, number, next, past);
      counts = c.in_ok-check_object.ensures.kept;
      below = subst (λ (n : ℕ). AreKeptBelow (objects_in c.args.image.now) (n + 1)) (sym number) c.in_ok-check_object.ensures.next;
    }

pub returns-clause-sound : goal.returns-clause-sound
returns-clause-sound c = all_kept c.args.image.now c.loop-entry.from c.loop-entry.invariant.past c.loop-entry.invariant.below c.in_default.ensures.next
