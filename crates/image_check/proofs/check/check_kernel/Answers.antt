use Rattle.std.proofs.Common.{ℕ, ◌+◌, sym, subst, arith}
use Rattle.gem_image.specs.Image.{objects_in}
use Rattle.image_check.specs.Faults.{AreKeptBelow}
use Rattle.image_check.proofs.check.check_kernel.Goals as goal

pub check_name-requires-clause-below : goal.check_name-requires-clause-below
check_name-requires-clause-below c =
    subst (AreKeptBelow (objects_in c.args.image.now)) (sym c.kernel_name.ensures) c.loop-counter.invariant.below

pub loop-counter-preserved : goal.loop-counter-preserved
loop-counter-preserved c = record {
  counts = c.in_ok-check_name.ensures.kept;
  below = subst (λ (n : ℕ). AreKeptBelow (objects_in c.args.image.now) (n + 1)) c.kernel_name.ensures c.in_ok-check_name.ensures.next;
}

pub returns-clause-next : goal.returns-clause-next
returns-clause-next c other less any =
    let ended = c.loop-counter-test.false in
    c.loop-counter.invariant.below other (omega (arith, less, ended)) any
