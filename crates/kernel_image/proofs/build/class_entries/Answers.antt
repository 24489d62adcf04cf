use Rattle.std.proofs.Common.{arith}
use Rattle.kernel_image.proofs.Entries.{next_entry}
use Rattle.kernel_image.proofs.build.class_entries.Goals as goal

pub loop-row-preserved : goal.loop-row-preserved
loop-row-preserved c = record {
  counts = omega (arith, c.loop-row.invariant.counts);
  entries = next_entry _ _ _ _ _ _ _ c.loop-row.invariant.counts c.loop-row-test.true c.loop-row.invariant.entries c.in_ok-entry.ensures c.in_ok-push.ensures.items;
}
