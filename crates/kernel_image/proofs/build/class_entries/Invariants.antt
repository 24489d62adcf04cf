use Rattle.std.proofs.Common.{◌≡◌, ◌+◌, take}
use Rattle.kernel_image.specs.Objects.{entries_from}
use Rattle.kernel_image.specs.Rows.{names_of_rows}
use Rattle.kernel_image.proofs.build.class_entries.Given as goal

abbrev pub invariant-loop-row : goal.invariant-loop-row
invariant-loop-row l = record {
  counts : l.counter ≡ 1 + l.row-index;
  entries : l.entries.items ≡ entries_from 1 (names_of_rows (take l.row-index l.rows));
}
