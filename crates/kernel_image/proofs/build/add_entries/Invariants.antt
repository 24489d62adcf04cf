use Rattle.std.proofs.Common.{◌≡◌, ◌++◌, map, take}
use Rattle.kernel_image.specs.Rows.{entry_of_row}
use Rattle.kernel_image.proofs.build.add_entries.Given as goal

abbrev pub invariant-loop-row : goal.invariant-loop-row
invariant-loop-row l = l.entries.items ≡ l.initial.entries.items ++ map entry_of_row (take l.row-index l.rows)
