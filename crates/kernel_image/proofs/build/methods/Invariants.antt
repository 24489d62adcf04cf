use Rattle.std.proofs.Common.{◌≡◌, take}
use Rattle.kernel_image.specs.Rows.{methods_of_rows}
use Rattle.kernel_image.proofs.build.methods.Given as goal

abbrev pub invariant-loop-row : goal.invariant-loop-row
invariant-loop-row l = l.methods.items ≡ methods_of_rows (take l.row-index l.rows)
