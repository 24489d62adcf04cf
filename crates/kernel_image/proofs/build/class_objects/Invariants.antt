use Rattle.std.proofs.Common.{◌≡◌, map, take}
use Rattle.kernel_image.specs.Rows.{class_of_row}
use Rattle.kernel_image.proofs.build.class_objects.Given as goal

abbrev pub invariant-loop-row : goal.invariant-loop-row
invariant-loop-row l = l.objects.items ≡ map class_of_row (take l.row-index l.rows)
