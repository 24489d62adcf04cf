use Rattle.std.proofs.Common.{ℕ, ◌≤◌}
use Rattle.gem_image.specs.Image.{Image}
use Rattle.gem_meaning.specs.commit_check.Conflicts.{last_change}
use Rattle.stone_tests.specs.Setting.{HasBoxes}
use Rattle.stone_tests.proofs.Ready.{boxes_made, has_boxes, boxes_changed}
use Rattle.stone_tests.proofs.setting.boxes.Goals as goal

pub returns-clause-boxes : goal.returns-clause-boxes
returns-clause-boxes g c = boxes_made HasBoxes c.in_ok-image.image c.in_ok-with_box.with_box c.in_ok-array.field-0
    c.in_ok-array-2.field-0 c.name.result c.name-2.result c.name.ensures c.name-2.ensures c.in_ok-with_box.ensures.image
    (λ image is. has_boxes c.in_ok-image.image image c.in_ok-array.field-0 c.in_ok-array-2.field-0 is)
    c.with-2.result c.with-2.ensures.image

pub returns-clause-changed : goal.returns-clause-changed
returns-clause-changed g c = boxes_made (λ (image : Image). (oid : ℕ) → last_change image oid ≤ c.args.changed)
    c.in_ok-image.image c.in_ok-with_box.with_box c.in_ok-array.field-0 c.in_ok-array-2.field-0 c.name.result c.name-2.result
    c.name.ensures c.name-2.ensures c.in_ok-with_box.ensures.image
    (λ image is. boxes_changed c.in_ok-image.image image c.in_ok-array.field-0 c.in_ok-array-2.field-0 c.args.changed
    c.in_ok-image.ensures.image c.kernel_is_unchanged.ensures c.in_ok-array.ensures.changed c.in_ok-array-2.ensures.changed is)
    c.with-2.result c.with-2.ensures.image
