use Rattle.std.proofs.Common.{◌∙◌}
use Rattle.kernel_tests.proofs.ImageSamples.{segment_is}
use Rattle.kernel_tests.proofs.gem_image_tests.segment.Goals as goal

pub returns : goal.returns
returns c = segment_is c.name-2.result c.name-3.result c.number.result c.args.row.owner_right c.args.row.world_right
    c.group_right.result c.in_ok-staff.field-0 c.from.result (c.from.ensures ∙ c.in_ok-vec.ensures.items)
    c.name-2.ensures c.name-3.ensures c.number.ensures.bound c.in_ok-staff.ensures c.group_right.ensures
