use Rattle.std.proofs.Common.{◌≡◌, length, arith}
use Rattle.kernel_image.proofs.Named.{entries_spelled, entries_count, image_made, objects_made}
use Rattle.kernel_image.proofs.image.kernel.Goals as goal

pub with_all-requires : goal.with_all-requires
with_all-requires g c = entries_spelled _ c.in_ok-named_objects.ensures

pub returns-clause-image : goal.returns-clause-image
returns-clause-image g c = image_made _ _ _ c.empty.ensures c.in_ok-named_objects.ensures c.with_all-2.ensures.image

pub returns-clause-objects : goal.returns-clause-objects
returns-clause-objects g c =
    objects_made _ (image_made _ _ _ c.empty.ensures c.in_ok-named_objects.ensures c.with_all-2.ensures.image)

pub returns-clause-nodes : goal.returns-clause-nodes
returns-clause-nodes g c =
    let count : length c.in_ok-named_objects.field-0.items ≡ 35 = entries_count _ c.in_ok-named_objects.ensures in
    omega (arith, count, c.with_all-2.ensures.nodes)
