use Rattle.std.proofs.Common.{◌≡◌, length, ap, ◌∙◌, arith}
use Rattle.kernel_image.proofs.Named.{kernel_length}
use Rattle.kernel_image.proofs.build.named_objects.Goals as goal

pub named-requires : goal.named-requires
named-requires c =
    let few : length c.in_ok-objects.field-0.items ≡ 35 = ap length c.in_ok-objects.ensures ∙ kernel_length in
    omega (arith, few)
