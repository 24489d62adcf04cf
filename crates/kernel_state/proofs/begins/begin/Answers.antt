use Rattle.std.proofs.Common.{refl}
use Rattle.kernel_state.proofs.Beginning.{begins_on_kernel}
use Rattle.kernel_state.proofs.begins.begin.Goals as goal

pub over-requires : goal.over-requires
over-requires g c =
    begins_on_kernel _ _ _ _ c.in_ok-image.ensures.image c.in_ok-image.ensures.image refl
    c.requires.some c.requires.bound c.kernel_is_sound.ensures c.kernel_by_names.ensures.objects c.kernel_by_names.ensures.some
    c.begins_on_sound_images.ensures.image
