use Rattle.std.proofs.Common.{◌∙◌, sym}
use Rattle.kernel_state.proofs.Beginning.{begins_over}
use Rattle.kernel_state.proofs.begins.begin_on_sound.Goals as goal

pub over-requires : goal.over-requires
over-requires g c =
    begins_over c.args.image c.args.first c.invariant.ensures.named c.invariant.ensures.spelled c.requires.sound
    (sym c.has_curator.ensures ∙ c.if-not-has_curator.false) (c.are_free.ensures c.if-not-are_free.false)
    c.requires.some c.requires.bound c.begins_on_sound_images.ensures.image
