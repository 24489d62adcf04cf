use Rattle.std.proofs.Common.{◌≡◌, ℕ, None, ap, sym, subst, ◌∙◌}
use Rattle.std.specs.Prelude.{option_copied}
use Rattle.gem_sound.specs.Kernel.{kernel_body}
use Rattle.image_check.proofs.Kept.{next_none}
use Rattle.image_check.proofs.check.check_name.Goals as goal

pub returns-in-None-clause-next : goal.returns-in-None-clause-next
returns-in-None-clause-next c =
    next_none c.args.image.now c.args.oid (sym c.look.ensures.object ∙ ap option_copied c.in_default.is)
    (subst (λ (n : ℕ). kernel_body n ≡ None) c.number.ensures.number (sym c.in-None.ensures)) c.requires.below
