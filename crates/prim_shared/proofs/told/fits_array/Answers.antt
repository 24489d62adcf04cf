use Rattle.std.proofs.Common.{ap, ◌∙◌, ℕ, ◌/◌, nat_le}
use Rattle.object_programs.specs.declared.limits.TheConstants.{SLOTS_LIMIT}
use Rattle.prim_shared.proofs.Refused.{slots_tell, slots_tell_keys}
use Rattle.prim_shared.proofs.told.fits_array.Goals as goal

pub returns-in-Keys : goal.returns-in-Keys
returns-in-Keys c = λ held holds. ap (λ (n : ℕ). nat_le (n / 2) SLOTS_LIMIT) c.slots-slots.ensures
    ∙ slots_tell_keys c.args.listing c.args.body.now c.in-Keys.is held holds

pub returns-in_default : goal.returns-in_default
returns-in_default c = λ held holds. ap (λ (n : ℕ). nat_le n SLOTS_LIMIT) c.slots-slots.ensures
    ∙ slots_tell c.args.listing c.args.body.now c.in_default.not-Keys held holds
