-- A change of one place keeps the slots and the size.
use Rattle.std.proofs.Common.{◌≡◌, ℕ, ◌+◌, refl, ap}
use Rattle.std.proofs.lemmas.List.{length-set}
use Rattle.gem_object.specs.Slots.{slots_of}
use Rattle.gem_object.specs.Sizes.{fields_size}
use Rattle.gem_object.specs.Edits.{with_slot, with_byte}
use Rattle.gem_object.specs.declared.value.Value.{Value}
use Rattle.gem_object.specs.declared.body.Body.{Body}
use Rattle.gem_object.specs.declared.body.Body.TheVariants.{Plain, Bytes}

pub slots_kept : (at : ℕ) (value : Value) (body : Body)
    → slots_of (with_slot at value body) ≡ slots_of body
slots_kept at value (Plain values) = length-set values at value
slots_kept at value _ = refl

pub size_kept : (at byte : ℕ) (body : Body)
    → fields_size (with_byte at byte body) ≡ fields_size body
size_kept at byte (Bytes bytes) = ap (λ (n : ℕ). 4 + n) (length-set bytes at byte)
size_kept at byte _ = refl
