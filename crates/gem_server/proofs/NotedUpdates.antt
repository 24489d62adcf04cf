-- An update that is allowed, and leaves an object that may stand where it is.
use Rattle.std.proofs.Common.{◌≡◌, ℕ, Bool, true, ◌&&◌, Option, Some, ap, ◌∙◌}
use Rattle.std.specs.Prelude.{nat_lt}
use Rattle.std.specs.List.{list_all}
use Rattle.gem_meaning.specs.gem_object.declared.body.Body.{Body}
use Rattle.gem_meaning.specs.gem_image.Image.{Contents}
use Rattle.gem_meaning.specs.gem_update.Update.{updated}
use Rattle.gem_meaning.specs.gem_update.declared.update.Update.{Update}
use Rattle.gem_meaning.specs.gem_sound.Sound.{names_in}
use Rattle.gem_meaning.specs.gem_world.Access.{a_write}
use Rattle.gem_meaning.specs.gem_world.Changes.{with_body}
use Rattle.gem_meaning.specs.object_programs.Fixed.{class_part, fixed_of, same_fixed}
use Rattle.gem_meaning.specs.object_programs.Guard.{Parts, is_known, is_segment_at, accepts, named_fit, kernel_fits, place_fits, fits}
use Rattle.gem_meaning.specs.object_programs.Methods.{methods_fit}
use Rattle.gem_meaning.specs.object_programs.Spelled.{is_spelled}
use Rattle.gem_server.proofs.PlainWorlds.{PlainSetting, PlainWorld, plain_is_allowed, plain_shown, plain_with_touches, plain_put, plain_note, plain_parts_with, plain_replaced_where, plain_updated_by, plain_updated_at, plain_updated_where, plain_after_update}

both : (first second : Bool) → first ≡ true → second ≡ true → (first && second) ≡ true
both first second one other = ap (λ (b : Bool). b && second) one ∙ other

-- the object may stand at the name
pub record MayStand (parts : Parts) (name : ℕ) (object : Contents) : Type 0 where
  pub numbered : nat_lt 0 name ≡ true
  pub known : list_all (is_known parts) (names_in object) ≡ true
  pub in_segment : is_segment_at parts object.segment ≡ true
  pub accepted : accepts parts object.class object.body ≡ true
  pub named : named_fit parts object.body ≡ true
  pub of_kernel : kernel_fits name object.body ≡ true
  pub placed : place_fits parts name (class_part object.body) ≡ true
  pub methods : methods_fit name object.body ≡ true
  pub spelled : is_spelled object.body ≡ true

pub may_stand : (parts : Parts) (name : ℕ) (object : Contents) → MayStand parts name object → fits parts name object ≡ true
unfolding fits
may_stand parts name object may = both _ _ may.numbered (both _ _ may.known (both _ _ may.in_segment (both _ _ may.accepted
    (both _ _ may.named (both _ _ may.of_kernel (both _ _ may.placed (both _ _ may.methods may.spelled)))))))

module _ (setting : PlainSetting) (world : PlainWorld) (name : ℕ) (update : Update) (old : Contents) (body : Body) where
  abbrev touched : PlainWorld
  touched = plain_with_touches name setting world

  abbrev new : Contents
  new = with_body body old

  pub is_updated : plain_is_allowed a_write name setting world ≡ true → plain_shown name setting touched ≡ Some old
      → updated update old.body ≡ Some body → same_fixed (fixed_of old) (fixed_of new) ≡ true
      → MayStand (plain_parts_with name new setting touched) name new
      → plain_after_update name update setting world ≡ plain_put name new (plain_note name update setting touched)
  is_updated allowed there takes same may =
      ap (λ (b : Bool). plain_updated_where b name update setting touched) allowed
      ∙ ap (λ (found : Option Contents). plain_updated_at name update found setting touched) there
      ∙ ap (λ (after : Option Body). plain_updated_by name update old after setting touched) takes
      ∙ ap (λ (b : Bool). plain_replaced_where b name (Some update) new setting touched)
      (both _ _ same (may_stand (plain_parts_with name new setting touched) name new may))
