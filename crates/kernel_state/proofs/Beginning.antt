-- A transaction of DataCurator may begin on the image of the kernel.
use Rattle.std.proofs.Common.{◌≡◌, ◌↔◌, ◌<◌, ◌≤◌, ◌^◌, ℕ, true, zero, suc, Option, Some, None, IsSome, is_some, refl, ap, sym, subst, ◌∙◌, arith}
use Rattle.std.specs.Option.{option_map}
use Rattle.std.proofs.lemmas.Bool.{false≢true}
use Rattle.std.proofs.lemmas.Option.{slice_get_within, get_or_from_slice_get}
use Rattle.std.specs.FinMap.{get}
use Rattle.gem_sound.specs.declared.names.TheConstants.{KERNEL_SERIAL, DATA_CURATOR}
use Rattle.gem_object.specs.gem_value.Oid.{oid_number}
use Rattle.gem_object.specs.Spelling.{IsSpelled}
use Rattle.gem_object.specs.declared.object.Object.{Object}
use Rattle.gem_image.specs.Image.{Image, IsImage, AreNamed, AreSpelled, contents_of, objects_in}
use Rattle.gem_sound.specs.Kernel.{kernel_classes}
use Rattle.gem_sound.specs.Parts.{user_at}
use Rattle.gem_sound.specs.Sound.{IsSoundImage, IsSoundFor}
use Rattle.kernel_image.specs.Objects.{kernel_image, kernel_objects, kernel_list, class_list, protocols, shared_objects, profiles, last_objects}
use Rattle.kernel_image.proofs.Named.{kernel_spelled}
use Rattle.plain_state.specs.State.{BeginsSound}

-- the name of the profile of DataCurator
abbrev curator : ℕ
curator = oid_number KERNEL_SERIAL DATA_CURATOR

-- what the laws say of the image of the kernel
abbrev pub Holds : Type 0
Holds = (number : ℕ) → get kernel_image number ≡ kernel_objects number

abbrev pub AreNumbered : Type 0
AreNumbered = (number : ℕ) → IsSome (kernel_objects number) ↔ ((0 < number) × (number ≤ 35))

-- what a law of the state says: it may begin on an image that is sound for the user and the names
abbrev pub Begins : Type 0
Begins = (image : Image) (user serial first : ℕ) → IsImage image
    → IsSoundFor (objects_in image) user serial first → BeginsSound image image user serial first

curator_there : IsSome (user_at (λ number. option_map contents_of (kernel_objects number)) curator)
unfolding kernel_list class_list protocols kernel_classes shared_objects profiles last_objects
curator_there = refl

-- no object of the kernel has a number above 35
none_past : (number : ℕ) (found : Option Object) → kernel_objects number ≡ found
    → AreNumbered → 35 < number → found ≡ None
none_past number None is numbered past = refl
none_past number (Some object) is numbered past =
    absurd (omega (arith, past, ((numbered number).0 (ap is_some is)).1))

spelled_at : (number : ℕ) (object : Object) → kernel_objects number ≡ Some object → IsSpelled object
spelled_at zero object is = absurd (false≢true (ap is_some is))
spelled_at (suc at) object is =
    subst IsSpelled (get_or_from_slice_get kernel_list at object object is)
    (kernel_spelled at object (slice_get_within kernel_list at object is))

kernel_is_image : Holds → AreNumbered → IsImage kernel_image
kernel_is_image holds numbered = record {
  named = λ number above. holds number ∙ none_past number _ refl numbered (omega (arith, above));
  spelled = λ number object is. spelled_at number object (sym (holds number) ∙ is);
}

kernel_is_sound_for : (first : ℕ) → 0 < first → first ≤ 2 ^ 24 → IsSoundImage kernel_image → Holds → AreNumbered
    → IsSoundFor (objects_in kernel_image) curator 1 first
kernel_is_sound_for first some bound sound holds numbered = record {
  sound = sound;
  user_there = subst (λ o. IsSome (user_at (λ _. option_map contents_of o) curator)) (sym (holds curator)) curator_there;
  serial_bound = omega arith;
  some_name = some;
  next_bound = bound;
  free = λ counter from below.
      ap (option_map contents_of)
      (holds (oid_number 1 counter) ∙ none_past (oid_number 1 counter) _ refl numbered (omega arith));
}

-- so a transaction may begin whose place and view are the kernel's image
pub begins_on_kernel : (place view : Image) (user first : ℕ) → place ≡ kernel_image → view ≡ kernel_image
    → user ≡ curator → 0 < first → first ≤ 2 ^ 24 → IsSoundImage kernel_image → Holds → AreNumbered
    → Begins → BeginsSound place view user 1 first
begins_on_kernel place view user first place_is view_is user_is some bound sound holds numbered begins =
    subst (λ v. BeginsSound place v user 1 first) (place_is ∙ sym view_is)
    (begins place user 1 first (subst IsImage (sym place_is) (kernel_is_image holds numbered))
    (subst (λ i. IsSoundFor (objects_in i) user 1 first) (sym place_is)
    (subst (λ u. IsSoundFor (objects_in kernel_image) u 1 first) (sym user_is)
    (kernel_is_sound_for first some bound sound holds numbered))))

-- and it may begin on any sound image that has the user and none of its names
pub begins_over : (image : Image) (first : ℕ) → AreNamed image → AreSpelled image → IsSoundImage image
    → is_some (user_at (objects_in image) curator) ≡ true
    → ((counter : ℕ) → first ≤ counter → counter < 2 ^ 24 → objects_in image (oid_number 1 counter) ≡ None)
    → 0 < first → first ≤ 2 ^ 24 → Begins → BeginsSound image image curator 1 first
begins_over image first named spelled sound there free some bound begins =
    begins image curator 1 first (record { named = named; spelled = spelled }) (record {
      sound = sound;
      user_there = there;
      serial_bound = omega arith;
      some_name = some;
      next_bound = bound;
      free = free;
    })

-- the same by another name of the image, and by what the name of the user is
pub begins_by : (image view : Image) (user first : ℕ) → view ≡ image → user ≡ curator
    → BeginsSound image image curator 1 first → BeginsSound image view user 1 first
begins_by image view user first same is begins =
    subst (λ (v : Image). BeginsSound image v user 1 first) (sym same)
    (subst (λ (u : ℕ). BeginsSound image image u 1 first) (sym is) begins)
