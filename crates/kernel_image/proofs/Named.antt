-- What stands at each number where objects are put under the numbers that count from one on.
use Rattle.std.specs.Prelude.{Result, Ok, Err, IfOk}
use Rattle.std.proofs.Common.{◌≡◌, ◌<◌, ◌+◌, ap₂, ℕ, zero, suc, List, [], ◌∷◌, length, Option, Some, None, All, true, refl, ap, sym, subst, ◌∙◌, arith}
use Rattle.std.specs.Ordering.{nat_cmp}
use Rattle.std.specs.FinMap.{empty, get, insert, get-empty}
use Rattle.std.specs.List.{slice_get, list_all}
use Rattle.std.proofs.lemmas.Option.{slice_get_past}
use Rattle.std.proofs.lemmas.List.Elements.{All-nil, All-cons, All-head, All-tail}
use Rattle.std.proofs.lemmas.List.Sums.{AllPass-from_list_all}
use Rattle.radix_pages.proofs.Tables.{get-insert_same, get-insert_other}
use Rattle.gem_object.specs.Spelling.{IsSpelled}
use Rattle.gem_object.specs.declared.object.Object.{Object}
use Rattle.gem_image.specs.Image.{Image, with_objects}
use Rattle.gem_sound.specs.Kernel.{numbered, kernel_classes}
use Rattle.kernel_image.specs.Objects.{named_from, class_list, protocols, shared_objects, profiles, last_objects, globals_entries, other_entries, users_entries, kernel_list, kernel_objects, kernel_image}
use Rattle.kernel_image.specs.Methods.{methods_of_object, methods_of_class, methods_of_undefined_object, methods_of_boolean, methods_of_true, methods_of_false, methods_of_magnitude, methods_of_character, methods_of_small_integer, methods_of_block, methods_of_collection, methods_of_sequenceable_collection, methods_of_array, methods_of_ordered_collection, methods_of_string, methods_of_symbol, methods_of_identity_dictionary, methods_of_rc_counter, methods_of_rc_identity_bag, methods_of_rc_key_value_dictionary, methods_of_rc_queue, methods_of_segment, methods_of_user_profile, methods_of_transcript_stream, class_side_of_user_profile, class_side_of_system}
use Rattle.kernel_image.proofs.Spelled.{object_test, object_tells}

-- numbers below the first have what they had
below_stays : (objects : List Object) (first : ℕ) (image : Image) (number : ℕ) → number < first
    → get (with_objects image (named_from first objects)) number ≡ get image number
below_stays [] first image number below = refl
below_stays (object ∷ objects) first image number below =
    below_stays objects (first + 1) (insert image first object) number (omega arith)
    ∙ get-insert_other image first object number (λ same. omega (arith, same))

abbrev or_else : Option Object → Option Object → Option Object
or_else (Some object) other = Some object
or_else None other = other

at_place : (objects : List Object) (first : ℕ) (image : Image) (at number : ℕ) → number ≡ first + at
    → get (with_objects image (named_from first objects)) number
    ≡ or_else (slice_get objects at) (get image number)
at_place [] first image at number is =
    sym (ap (λ o. or_else o (get image number)) (slice_get_past {X = Object} [] at (omega arith)))
at_place (object ∷ objects) first image zero number is =
    below_stays objects (first + 1) (insert image first object) number (omega arith)
    ∙ get-insert_same image first object number (omega arith)
at_place (object ∷ objects) first image (suc at) number is =
    at_place objects (first + 1) (insert image first object) at number (omega arith)
    ∙ ap (or_else (slice_get objects at)) (get-insert_other image first object number (λ same. omega (arith, same, is)))

or_none : (found : Option Object) → or_else found None ≡ found
or_none (Some object) = refl
or_none None = refl

-- what stands in the image of the objects that are put under the numbers from 1 on
pub image_has : (objects : List Object) (number : ℕ)
    → get (with_objects empty (named_from 1 objects)) number ≡ numbered objects number
image_has objects zero = below_stays objects 1 empty 0 (omega arith) ∙ get-empty nat_cmp 0
image_has objects (suc before) =
    at_place objects 1 empty before (suc before) (omega arith)
    ∙ ap (or_else (slice_get objects before)) (get-empty nat_cmp (suc before))
    ∙ or_none (slice_get objects before)

pub kernel_has : (number : ℕ) → get kernel_image number ≡ kernel_objects number
unfolding kernel_image
kernel_has number = image_has kernel_list number

pub kernel_length : length kernel_list ≡ 35
unfolding kernel_list class_list protocols kernel_classes shared_objects profiles last_objects
kernel_length = refl

abbrev IsSpelledEntry : ℕ × Object → Type 0
IsSpelledEntry entry = IsSpelled entry.1

all_named : (objects : List Object) (first : ℕ) → All IsSpelled objects → All IsSpelledEntry (named_from first objects)
all_named [] first spelled = All-nil IsSpelledEntry
all_named (object ∷ objects) first spelled =
    All-cons IsSpelledEntry (first, object) (named_from (first + 1) objects)
    (All-head IsSpelled object objects spelled)
    (all_named objects (first + 1) (All-tail IsSpelled object objects spelled))

kernel_test : list_all object_test kernel_list ≡ true
unfolding kernel_list class_list protocols kernel_classes shared_objects profiles last_objects globals_entries other_entries users_entries methods_of_object methods_of_class methods_of_undefined_object methods_of_boolean methods_of_true methods_of_false methods_of_magnitude methods_of_character methods_of_small_integer methods_of_block methods_of_collection methods_of_sequenceable_collection methods_of_array methods_of_ordered_collection methods_of_string methods_of_symbol methods_of_identity_dictionary methods_of_rc_counter methods_of_rc_identity_bag methods_of_rc_key_value_dictionary methods_of_rc_queue methods_of_segment methods_of_user_profile methods_of_transcript_stream class_side_of_user_profile class_side_of_system
kernel_test = refl

-- each object of the kernel has a spelling
pub kernel_spelled : All IsSpelled kernel_list
kernel_spelled k d below = object_tells _ (AllPass-from_list_all object_test kernel_list kernel_test k d below)

pub entries_spelled : (entries : List (ℕ × Object)) → entries ≡ named_from 1 kernel_list
    → All IsSpelledEntry entries
entries_spelled entries is = subst (All IsSpelledEntry) (sym is) (all_named kernel_list 1 kernel_spelled)

length_named : (objects : List Object) (first : ℕ) → length (named_from first objects) ≡ length objects
length_named [] first = refl
length_named (object ∷ objects) first = ap (λ (n : ℕ). suc n) (length_named objects (first + 1))

pub entries_count : (entries : List (ℕ × Object)) → entries ≡ named_from 1 kernel_list → length entries ≡ 35
entries_count entries is = ap length is ∙ length_named kernel_list 1 ∙ kernel_length

-- what is made of the entries, where it is made
pub image_made : {E : Type 0} (made : Result Image E) (first : Image) (entries : List (ℕ × Object)) → first ≡ empty
    → entries ≡ named_from 1 kernel_list → IfOk made (λ image. image ≡ with_objects first entries)
    → IfOk made (λ image. image ≡ kernel_image)
unfolding kernel_image
image_made (Ok image) first entries first_is entries_are is = is ∙ ap₂ with_objects first_is entries_are
image_made (Err error) first entries first_is entries_are is = is

pub objects_made : {E : Type 0} (made : Result Image E) → IfOk made (λ image. image ≡ kernel_image)
    → IfOk made (λ image. (number : ℕ) → get image number ≡ kernel_objects number)
objects_made (Ok image) is = λ number. ap (λ i. get i number) is ∙ kernel_has number
objects_made (Err error) is = is
