-- No commit has changed an object of the kernel.
use Rattle.std.proofs.Common.{◌≡◌, ℕ, zero, suc, Bool, true, List, [], ◌∷◌, Option, IfSome, refl, sym, subst}
use Rattle.std.specs.Prelude.{nat_eq}
use Rattle.std.specs.List.{slice_get, list_all}
use Rattle.std.specs.FinMap.{get}
use Rattle.std.proofs.lemmas.Bool.{eqb-true}
use Rattle.gem_object.specs.declared.object.Object.{Object}
use Rattle.gem_sound.specs.Kernel.{numbered, kernel_classes}
use Rattle.kernel_image.specs.Objects.{class_list, protocols, shared_objects, profiles, last_objects, kernel_list, kernel_image}
use Rattle.kernel_image.proofs.Sources.{both}
use Rattle.kernel_image.proofs.Named.{kernel_has}

abbrev pub IsUnchanged : Object → Type 0
IsUnchanged object = object.changed ≡ 0

abbrev unchanged : Object → Bool
unchanged object = nat_eq object.changed 0

kernel_test : list_all unchanged kernel_list ≡ true
unfolding kernel_list class_list protocols kernel_classes shared_objects profiles last_objects
kernel_test = refl

all_tell : (objects : List Object) (at : ℕ) → list_all unchanged objects ≡ true → IfSome (slice_get objects at) IsUnchanged
all_tell [] at passed = tt
all_tell (object ∷ objects) zero passed =
    eqb-true object.changed 0 (both (unchanged object) (list_all unchanged objects) passed).0
all_tell (object ∷ objects) (suc at) passed =
    all_tell objects at (both (unchanged object) (list_all unchanged objects) passed).1

numbers_tell : (objects : List Object) (number : ℕ) → list_all unchanged objects ≡ true → IfSome (numbered objects number) IsUnchanged
numbers_tell objects zero passed = tt
numbers_tell objects (suc at) passed = all_tell objects at passed

pub kernel_unchanged : (number : ℕ) → IfSome (get kernel_image number) IsUnchanged
kernel_unchanged number =
    subst (λ (o : Option Object). IfSome o IsUnchanged) (sym (kernel_has number))
    (numbers_tell kernel_list number kernel_test)
