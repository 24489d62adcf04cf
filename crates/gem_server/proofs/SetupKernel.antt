-- The image of the kernel, as a run begins with it.
use Rattle.std.proofs.Common.{◌≡◌, ℕ, List, [], ◌∷◌, Some, option_map, refl, ap, ◌∙◌, codes}
use Rattle.std.proofs.Math.Path.{fun_ext}
use Rattle.std.proofs.lemmas.Cmp.{nat_cmp_total}
use Rattle.std.specs.Prelude.{max}
use Rattle.std.specs.List.{fold}
use Rattle.std.specs.Ordering.{nat_cmp}
use Rattle.std.specs.FinMap.{insert, empty, entries, put, entries-insert}
use Rattle.gem_meaning.specs.gem_value.Oid.{serial_of}
use Rattle.gem_meaning.specs.gem_object.declared.object.Object.{Object}
use Rattle.gem_meaning.specs.gem_image.Image.{Image, contents_of, objects_in, with_objects}
use Rattle.gem_meaning.specs.Opened.{largest_serial}
use Rattle.gem_meaning.specs.Names.{user_among, user_in}
use Rattle.kernel_image.specs.Objects.{named_from, protocols, other_entries, globals_entries, users_entries, class_list, shared_objects, profiles, last_objects, kernel_list, kernel_image}
use Rattle.gem_meaning.specs.gem_sound.Kernel.{kernel_classes}
use Rattle.kernel_image.proofs.Named.{kernel_has}
use Rattle.gem_server.proofs.RunRecords.{no_entries}
use Rattle.gem_server.proofs.SetupWorld.{kernel_shown}

pub kernel_is_shown : objects_in kernel_image ≡ kernel_shown
kernel_is_shown = fun_ext (λ name. ap (option_map contents_of) (kernel_has name))

abbrev entry_into : List (ℕ × Object) → ℕ × Object → List (ℕ × Object)
entry_into list entry = put nat_cmp entry.0 entry.1 list

entries_with : (image : Image) (objects : List (ℕ × Object))
    → entries (with_objects image objects) ≡ fold entry_into (entries image) objects
entries_with image [] = refl
entries_with image (entry ∷ rest) = entries_with (insert image entry.0 entry.1) rest
    ∙ ap (λ list. fold entry_into list rest) (entries-insert nat_cmp_total image entry.0 entry.1)

kernel_entries : entries kernel_image ≡ fold entry_into [] (named_from 1 kernel_list)
unfolding kernel_image
kernel_entries = entries_with empty (named_from 1 kernel_list)
    ∙ ap (λ list. fold entry_into list (named_from 1 kernel_list)) no_entries

abbrev larger : ℕ → ℕ × Object → ℕ
larger largest entry = max largest (serial_of entry.0)

kernel_serials : fold larger 0 (fold entry_into [] (named_from 1 kernel_list)) ≡ 0
unfolding protocols other_entries globals_entries users_entries class_list shared_objects profiles last_objects kernel_list kernel_classes
kernel_serials = refl

pub kernel_serial : largest_serial kernel_image ≡ 0
kernel_serial = ap (fold larger 0) kernel_entries ∙ kernel_serials

user_shown : user_among kernel_shown (codes "DataCurator") ≡ Some 32
unfolding protocols other_entries globals_entries users_entries class_list shared_objects profiles last_objects kernel_list kernel_classes
user_shown = refl

pub kernel_user : user_in kernel_image (codes "DataCurator") ≡ Some 32
unfolding user_in
kernel_user = ap (λ objects. user_among objects (codes "DataCurator")) kernel_is_shown ∙ user_shown
