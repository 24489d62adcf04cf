-- The image after the set-up, and after a round.
use Rattle.std.proofs.Common.{◌≡◌, ◌≤◌, inl, inr, ℕ, ℤ, pos, Bool, true, false, cond, List, [], ◌∷◌, Some, option_map, refl, sym, ap, ◌∙◌, arith}
use Rattle.std.specs.Prelude.{nat_eq}
use Rattle.std.specs.FinMap.{insert}
use Rattle.std.proofs.lemmas.Bool.{cases_eq, cond-true, cond-false, eqb-true, eq-eqb, ne_eqb}
use Rattle.radix_pages.proofs.Tables.{get-insert_same, get-insert_other}
use Rattle.gem_meaning.specs.gem_object.declared.object.Object.{Object}
use Rattle.gem_meaning.specs.gem_object.declared.value.Value.{Value}
use Rattle.gem_meaning.specs.gem_image.Image.{Image, Contents, contents_of, objects_in, with_objects}
use Rattle.gem_meaning.specs.commit_check.Conflicts.{changed_of, last_change}
use Rattle.kernel_image.specs.Objects.{kernel_image}
use Rattle.gem_server.specs.Rounds.{hits, names, hits_contents, names_contents, globals_contents, IsLoaded}
use Rattle.gem_server.proofs.SetupKernel.{kernel_is_shown}
use Rattle.gem_server.proofs.SetupRun.{setup_effect}

-- an object with these contents, changed by the commit with this number
abbrev pub changed_by : ℕ → Contents → Object
changed_by number object =
    record { class = object.class; segment = object.segment; changed = number; body = object.body }

-- what a round's commit changes: the counter and the bag
abbrev pub load_effect : ℕ → ℤ → List (Value × ℕ) → List (ℕ × Object)
load_effect number value pairs =
    (hits, changed_by number (hits_contents value)) ∷ (names, changed_by number (names_contents pairs)) ∷ []

-- what stands in an image with one object more
put_shows : (image : Image) (at : ℕ) (object : Object) (name : ℕ)
    → objects_in (insert image at object) name ≡ cond (nat_eq name at) (Some (contents_of object)) (objects_in image name)
put_shows image at object name = elim (cases_eq name at) [
  | inl same ↦ ap (option_map contents_of) (get-insert_same image at object name same)
      ∙ sym (cond-true (nat_eq name at) (Some (contents_of object)) (objects_in image name) (eq-eqb name at same))
  | inr apart ↦ ap (option_map contents_of) (get-insert_other image at object name apart)
      ∙ sym (cond-false (nat_eq name at) (Some (contents_of object)) (objects_in image name) (ne_eqb name at apart))
]

two_names : (name : ℕ) → nat_eq name names ≡ true → nat_eq name hits ≡ true → ⊥
two_names name one other =
    let first = eqb-true name names one in let second = eqb-true name hits other in absurd (omega (arith, first, second))

in_order : {A : Type 0} (bag counter : Bool) (x y a b rest : A) → (bag ≡ true → counter ≡ true → ⊥)
    → cond bag x (cond counter y (cond counter a (cond bag b rest))) ≡ cond counter y (cond bag x rest)
in_order true true x y a b rest apart = absurd (apart refl refl)
in_order true false x y a b rest apart = refl
in_order false true x y a b rest apart = refl
in_order false false x y a b rest apart = refl

-- the image after a round's commit
pub loaded_with : (image : Image) (value after : ℤ) (pairs longer : List (Value × ℕ)) (number : ℕ) → IsLoaded image value pairs
    → IsLoaded (with_objects image (load_effect number after longer)) after longer
loaded_with image value after pairs longer number loaded name =
    let first : Image = insert image hits (changed_by number (hits_contents after)) in
    put_shows first names (changed_by number (names_contents longer)) name
    ∙ ap (cond (nat_eq name names) (Some (names_contents longer)))
    (put_shows image hits (changed_by number (hits_contents after)) name
    ∙ ap (cond (nat_eq name hits) (Some (hits_contents after))) (loaded name))
    ∙ in_order (nat_eq name names) (nat_eq name hits) _ _ _ _ _ (two_names name)

swapped : {A : Type 0} (bag counter : Bool) (x y rest : A) → (bag ≡ true → counter ≡ true → ⊥)
    → cond bag x (cond counter y rest) ≡ cond counter y (cond bag x rest)
swapped true true x y rest apart = absurd (apart refl refl)
swapped true false x y rest apart = refl
swapped false true x y rest apart = refl
swapped false false x y rest apart = refl

-- the image after the set-up's commit
pub loaded_first : IsLoaded (with_objects kernel_image setup_effect) (pos 0) []
loaded_first name =
    let first : Image = insert kernel_image 27 (changed_by 1 globals_contents) in
    let second : Image = insert first hits (changed_by 1 (hits_contents (pos 0))) in
    put_shows second names (changed_by 1 (names_contents [])) name
    ∙ ap (cond (nat_eq name names) (Some (names_contents [])))
    (put_shows first hits (changed_by 1 (hits_contents (pos 0))) name
    ∙ ap (cond (nat_eq name hits) (Some (hits_contents (pos 0))))
    (put_shows kernel_image 27 (changed_by 1 globals_contents) name
    ∙ ap (cond (nat_eq name 27) (Some globals_contents)) (λ i. kernel_is_shown i name)))
    ∙ swapped (nat_eq name names) (nat_eq name hits) _ _ _ (two_names name)

-- a round's commit changes no object of the kernel
pub kernel_stays : (image : Image) (value : ℤ) (pairs : List (Value × ℕ)) (number name : ℕ) → name ≤ 35
    → last_change (with_objects image (load_effect number value pairs)) name ≡ last_change image name
kernel_stays image value pairs number name low =
    let first : Image = insert image hits (changed_by number (hits_contents value)) in
    ap changed_of (get-insert_other first names (changed_by number (names_contents pairs)) name (λ same. absurd (omega (arith, low, same)))
    ∙ get-insert_other image hits (changed_by number (hits_contents value)) name (λ same. absurd (omega (arith, low, same))))
