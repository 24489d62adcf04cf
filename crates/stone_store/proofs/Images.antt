-- Images as they are found over a root, and with more objects.
use Rattle.std.proofs.Common.{◌≡◌, ◌⊎◌, ℕ, ◌<◌, ◌≤◌, true, false, cond, List, [], ◌∷◌, Option, Some, None, is_some, option_map, refl, sym, ap, subst, ◌∙◌, inl, inr, arith}
use Rattle.std.proofs.Math.Path.{fun_ext}
use Rattle.std.proofs.lemmas.Bool.{cases_eq, le-leb, lt-leb}
use Rattle.std.proofs.lemmas.Cmp.{nat_cmp_total}
use Rattle.std.proofs.lemmas.Option.{same_Some}
use Rattle.std.specs.List.{AllByRecursion}
use Rattle.std.specs.Ordering.{nat_cmp, eq_by_cmp}
use Rattle.std.specs.FinMap.{get, insert, get-insert}
use Rattle.gem_object.specs.declared.object.Object.{Object}
use Rattle.gem_image.specs.Image.{Image, Contents, contents_of, with_objects}
use Rattle.gem_image.proofs.radix_pages_lemmas.Tables.{get-insert_same, get-insert_other}
use Rattle.gem_keeper.specs.Found.{Found, found_object, found_over}

-- ---- objects as they are found

abbrev pub with_changed : Object → ℕ → Object
with_changed object changed = record object { changed = changed }

-- an object that is found as it is: changed by no commit, or by one after the root's
abbrev pub IsSettled : (root : ℕ) → Object → Type 0
IsSettled root object = (object.changed ≡ 0) ⊎ (root < object.changed)

pub found_later : (root : ℕ) (object : Object) → root < object.changed → found_object root object ≡ object
found_later root object later =
    ap (λ b. with_changed object (cond b 0 object.changed)) (lt-leb object.changed root later)

pub found_earlier : (root : ℕ) (object : Object) → object.changed ≤ root → found_object root object ≡ with_changed object 0
found_earlier root object low =
    ap (λ b. with_changed object (cond b 0 object.changed)) (le-leb object.changed root low)

pub settled_is_found : (root : ℕ) (object : Object) → IsSettled root object → found_object root object ≡ object
settled_is_found root object (inl zero) =
    found_earlier root object (omega (arith, zero)) ∙ ap (with_changed object) (sym zero)
settled_is_found root object (inr later) = found_later root object later

-- ---- an image, and what is found of it

abbrev pub Matches : (root : ℕ) → (found image : Image) → Type 0
Matches root found image = (name : ℕ) → get found name ≡ option_map (found_object root) (get image name)

found_same : (root : ℕ) (objects others : ℕ → Option Object) (number other : ℕ)
    → ((name : ℕ) → objects name ≡ others name) → number ≡ other
    → ◌≡◌ {A = Found} (record { objects = objects; number = number; root = root })
    (record { objects = others; number = other; root = root })
found_same root objects others number other same is =
    ap (λ (o : ℕ → Option Object). make o number) (fun_ext same) ∙ ap (make others) is
  where
    make : (ℕ → Option Object) → ℕ → Found
    make o n = record { objects = o; number = n; root = root }

pub found_from : (root number other : ℕ) (found image : Image) → Matches root found image → other ≡ number
    → ◌≡◌ {A = Found} (record { objects = λ name. get found name; number = other; root = root })
    (found_over root image number)
found_from root number other found image same is =
    found_same root (λ name. get found name) (λ name. option_map (found_object root) (get image name)) other number same is

pub matches_of : (root number other : ℕ) (found image : Image)
    → ◌≡◌ {A = Found} (record { objects = λ name. get found name; number = other; root = root }) (found_over root image number)
    → Matches root found image × (other ≡ number)
matches_of root number other found image is = (λ name. ap (λ (f : Found). f.objects name) is, ap (λ (f : Found). f.number) is)

-- an image of settled objects is found as it is
abbrev pub AllSettled : (root : ℕ) → Image → Type 0
AllSettled root image = (name : ℕ) (object : Object) → get image name ≡ Some object → IsSettled root object

pub settled_match : (root : ℕ) (image : Image) → AllSettled root image → Matches root image image
settled_match root image all name = by (get image name) refl where
  by : (o : Option Object) → get image name ≡ o → o ≡ option_map (found_object root) o
  by None is = refl
  by (Some object) is = ap (λ (x : Object). Some x) (sym (settled_is_found root object (all name object is)))

-- ---- one object more

-- what stands in an image with one object more is that, or it was there
pub put_one : (image : Image) (at : ℕ) (object : Object) (name : ℕ) (one : Object)
    → get (insert image at object) name ≡ Some one → (get image name ≡ Some one) ⊎ (object ≡ one)
put_one image at object name one there = elim (cases_eq name at) [
  | inl same ↦ inr (same_Some object one (sym (get-insert_same image at object name same) ∙ there))
  | inr apart ↦ inl (sym (get-insert_other image at object name apart) ∙ there)
]

pub put_keeps : (image : Image) (at : ℕ) (object : Object) (name : ℕ) → is_some (get image name) ≡ true
    → is_some (get (insert image at object) name) ≡ true
put_keeps image at object name some = ap is_some (get-insert nat_cmp_total image at object name)
    ∙ elim (eq_by_cmp nat_cmp name at) as (λ b. is_some (cond b (Some object) (get image name)) ≡ true) [
      | true ↦ refl
      | false ↦ some
    ]

put_matches : (root : ℕ) (found image : Image) (at : ℕ) (object : Object) → root < object.changed → Matches root found image
    → Matches root (insert found at object) (insert image at object)
put_matches root found image at object later same name = elim (cases_eq name at) [
  | inl is ↦ get-insert_same found at object name is
      ∙ ap (λ (x : Object). Some x) (sym (found_later root object later))
      ∙ ap (option_map (found_object root)) (sym (get-insert_same image at object name is))
  | inr apart ↦ get-insert_other found at object name apart ∙ same name
      ∙ ap (option_map (found_object root)) (sym (get-insert_other image at object name apart))
]

-- ---- the objects of a commit

-- all were changed by the commit of this number
abbrev pub AllChanged : ℕ → List (ℕ × Object) → Type 0
AllChanged number entries = AllByRecursion (λ (entry : ℕ × Object). entry.1.changed ≡ number) entries

pub matches_all : (root number : ℕ) (entries : List (ℕ × Object)) (found image : Image) → root < number
    → AllChanged number entries → Matches root found image
    → Matches root (with_objects found entries) (with_objects image entries)
matches_all root number [] found image above all same = same
matches_all root number (entry ∷ entries) found image above all same =
    matches_all root number entries (insert found entry.0 entry.1) (insert image entry.0 entry.1) above all.1
    (put_matches root found image entry.0 entry.1 (omega (arith, above, all.0)) same)

-- what stands there was there, or was changed by the commit
pub put_all : (number : ℕ) (entries : List (ℕ × Object)) (image : Image) (name : ℕ) (object : Object)
    → AllChanged number entries → get (with_objects image entries) name ≡ Some object
    → (get image name ≡ Some object) ⊎ (object.changed ≡ number)
put_all number [] image name object all there = inl there
put_all number (entry ∷ entries) image name object all there =
    elim (put_all number entries (insert image entry.0 entry.1) name object all.1 there) [
      | inl here ↦ elim (put_one image entry.0 entry.1 name object here) [
        | inl was ↦ inl was
        | inr is ↦ inr (subst (λ (o : Object). o.changed ≡ number) is all.0)
      ]
      | inr new ↦ inr new
    ]

pub keeps_all : (entries : List (ℕ × Object)) (image : Image) (name : ℕ) → is_some (get image name) ≡ true
    → is_some (get (with_objects image entries) name) ≡ true
keeps_all [] image name some = some
keeps_all (entry ∷ entries) image name some =
    keeps_all entries (insert image entry.0 entry.1) name (put_keeps image entry.0 entry.1 name some)

-- ---- contents

-- an object of some contents
abbrev pub remade : Contents → ℕ → Object
remade contents changed = record {
  class = contents.class;
  segment = contents.segment;
  changed = changed;
  body = contents.body;
}

same_contents : (x y : Object) → ◌≡◌ {A = Option Contents} (Some (contents_of x)) (Some (contents_of y)) → contents_of x ≡ contents_of y
same_contents x y e = same_Some (contents_of x) (contents_of y) e

none_some : {G : Type 0} (x : Contents) → ◌≡◌ {A = Option Contents} None (Some x) → G
none_some x e = absurd cc

-- of an object that counts as changed by no commit, and one of the same contents that was changed up
-- to the root's commit
pub found_up_to : (number : ℕ) (one other : Option Object) → option_map contents_of one ≡ option_map contents_of other
    → ((object : Object) → one ≡ Some object → object.changed ≡ 0)
    → ((object : Object) → other ≡ Some object → object.changed ≤ number)
    → one ≡ option_map (found_object number) other
found_up_to number None None same zero low = refl
found_up_to number None (Some y) same zero low = none_some (contents_of y) same
found_up_to number (Some x) None same zero low = none_some (contents_of x) (sym same)
found_up_to number (Some x) (Some y) same zero low =
    let contents = same_contents x y same in
    ap (λ (o : Object). Some o) (ap (λ (n : ℕ). remade (contents_of x) n) (zero x refl)
    ∙ ap (λ (c : Contents). remade c 0) contents ∙ sym (found_earlier number y (low y refl)))
