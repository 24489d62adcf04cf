-- The largest serial where the counter and the bag of a load stand.
use Rattle.std.proofs.Common.{◌≡◌, ℕ, zero, suc, ℤ, ◌<◌, ◌≤◌, Bool, true, false, cond, List, [], ◌∷◌, fold, Option, Some, None, option_map, inl, inr, refl, sym, ap, ◌∙◌, arith}
use Rattle.std.proofs.lemmas.Bool.{eqb-true, ne_eqb, cases_lt}
use Rattle.std.proofs.lemmas.Option.{none-some, slice_get_past}
use Rattle.std.specs.Prelude.{nat_eq}
use Rattle.std.specs.Ordering.{nat_cmp, eq_by_cmp}
use Rattle.std.specs.Cmp.{unsigned_tied}
use Rattle.std.specs.FinMap.{find, get, entries, get-entries}
use Rattle.gem_meaning.specs.gem_value.Oid.{serial_of}
use Rattle.gem_meaning.specs.gem_object.declared.object.Object.{Object}
use Rattle.gem_meaning.specs.gem_object.declared.value.Value.{Value}
use Rattle.gem_meaning.specs.gem_image.Image.{Image, contents_of}
use Rattle.gem_meaning.specs.Opened.{largest_serial}
use Rattle.kernel_image.specs.Objects.{kernel_list, kernel_objects}
use Rattle.kernel_image.proofs.Named.{kernel_length}
use Rattle.stone_core.proofs.Largest.{larger, at_most}
use Rattle.gem_server.specs.Rounds.{hits, names, hits_contents, names_contents, globals_contents, load_objects, IsLoaded}

-- ---- the largest is at least each that is found

start_stays : (most : ℕ) (list : List (ℕ × Object)) → most ≤ fold larger most list
start_stays most [] = omega arith
start_stays most (entry ∷ rest) = let more = start_stays (larger most entry) rest in omega (arith, more)

at_least : (most name : ℕ) (object : Object) (list : List (ℕ × Object)) → find nat_cmp name list ≡ Some object
    → serial_of name ≤ fold larger most list
at_least most name object [] found = absurd (none-some object found)
at_least most name object (entry ∷ rest) found =
    by (λ more. at_least (larger most entry) name object rest more) (eq_by_cmp nat_cmp name entry.0) refl
  where
    by : (find nat_cmp name rest ≡ Some object → serial_of name ≤ fold larger (larger most entry) rest)
        → (here : Bool) → eq_by_cmp nat_cmp name entry.0 ≡ here → serial_of name ≤ fold larger (larger most entry) rest
    by further true is =
        let same : name ≡ entry.0 = eqb-true name entry.0 (sym (unsigned_tied name entry.0) ∙ is) in
        let more = start_stays (larger most entry) rest in omega (arith, same, more)
    by further false is = further (sym (ap (λ (b : Bool). cond b (Some entry.1) (find nat_cmp name rest)) is) ∙ found)

-- ---- which names there are

no_kernel : (name : ℕ) → 36 ≤ name → kernel_objects name ≡ None
no_kernel zero from = absurd (omega (arith, from))
no_kernel (suc before) from =
    let many = kernel_length in slice_get_past kernel_list before (omega (arith, from, many))

-- ---- where the load's objects stand

past : {X : Type 0} (name number : ℕ) (here : X) (rest : Option X) → number < name
    → cond (nat_eq name number) (Some here) rest ≡ rest
past name number here rest above =
    ap (λ (b : Bool). cond b (Some here) rest) (ne_eqb name number (λ same. omega (arith, same, above)))

nothing_past : (value : ℤ) (pairs : List (Value × ℕ)) (name : ℕ) → names < name → load_objects value pairs name ≡ None
nothing_past value pairs name above =
    past name hits (hits_contents value) _ (omega (arith, above))
    ∙ past name names (names_contents pairs) _ above
    ∙ past name 27 globals_contents _ (omega (arith, above))
    ∙ ap (option_map contents_of) (no_kernel name (omega (arith, above)))

is_there : {X Y : Type 0} (f : X → Y) (found : Option X) (y : Y) → option_map f found ≡ Some y
    → (x : X) × (found ≡ Some x)
is_there f None y is = absurd (none-some y is)
is_there f (Some x) y is = (x, refl)

module _ (image : Image) (value : ℤ) (pairs : List (Value × ℕ)) (loaded : IsLoaded image value pairs) where
  found_before : (name : ℕ) (object : Object) → find nat_cmp name (entries image) ≡ Some object → serial_of name ≤ 1
  found_before name object found = elim (cases_lt names name) [
    | inl above ↦
        let seen : option_map contents_of (get image name) ≡ Some (contents_of object) =
        ap (option_map contents_of) (get-entries image name ∙ found) in
        absurd (none-some (contents_of object) (sym (nothing_past value pairs name above) ∙ sym (loaded name) ∙ seen))
    | inr upto ↦ omega (arith, upto)
  ]

  pub load_serial : largest_serial image ≡ 1
  load_serial =
      let there = is_there contents_of (get image hits) (hits_contents value) (loaded hits) in
      let least : 1 ≤ fold larger 0 (entries image) =
      at_least 0 hits there.0 (entries image) (sym (get-entries image hits) ∙ there.1) in
      let most : fold larger 0 (entries image) ≤ 1 = at_most 1 0 (entries image) (omega arith) found_before in
      omega (arith, least, most)
