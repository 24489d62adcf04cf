-- A directory, entry by entry; and what places say of leaves.
use Rattle.std.proofs.Common.{◌≡◌, ℕ, ◌+◌, ◌-◌, ◌^◌, ◌≤◌, min, max, replicate, List, [], ◌∷◌, ◌++◌, length, refl, sym, ap, ◌∙◌, append_assoc, append-nil, length-append, arith}
use Rattle.std.specs.List.{flat_map, fold}
use Rattle.std.proofs.lemmas.List.{length-map}
use Rattle.std.proofs.lemmas.List.Sums.{sum_by-cons}
use Rattle.gem_object.specs.declared.object.Object.{Object}
use Rattle.body_codec.specs.Spelled.{four_bytes, eight_bytes}
use Rattle.body_codec.proofs.Lengths.{four_long, eight_long}
use Rattle.extent_pages.specs.Pages.{page_size}
use Rattle.extent_pages.specs.declared.root.Root.{Root}
use Rattle.extent_pages.specs.Spelled.{spelled_entry, spelled_directory, spelled_root, root_page}
use Rattle.extent_pages.specs.Extent.{Leaf, first_page, larger_serial, largest_serial, pages_of_leaves}
use Rattle.extent_pages.specs.Laid.{entries_of}
use Rattle.extent_plan.specs.declared.place.LeafPlace.{LeafPlace}
use Rattle.extent_plan.specs.Plan.{ArePlaces}
use Rattle.extent_plan.specs.Drafts.{objects_in_all}
use Rattle.extent_plan.specs.Totals.{entry_of, entries_at, objects_at, pages_at, larger}

-- ---- the directory

pub directory_start : (places : List LeafPlace) (none bytes : List ℕ) → none ≡ [] → bytes ≡ none ++ four_bytes (length places)
    → bytes ++ flat_map spelled_entry (entries_at places) ≡ four_bytes (length places) ++ flat_map spelled_entry (entries_at places)
directory_start places none bytes e is =
    ap (λ (l : List ℕ). l ++ flat_map spelled_entry (entries_at places)) (is ∙ ap (λ (l : List ℕ). l ++ four_bytes (length places)) e)

pub directory_more : (bytes new whole : List ℕ) (rest : List LeafPlace) (place : LeafPlace) (behind : List LeafPlace)
    → rest ≡ place ∷ behind → new ≡ bytes ++ spelled_entry (entry_of place)
    → bytes ++ flat_map spelled_entry (entries_at rest) ≡ whole
    → new ++ flat_map spelled_entry (entries_at behind) ≡ whole
directory_more bytes new whole rest place behind parts is so =
    ap (λ (l : List ℕ). l ++ flat_map spelled_entry (entries_at behind)) is
    ∙ append_assoc bytes (spelled_entry (entry_of place)) (flat_map spelled_entry (entries_at behind))
    ∙ ap (λ (l : List LeafPlace). bytes ++ flat_map spelled_entry (entries_at l)) (sym parts) ∙ so

pub directory_end : (places : List LeafPlace) (bytes : List ℕ) (rest : List LeafPlace) → rest ≡ []
    → bytes ++ flat_map spelled_entry (entries_at rest) ≡ four_bytes (length places) ++ flat_map spelled_entry (entries_at places)
    → bytes ≡ spelled_directory (entries_at places)
directory_end places bytes rest none so =
    sym (append-nil bytes) ∙ ap (λ (l : List LeafPlace). bytes ++ flat_map spelled_entry (entries_at l)) (sym none) ∙ so
    ∙ ap (λ (n : ℕ). four_bytes n ++ flat_map spelled_entry (entries_at places)) (sym (length-map places entry_of))

-- ---- places of leaves

pub entries_are : (places : List LeafPlace) (leaves : List Leaf) → ArePlaces places leaves → entries_at places ≡ entries_of leaves
entries_are [] [] are = refl
entries_are [] (leaf ∷ leaves) are = absurd are
entries_are (place ∷ places) [] are = absurd are
entries_are (place ∷ places) (leaf ∷ leaves) are =
    ap (λ (n : ℕ). (n, first_page place.pages.items) ∷ entries_at places) are.0.number
    ∙ ap (λ (l : List ℕ). (leaf.number, first_page l) ∷ entries_at places) are.0.pages
    ∙ ap (λ (l : List (ℕ × ℕ)). (leaf.number, first_page leaf.pages) ∷ l) (entries_are places leaves are.1)

pub objects_are : (places : List LeafPlace) (leaves : List Leaf) → ArePlaces places leaves → objects_at places ≡ length (objects_in_all leaves)
objects_are [] [] are = refl
objects_are [] (leaf ∷ leaves) are = absurd are
objects_are (place ∷ places) [] are = absurd are
objects_are (place ∷ places) (leaf ∷ leaves) are =
    omega (arith, sum_by-cons (λ (p : LeafPlace). p.count) place places, are.0.count, objects_are places leaves are.1, length-append leaf.objects (objects_in_all leaves))

pub pages_are : (places : List LeafPlace) (leaves : List Leaf) → ArePlaces places leaves → pages_at places ≡ length (pages_of_leaves leaves)
pages_are [] [] are = refl
pages_are [] (leaf ∷ leaves) are = absurd are
pages_are (place ∷ places) [] are = absurd are
pages_are (place ∷ places) (leaf ∷ leaves) are =
    omega (arith, sum_by-cons (λ (p : LeafPlace). length p.pages.items) place places, ap length are.0.pages, pages_are places leaves are.1, length-append leaf.pages (pages_of_leaves leaves))

-- the largest serial, begun anywhere
largest_append : (start : ℕ) (objects more : List (ℕ × Object))
    → fold larger_serial start (objects ++ more) ≡ fold larger_serial (fold larger_serial start objects) more
largest_append start [] more = refl
largest_append start (entry ∷ objects) more = largest_append (larger_serial start entry) objects more

largest_start : (start : ℕ) (objects : List (ℕ × Object)) → fold larger_serial start objects ≡ max start (largest_serial objects)
largest_start start [] = omega arith
largest_start start (entry ∷ objects) =
    largest_start (larger_serial start entry) objects
    ∙ nested start (larger_serial 0 entry) (largest_serial objects) (larger_serial start entry) (omega arith)
    ∙ ap (max start) (sym (largest_start (larger_serial 0 entry) objects)) where
      nested : (a b c d : ℕ) → d ≡ max a b → max d c ≡ max a (max b c)
      nested a b c d e = omega (arith, e)

pub serials_are : (start : ℕ) (places : List LeafPlace) (leaves : List Leaf) → ArePlaces places leaves
    → fold larger start places ≡ fold larger_serial start (objects_in_all leaves)
serials_are start [] [] are = refl
serials_are start [] (leaf ∷ leaves) are = absurd are
serials_are start (place ∷ places) [] are = absurd are
serials_are start (place ∷ places) (leaf ∷ leaves) are =
    serials_are (larger start place) places leaves are.1
    ∙ ap (λ (n : ℕ). fold larger_serial n (objects_in_all leaves))
    (ap (max start) are.0.serial ∙ sym (largest_start start leaf.objects))
    ∙ sym (largest_append start leaf.objects (objects_in_all leaves))

-- ---- counts that are full at 2^64 - 1

pub none_left : {X : Type 0} (rest : List X) → length rest ≡ 0 → rest ≡ []
none_left [] none = refl
none_left (x ∷ rest) none = absurd (omega (arith, none))

pub all_counted : {X : Type 0} (f : List X → ℕ) → f [] ≡ 0 → (count : ℕ) (rest whole : List X) → length rest ≡ 0
    → count ≤ 2 ^ 64 - 1 → min (count + f rest) (2 ^ 64 - 1) ≡ min (f whole) (2 ^ 64 - 1)
    → count ≡ min (f whole) (2 ^ 64 - 1)
all_counted f empty count rest whole none fits so =
    let nothing : f rest ≡ 0 = ap f (none_left rest none) ∙ empty in
    omega (arith, nothing, fits, so)

-- ---- the root's bytes

module _ (root : Root) (none a b c d e : List ℕ) (serial directory pages : ℕ) (none_is : none ≡ []) (a_is : a ≡ none ++ eight_bytes root.number)
    (serial_is : serial ≡ root.serial) (b_is : b ≡ a ++ four_bytes serial) (c_is : c ≡ b ++ eight_bytes root.objects)
    (directory_is : directory ≡ root.directory) (d_is : d ≡ c ++ four_bytes directory) (pages_is : pages ≡ root.pages)
    (e_is : e ≡ d ++ four_bytes pages) where
  root_parts : e ≡ spelled_root root
  root_parts =
      let n = eight_bytes root.number in
      let s = four_bytes root.serial in
      let o = eight_bytes root.objects in
      let f = four_bytes root.directory in
      let p = four_bytes root.pages in
      let first : a ≡ n = a_is ∙ ap (λ (l : List ℕ). l ++ n) none_is in
      let second : b ≡ n ++ s = b_is ∙ ap (λ (l : List ℕ). l ++ four_bytes serial) first ∙ ap (λ (m : ℕ). n ++ four_bytes m) serial_is in
      let third : c ≡ (n ++ s) ++ o = c_is ∙ ap (λ (l : List ℕ). l ++ o) second in
      let fourth : d ≡ ((n ++ s) ++ o) ++ f = d_is ∙ ap (λ (l : List ℕ). l ++ four_bytes directory) third ∙ ap (λ (m : ℕ). ((n ++ s) ++ o) ++ four_bytes m) directory_is in
      let fifth : e ≡ (((n ++ s) ++ o) ++ f) ++ p = e_is ∙ ap (λ (l : List ℕ). l ++ four_bytes pages) fourth ∙ ap (λ (m : ℕ). (((n ++ s) ++ o) ++ f) ++ four_bytes m) pages_is in
      fifth ∙ append_assoc ((n ++ s) ++ o) f p ∙ append_assoc (n ++ s) o (f ++ p) ∙ append_assoc n s (o ++ (f ++ p))

  pub root_short : length e ≤ page_size
  root_short = omega (
    arith,
    ap length root_parts,
    length-append (eight_bytes root.number) (four_bytes root.serial ++ (eight_bytes root.objects ++ (four_bytes root.directory ++ four_bytes root.pages))),
    length-append (four_bytes root.serial) (eight_bytes root.objects ++ (four_bytes root.directory ++ four_bytes root.pages)),
    length-append (eight_bytes root.objects) (four_bytes root.directory ++ four_bytes root.pages),
    length-append (four_bytes root.directory) (four_bytes root.pages),
    eight_long root.number,
    four_long root.serial,
    eight_long root.objects,
    four_long root.directory,
    four_long root.pages,
  )

  pub root_spelled : (whole : List ℕ) → whole ≡ e ++ replicate (page_size - length e) 0 → whole ≡ root_page root
  unfolding root_page
  root_spelled whole is = is ∙ ap (λ (l : List ℕ). l ++ replicate (page_size - length l) 0) root_parts
