-- An extent that is at rest uses as many pages as are counted of its image.
use Rattle.std.proofs.Common.{◌≡◌, ◌≢◌, ◌⊎◌, inl, inr, ℕ, suc, ◌+◌, ◌*◌, ◌/◌, ◌^◌, ◌<◌, ◌≤◌, ◌==◌, eqb, Bool, true, false, cond, ◌&&◌, ◌||◌, List, [], ◌∷◌, ◌++◌, length, map, sum_by, Option, Some, None, is_some, option_map, refl, sym, ap, ap₂, subst, ◌∙◌, append_assoc, length-append, arith}
use Rattle.std.specs.List.{AllByRecursion}
use Rattle.std.specs.List.Sorted.{IsStrictlySortedBy}
use Rattle.std.specs.Ordering.{nat_cmp, eq_by_cmp}
use Rattle.std.specs.FinMap.{get, find, from_entries, get-from_entries}
use Rattle.std.proofs.lemmas.Bool.{false≢true, eq-eqb}
use Rattle.std.proofs.lemmas.Bool.Decides.{nat_tests}
use Rattle.std.proofs.lemmas.Cmp.{nat_cmp_total}
use Rattle.std.proofs.lemmas.List.Elements.{recursion_from_All}
use Rattle.std.proofs.lemmas.List.Sums.{sum_by-cons}
use Rattle.gem_object.specs.declared.object.Object.{Object}
use Rattle.gem_object.specs.Spelling.{IsOid, IsSpelledBody, IsSpelled}
use Rattle.gem_image.specs.Image.{Image, AreNamed, AreSpelled, Contents, contents_of, objects_in}
use Rattle.gem_record.specs.Stored.{Root, image_pages, pages_counted, after_checkpoint}
use Rattle.gem_disk.specs.declared.disk.Which.TheVariants.{Extent as OfExtent}
use Rattle.gem_disk.specs.Disk.{Past, reads}
use Rattle.extent_pages.specs.Pages.{is_one_of}
use Rattle.extent_pages.specs.Spelled.{spelled_leaf}
use Rattle.extent_pages.specs.Contents.{leaf_size}
use Rattle.extent_pages.specs.Extent.{Leaf, Extent, image_in, pages_of_leaves, pages_used}
use Rattle.extent_pages.specs.Stored.{IsOfLeaf, AreOfLeaf, IsStoredLeaf, AreStored, IsStoredExtent}
use Rattle.extent_plan.specs.Runs.{AscendFrom}
use Rattle.extent_plan.specs.Pieces.{pages_filled}
use Rattle.extent_plan.specs.Leaves.{leaf_objects, contents_at, Holds}
use Rattle.extent_plan.specs.Drafts.{numbers_of, objects_in_all}
use Rattle.extent_plan.specs.Needed.{sum_below, has_leaf, pages_written, one_leaf, leaves_in}
use Rattle.extent_plan.specs.Shared.{Alike}
use Rattle.extent_plan.proofs.Agrees.{same_key, other_key, find_behind, holds_own}
use Rattle.extent_plan.proofs.Runs.{not_same, none_from}
use Rattle.extent_plan.proofs.Stored.{are_own}
use Rattle.extent_plan.proofs.Needs.{sum_more, sum_over, no_leaf, leaf_there}
use Rattle.extent_plan.proofs.Sharing.{found_in, none_of}
use Rattle.extent_plan.proofs.Same.{same_bytes}
use Rattle.extent_plan.proofs.Counts.{first_counted}
use Rattle.extent_plan.proofs.Changed.{ascend_numbers, from_zero}
use Rattle.page_file.specs.declared.file.Current.{Current}
use Rattle.page_file.specs.declared.file.PageFile.{PageFile}
use Rattle.page_file.specs.Checkpoint.{IsCheckpoint}
use Rattle.page_file.specs.PageFile.{AreLists, IsAtRest, AreFound}
use Rattle.page_file.specs.Changing.{counted_root, root_found}

abbrev Entries : Type 0
Entries = List (ℕ × Object)

or_one : (a b : Bool) → b ≡ true → (a || b) ≡ true
or_one true b e = refl
or_one false b e = e

some_same : (x y : Object) → Some x ≡ Some y → x ≡ y
some_same x y e = cc

contents_same : (x y : Contents) → Some x ≡ Some y → x ≡ y
contents_same x y e = cc

order : (a b : ℕ) → (a < b) ⊎ ((b < a) ⊎ (a ≡ b))
order a b = search arith

-- ---- lists with the same contents at the same names

abbrev names_of : Entries → List ℕ
names_of objects = map (λ (entry : ℕ × Object). entry.0) objects

module _ (name : ℕ) (entry : ℕ × Object) (objects : Entries) where
  found_first : name ≡ entry.0 → find nat_cmp name (entry ∷ objects) ≡ Some entry.1
  found_first is = ap (λ b. cond b (Some entry.1) (find nat_cmp name objects)) (same_key name entry.0 is)

  found_later : name ≢ entry.0 → find nat_cmp name (entry ∷ objects) ≡ find nat_cmp name objects
  found_later differ = ap (λ b. cond b (Some entry.1) (find nat_cmp name objects)) (other_key name entry.0 differ)

none_low : (from name : ℕ) (objects : Entries) → AscendFrom from (names_of objects) → name < from → find nat_cmp name objects ≡ None
none_low from name [] ascend low = refl
none_low from name (entry ∷ objects) ascend low =
    found_later name entry objects (λ e. omega (arith, e, low, ascend.0)) ∙ none_low (entry.0 + 1) name objects ascend.1 (omega (arith, low, ascend.0))

some_none : {G : Type 0} (x : Contents) (o : Option Contents) → o ≡ Some x → o ≡ None → G
some_none x o is none = absurd (false≢true (sym (ap is_some none) ∙ ap is_some is))

up_from_zero : (objects : Entries) → IsStrictlySortedBy nat_cmp (names_of objects) → AscendFrom 0 (names_of objects)
up_from_zero objects sorted = ascend_numbers 0 (names_of objects) (from_zero (names_of objects)) sorted

alike : (from : ℕ) (objects others : Entries) → AscendFrom from (names_of objects) → AscendFrom from (names_of others)
    → ((name : ℕ) → contents_at objects name ≡ contents_at others name) → Alike objects others
alike from [] [] rise up same = tt
alike from [] (other ∷ others) rise up same =
    some_none (contents_of other.1) (contents_at (other ∷ others) other.0) (ap (option_map contents_of) (found_first other.0 other others refl)) (sym (same other.0))
alike from (entry ∷ objects) [] rise up same =
    some_none (contents_of entry.1) (contents_at (entry ∷ objects) entry.0) (ap (option_map contents_of) (found_first entry.0 entry objects refl)) (same entry.0)
alike from (entry ∷ objects) (other ∷ others) rise up same = by (order entry.0 other.0) (alike (entry.0 + 1) objects others) where
  first : contents_at (entry ∷ objects) entry.0 ≡ Some (contents_of entry.1)
  first = ap (option_map contents_of) (found_first entry.0 entry objects refl)

  second : contents_at (other ∷ others) other.0 ≡ Some (contents_of other.1)
  second = ap (option_map contents_of) (found_first other.0 other others refl)

  behind : entry.0 ≡ other.0 → AscendFrom (entry.0 + 1) (names_of others)
  behind is = subst (λ (n : ℕ). AscendFrom (n + 1) (names_of others)) (sym is) up.1

  apart : (name : ℕ) → entry.0 ≡ other.0 → name ≢ entry.0 → contents_at objects name ≡ contents_at others name
  apart name is differ = sym (ap (option_map contents_of) (found_later name entry objects differ)) ∙ same name
      ∙ ap (option_map contents_of) (found_later name other others (λ e. differ (e ∙ sym is)))

  rest : (name : ℕ) → entry.0 ≡ other.0 → (name < entry.0) ⊎ ((entry.0 < name) ⊎ (name ≡ entry.0)) → contents_at objects name ≡ contents_at others name
  rest name is (inl less) = apart name is (λ e. omega (arith, e, less))
  rest name is (inr (inl more)) = apart name is (λ e. omega (arith, e, more))
  rest name is (inr (inr here)) =
      ap (option_map contents_of) (none_low (entry.0 + 1) name objects rise.1 (omega (arith, here)))
      ∙ sym (ap (option_map contents_of) (none_low (entry.0 + 1) name others (behind is) (omega (arith, here))))

  by : (entry.0 < other.0) ⊎ ((other.0 < entry.0) ⊎ (entry.0 ≡ other.0))
      → (AscendFrom (entry.0 + 1) (names_of objects) → AscendFrom (entry.0 + 1) (names_of others)
      → ((name : ℕ) → contents_at objects name ≡ contents_at others name) → Alike objects others)
      → Alike (entry ∷ objects) (other ∷ others)
  by (inl less) further = some_none (contents_of entry.1) (contents_at (entry ∷ objects) entry.0) first
      (same entry.0 ∙ ap (option_map contents_of) (none_low other.0 entry.0 (other ∷ others) (omega arith, up.1) less))
  by (inr (inl more)) further = some_none (contents_of other.1) (contents_at (other ∷ others) other.0) second
      (sym (same other.0) ∙ ap (option_map contents_of) (none_low entry.0 other.0 (entry ∷ objects) (omega arith, rise.1) more))
  by (inr (inr is)) further = (
    is,
    contents_same (contents_of entry.1) (contents_of other.1) (sym first ∙ same entry.0 ∙ ap (option_map contents_of) (found_first entry.0 other others is)),
    further rise.1 (behind is) (λ name. rest name is (order name entry.0)),
  )

-- ---- objects that are found in leaves

of_leaf : (leaf name : ℕ) (objects : Entries) (object : Object) → AllByRecursion (IsOfLeaf leaf) objects
    → find nat_cmp name objects ≡ Some object → IsOfLeaf leaf (name, object)
of_leaf leaf name [] object all there = absurd (false≢true (ap is_some there))
of_leaf leaf name (entry ∷ objects) object all there = by (eqb name entry.0) refl (of_leaf leaf name objects object all.1) where
  by : (b : Bool) → eqb name entry.0 ≡ b → (find nat_cmp name objects ≡ Some object → IsOfLeaf leaf (name, object))
      → IsOfLeaf leaf (name, object)
  by true is further =
      let same : name ≡ entry.0 = grind (arith, nat_tests, is) in
      let it : entry.1 ≡ object = some_same entry.1 object (sym (found_first name entry objects same) ∙ there) in
      subst (λ (o : Object). IsOfLeaf leaf (name, o)) it (subst (λ (n : ℕ). IsOfLeaf leaf (n, entry.1)) (sym same) all.0)
  by false is further =
      let other : name ≢ entry.0 = λ same. absurd (false≢true (sym is ∙ eq-eqb name entry.0 same)) in
      further (sym (found_later name entry objects other) ∙ there)

in_front : (name : ℕ) (front back : Entries) (object : Object) → find nat_cmp name front ≡ Some object
    → find nat_cmp name (front ++ back) ≡ Some object
in_front name [] back object there = absurd (false≢true (ap is_some there))
in_front name (entry ∷ front) back object there = by (eq_by_cmp nat_cmp name entry.0) there (in_front name front back object) where
  by : (b : Bool) → cond b (Some entry.1) (find nat_cmp name front) ≡ Some object
      → (find nat_cmp name front ≡ Some object → find nat_cmp name (front ++ back) ≡ Some object)
      → cond b (Some entry.1) (find nat_cmp name (front ++ back)) ≡ Some object
  by true is further = is
  by false is further = further is

-- an object is one of a leaf of these
record FoundIn (leaves : List Leaf) (name : ℕ) (object : Object) : Type 0 where
  number : ℕ
  own : IsOfLeaf number (name, object)
  one : is_one_of number (numbers_of leaves) ≡ true

found_stored : (leaves : List Leaf) (name : ℕ) (object : Object) → AllByRecursion IsStoredLeaf leaves
    → find nat_cmp name (objects_in_all leaves) ≡ Some object → FoundIn leaves name object
found_stored [] name object all there = absurd (false≢true (ap is_some there))
found_stored (leaf ∷ leaves) name object all there = by (find nat_cmp name leaf.objects) refl (found_stored leaves name object all.1) where
  by : (o : Option Object) → find nat_cmp name leaf.objects ≡ o
      → (find nat_cmp name (objects_in_all leaves) ≡ Some object → FoundIn leaves name object)
      → FoundIn (leaf ∷ leaves) name object
  by None is further =
      let later = further (sym (find_behind name leaf.objects (objects_in_all leaves) is) ∙ there) in
      record {
        number = later.number;
        own = later.own;
        one = or_one (later.number == leaf.number) (is_one_of later.number (numbers_of leaves)) later.one;
      }
  by (Some here) is further =
      let it : here ≡ object = some_same here object (sym (in_front name leaf.objects (objects_in_all leaves) here is) ∙ there) in
      record {
        number = leaf.number;
        own = subst (λ (o : Object). IsOfLeaf leaf.number (name, o)) it
            (of_leaf leaf.number name leaf.objects here (recursion_from_All (IsOfLeaf leaf.number) leaf.objects all.0.are.each) is);
        one = ap (λ b. b || is_one_of leaf.number (numbers_of leaves)) (eq-eqb leaf.number leaf.number refl);
      }

-- the first object of a leaf
record First (leaf : Leaf) : Type 0 where
  name : ℕ
  object : Object
  there : find nat_cmp name leaf.objects ≡ Some object
  own : IsOfLeaf leaf.number (name, object)

first_of : (leaf : Leaf) → AreOfLeaf leaf.number leaf.objects → First leaf
first_of leaf are = by leaf.objects refl are.some (recursion_from_All (IsOfLeaf leaf.number) leaf.objects are.each) where
  by : (objects : Entries) → leaf.objects ≡ objects → 0 < length objects → AllByRecursion (IsOfLeaf leaf.number) objects → First leaf
  by [] is some all = absurd (omega (arith, some))
  by (entry ∷ objects) is some all = record {
    name = entry.0;
    object = entry.1;
    there = ap (find nat_cmp entry.0) is ∙ found_first entry.0 entry objects refl;
    own = all.0;
  }

leaf_low : (leaf : Leaf) → AreOfLeaf leaf.number leaf.objects → leaf.number < 2 ^ 42
leaf_low leaf are =
    let first = first_of leaf are in
    let low : first.name < 2 ^ 48 = first.own.0.name in
    let own : first.name / leaf_size ≡ leaf.number = first.own.1 in
    omega (arith, low, own)

-- ---- sums at the numbers of a list that ascends

module _ (f : ℕ → ℕ) (high : ℕ) where
  listed_from : (from : ℕ) (numbers : List ℕ) → AscendFrom from numbers → AllByRecursion (λ n. n < high) numbers → from ≤ high
      → ((k : ℕ) → from ≤ k → is_one_of k numbers ≡ false → f k ≡ 0) → sum_below high f ≡ sum_below from f + sum_by f numbers
  listed_from from [] ascend low most none =
      let same = sum_over f from high most (λ k least below. none k least refl) in omega (arith, same)
  listed_from from (number ∷ numbers) ascend low most none =
      let apart : (k : ℕ) → number < k → is_one_of k numbers ≡ false → is_one_of k (number ∷ numbers) ≡ false =
      λ k above other. ap (λ b. b || is_one_of k numbers) (not_same k number (λ e. omega (arith, e, above))) ∙ other in
      let rest = listed_from (number + 1) numbers ascend.1 low.1 (omega (arith, low.0))
      (λ k least other. none k (omega (arith, least, ascend.0)) (apart k (omega (arith, least)) other)) in
      let front = sum_over f from number ascend.0 (λ k least below. none k least (none_from k number (number ∷ numbers) below (omega arith, ascend.1))) in
      omega (arith, rest, front, sum_more f number, sum_by-cons f number numbers)

  sum_start : sum_below 0 f ≡ 0
  unfolding sum_below
  sum_start = refl

  listed : (numbers : List ℕ) → AscendFrom 0 numbers → AllByRecursion (λ n. n < high) numbers
      → ((k : ℕ) → is_one_of k numbers ≡ false → f k ≡ 0) → sum_below high f ≡ sum_by f numbers
  listed numbers ascend low none =
      let all = listed_from 0 numbers ascend low (omega arith) (λ k least other. none k other) in omega (arith, all, sum_start)

-- ---- an image and the leaves that have its objects

module _ (image : Image) (leaves : List Leaf) (stored : AreStored leaves)
    (agrees : (name : ℕ) → objects_in (from_entries {R = nat_cmp} (objects_in_all leaves)) name ≡ objects_in image name) where
  found_is : (name : ℕ) → contents_at (objects_in_all leaves) name ≡ objects_in image name
  found_is name = ap (option_map contents_of) (sym (get-from_entries nat_cmp_total (objects_in_all leaves) name)) ∙ agrees name

  -- what the image has at a name is one of the leaves' objects
  record Held (name : ℕ) (object : Object) : Type 0 where
    other : Object
    found : FoundIn leaves name other
    same : contents_of other ≡ contents_of object

  held : (name : ℕ) (object : Object) → get image name ≡ Some object → Held name object
  held name object there = by (find nat_cmp name (objects_in_all leaves)) refl where
    by : (o : Option Object) → find nat_cmp name (objects_in_all leaves) ≡ o → Held name object
    by None is = some_none (contents_of object) (objects_in image name) (ap (option_map contents_of) there)
        (sym (found_is name) ∙ ap (option_map contents_of) is)
    by (Some other) is = record {
      other = other;
      found = found_stored leaves name other stored.each is;
      same = contents_same (contents_of other) (contents_of object)
          (sym (ap (option_map contents_of) is) ∙ found_is name ∙ ap (option_map contents_of) there);
    }

  named : AreNamed image
  named name high = by (get image name) refl where
    by : (o : Option Object) → get image name ≡ o → get image name ≡ None
    by None is = is
    by (Some object) is = let low : name < 2 ^ 48 = (held name object is).found.own.0.name in absurd (omega (arith, low, high))

  spelled : AreSpelled image
  spelled name object there =
      let one = held name object there in
      let known : IsSpelled one.other = one.found.own.0.object.spelled in
      record {
        class_name = subst (λ (c : Contents). IsOid c.class) one.same known.class_name;
        segment_name = subst (λ (c : Contents). IsOid c.segment) one.same known.segment_name;
        body = subst (λ (c : Contents). IsSpelledBody c.body) one.same known.body;
      }

  -- there are no others
  no_others : (k : ℕ) → is_one_of k (numbers_of leaves) ≡ false → has_leaf image k ≡ false
  no_others k apart = no_leaf image k (λ name own. by name own (get image name) refl) where
    by : (name : ℕ) → name / leaf_size ≡ k → (o : Option Object) → get image name ≡ o → get image name ≡ None
    by name own None is = is
    by name own (Some object) is =
        let found = (held name object is).found in
        absurd (false≢true (sym apart ∙ subst (λ (n : ℕ). is_one_of n (numbers_of leaves) ≡ true) (sym found.own.1 ∙ own) found.one))

  holds_from : (before after : List Leaf) → leaves ≡ before ++ after → AllByRecursion IsStoredLeaf after → AllByRecursion (Holds image) after
  holds_from before [] parts each = tt
  holds_from before (leaf ∷ after) parts each = (
    record {
      same = λ name own.
          ap (option_map contents_of) (sym (found_in before leaf after name (subst (λ l. IsStrictlySortedBy nat_cmp (numbers_of l)) parts stored.ascend)
          (subst (AllByRecursion IsStoredLeaf) parts stored.each) own))
          ∙ ap (λ (l : List Leaf). contents_at (objects_in_all l) name) (sym parts) ∙ found_is name;
      others = λ name differ. none_of leaf name each.0 differ;
    },
    holds_from (before ++ leaf ∷ []) after (parts ∙ sym (append_assoc before (leaf ∷ []) after)) each.1,
  )

  -- ---- one leaf

  module _ (leaf : Leaf) (is : IsStoredLeaf leaf) (holds : Holds image leaf) where
    has_it : has_leaf image leaf.number ≡ true
    has_it = by (get image first.name) refl where
      first : First leaf
      first = first_of leaf is.are

      by : (o : Option Object) → get image first.name ≡ o → has_leaf image leaf.number ≡ true
      by None none = some_none (contents_of first.object) (contents_at leaf.objects first.name) (ap (option_map contents_of) first.there)
          (holds.same first.name first.own.1 ∙ ap (option_map contents_of) none)
      by (Some object) there = leaf_there image first.name leaf.number object there (sym first.own.1)

    other_at : (name : ℕ) → name / leaf_size ≢ leaf.number → contents_at (leaf_objects image leaf.number) name ≡ contents_at leaf.objects name
    other_at name differ = ap (option_map contents_of) ((holds_own image leaf.number).others name differ) ∙ sym (ap (option_map contents_of) (holds.others name differ))

    same_at : (name : ℕ) → (name / leaf_size < leaf.number) ⊎ ((leaf.number < name / leaf_size) ⊎ (name / leaf_size ≡ leaf.number))
        → contents_at (leaf_objects image leaf.number) name ≡ contents_at leaf.objects name
    same_at name (inl less) = other_at name (λ e. omega (arith, e, less))
    same_at name (inr (inl more)) = other_at name (λ e. omega (arith, e, more))
    same_at name (inr (inr own)) = (holds_own image leaf.number).same name own ∙ sym (holds.same name own)

    bytes_are : spelled_leaf (leaf_objects image leaf.number) ≡ spelled_leaf leaf.objects
    bytes_are =
        let some : 0 < length (leaf_objects image leaf.number) = grind (arith, nat_tests, has_it) in
        let own = are_own image spelled leaf.number (leaf_low leaf is.are) some in
        same_bytes (leaf_objects image leaf.number) leaf.objects
        (alike 0 (leaf_objects image leaf.number) leaf.objects (up_from_zero (leaf_objects image leaf.number) own.ascend) (up_from_zero leaf.objects is.are.ascend)
        (λ name. same_at name (order (name / leaf_size) leaf.number)))

    pages_are : pages_written image 0 [] leaf.number ≡ length leaf.pages
    pages_are = ap (λ b. cond (b && true) (pages_filled (length (spelled_leaf (leaf_objects image leaf.number)))) 0) has_it
        ∙ ap (λ (l : List ℕ). pages_filled (length l)) bytes_are ∙ sym is.many

    one_is : one_leaf image leaf.number ≡ 1
    one_is = ap (λ b. cond b 1 0) has_it

  -- ---- all leaves

  record Summed (after : List Leaf) : Type 0 where
    pages : sum_by (pages_written image 0 []) (numbers_of after) ≡ length (pages_of_leaves after)
    count : sum_by (one_leaf image) (numbers_of after) ≡ length after
    low : AllByRecursion (λ n. n < 2 ^ 42) (numbers_of after)

  summed : (after : List Leaf) → AllByRecursion IsStoredLeaf after → AllByRecursion (Holds image) after → Summed after
  summed [] each hold = record { pages = refl; count = refl; low = tt }
  summed (leaf ∷ after) each hold =
      let more = summed after each.1 hold.1 in
      record {
        pages = sum_by-cons (pages_written image 0 []) leaf.number (numbers_of after)
            ∙ ap₂ (λ (a b : ℕ). a + b) (pages_are leaf each.0 hold.0) more.pages ∙ sym (length-append leaf.pages (pages_of_leaves after));
        count = sum_by-cons (one_leaf image) leaf.number (numbers_of after)
            ∙ ap₂ (λ (a b : ℕ). a + b) (one_is leaf each.0 hold.0) more.count ∙ one_and (length after);
        low = (leaf_low leaf each.0.are, more.low);
      }
    where
      one_and : (n : ℕ) → 1 + n ≡ suc n
      one_and n = omega arith

  all_summed : Summed leaves
  all_summed = summed leaves stored.each (holds_from [] leaves refl stored.each)

  up : AscendFrom 0 (numbers_of leaves)
  up = ascend_numbers 0 (numbers_of leaves) (from_zero (numbers_of leaves)) stored.ascend

  leaves_are : leaves_in image ≡ length leaves
  leaves_are = listed (one_leaf image) (2 ^ 42) (numbers_of leaves) up all_summed.low (λ k apart. ap (λ b. cond b 1 0) (no_others k apart))
      ∙ all_summed.count

  written_are : sum_below (2 ^ 42) (pages_written image 0 []) ≡ length (pages_of_leaves leaves)
  written_are = listed (pages_written image 0 []) (2 ^ 42) (numbers_of leaves) up all_summed.low
      (λ k apart. ap (λ b. cond (b && true) (pages_filled (length (spelled_leaf (leaf_objects image k)))) 0) (no_others k apart))
      ∙ all_summed.pages

-- ---- an extent

pages_many : (extent : Extent) (image : Image) → IsStoredExtent extent
    → ((name : ℕ) → objects_in (image_in extent) name ≡ objects_in image name) → length (pages_used extent) ≡ image_pages image
pages_many extent image stored agrees =
    joined (length (pages_used extent)) (pages_filled (4 + 12 * leaves_in image)) (sum_below (2 ^ 42) (pages_written image 0 [])) (image_pages image)
    (length-append extent.directory (pages_of_leaves extent.leaves)
    ∙ ap₂ (λ (a b : ℕ). a + b) (stored.directory ∙ ap (λ (n : ℕ). pages_filled (4 + 12 * n)) (sym (leaves_are image extent.leaves stored.leaves agrees)))
    (sym (written_are image extent.leaves stored.leaves agrees)))
    (first_counted image (named image extent.leaves stored.leaves agrees) 0) where
      joined : (whole directory written counted : ℕ) → whole ≡ directory + written → 3 + 0 + (directory + written) ≡ 3 + counted
          → whole ≡ counted
      joined whole directory written counted one two = omega (arith, one, two)

-- an open one can be stored
stored_in : (file : List ℕ) (current : Option Current) (extent : Extent) → AreLists file current (Some extent) → IsStoredExtent extent
stored_in file None extent lists = absurd lists
stored_in file (Some current) extent lists = lists.stored

abbrev root_with : ℕ → ℕ → Option Root
root_with number pages = Some (record { number = number; pages = pages })

module _ (past : Past) (pages : PageFile) where
  pub rest_many : (extent : Extent) → IsAtRest past pages (Some extent) → (image : Image) (number : ℕ) → IsCheckpoint image number extent
      → length (pages_used extent) ≡ image_pages image
  rest_many extent rest image number is = pages_many extent image (stored_in (reads past OfExtent) pages.current extent rest.lists) is.agrees

  pub rest_root : (extent : Extent) → IsAtRest past pages (Some extent) → (image : Image) (number : ℕ) → IsCheckpoint image number extent
      → counted_root (Some extent) ≡ (after_checkpoint true image number).root
  unfolding pages_counted
  rest_root extent rest image number is = ap₂ (λ (n p : ℕ). root_with n p) is.number_is (rest_many extent rest image number is)

  pub rest_found : (image : Option Image) (number : ℕ) (before : Option Extent) → AreFound image number before → IsAtRest past pages before
      → counted_root before ≡ root_found image number
  rest_found None number None are rest = refl
  rest_found None number (Some extent) are rest = absurd are
  rest_found (Some image) number None are rest = absurd are
  rest_found (Some image) number (Some extent) are rest = rest_root extent rest image number (record {
    number_is = sym are.1;
    agrees = λ name. ap (λ (i : Image). objects_in i name) (sym are.0);
  })
