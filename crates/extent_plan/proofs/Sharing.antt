-- A leaf in which nothing was changed holds what the image has.
use Rattle.std.proofs.Common.{◌≡◌, ◌≢◌, ◌⊎◌, inl, inr, ℕ, zero, suc, ◌-◌, ◌*◌, ◌/◌, ◌<◌, ◌≤◌, Bool, true, false, cond, ◌||◌, List, [], ◌∷◌, ◌++◌, Option, None, Some, IsSome, is_some, option_map, refl, sym, ap, subst, ◌∙◌, append_assoc, arith}
use Rattle.std.specs.List.{AllByRecursion}
use Rattle.std.specs.List.Sorted.{IsStrictlySortedBy}
use Rattle.std.specs.Ordering.{nat_cmp}
use Rattle.std.specs.declared.cmp.Ordering.TheVariants.{Less, Equal}
use Rattle.std.specs.FinMap.{get, find, from_entries, get-from_entries}
use Rattle.std.proofs.lemmas.Bool.{false≢true}
use Rattle.std.proofs.lemmas.Bool.Decides.{nat_tests}
use Rattle.std.proofs.lemmas.Cmp.{nat_cmp_total, tied_itself}
use Rattle.std.proofs.lemmas.List.Elements.{recursion_from_All}
use Rattle.gem_object.specs.declared.object.Object.{Object}
use Rattle.gem_image.specs.Image.{Image, contents_of, objects_in}
use Rattle.extent_pages.specs.Contents.{leaf_size}
use Rattle.extent_pages.specs.Extent.{Leaf}
use Rattle.extent_pages.specs.Stored.{IsOfLeaf, IsStoredLeaf, AreStored}
use Rattle.extent_plan.specs.Leaves.{name_in, is_later, later_before, is_changed, contents_at, Holds}
use Rattle.extent_plan.specs.Drafts.{numbers_of, objects_in_all, IsSharable, Sharing}
use Rattle.extent_plan.specs.Shared.{KeepsHeld}
use Rattle.extent_plan.proofs.Agrees.{other_key, find_behind, find_front}

-- ---- what is found in leaves

none_in : (number name : ℕ) (objects : List (ℕ × Object)) → AllByRecursion (IsOfLeaf number) objects → name / leaf_size ≢ number
    → find nat_cmp name objects ≡ None
none_in number name [] all differ = refl
none_in number name (entry ∷ objects) all differ =
    let own : entry.0 / leaf_size ≡ number = all.0.1 in
    ap (λ b. cond b (Some entry.1) (find nat_cmp name objects)) (other_key name entry.0 (λ e. differ (ap (λ (n : ℕ). n / leaf_size) e ∙ own)))
    ∙ none_in number name objects all.1 differ

pub none_of : (leaf : Leaf) (name : ℕ) → IsStoredLeaf leaf → name / leaf_size ≢ leaf.number → find nat_cmp name leaf.objects ≡ None
none_of leaf name is differ = none_in leaf.number name leaf.objects (recursion_from_All (IsOfLeaf leaf.number) leaf.objects is.are.each) differ

none_among : (leaves : List Leaf) (name : ℕ) → AllByRecursion IsStoredLeaf leaves
    → AllByRecursion (λ number. name / leaf_size ≢ number) (numbers_of leaves) → find nat_cmp name (objects_in_all leaves) ≡ None
none_among [] name each differ = refl
none_among (leaf ∷ leaves) name each differ =
    find_behind name leaf.objects (objects_in_all leaves) (none_of leaf name each.0 differ.0) ∙ none_among leaves name each.1 differ.1

less_apart : (a b : ℕ) → nat_cmp a b ≡ Less → a ≢ b
less_apart a b less e = not_tied (sym (subst (λ (n : ℕ). nat_cmp a n ≡ Less) (sym e) less) ∙ tied_itself nat_cmp_total a) where
  not_tied : Less ≡ Equal → ⊥
  not_tied is = cc

apart_all : (number : ℕ) (name : ℕ) (numbers : List ℕ) → name / leaf_size ≡ number → AllByRecursion (λ other. nat_cmp number other ≡ Less) numbers
    → AllByRecursion (λ other. name / leaf_size ≢ other) numbers
apart_all number name [] own all = tt
apart_all number name (other ∷ numbers) own all =
    (λ e. less_apart number other all.0 (sym own ∙ e), apart_all number name numbers own all.1)

-- what all leaves have at a name of one of them is what that one has
pub found_in : (before : List Leaf) (leaf : Leaf) (after : List Leaf) (name : ℕ)
    → IsStrictlySortedBy nat_cmp (numbers_of (before ++ leaf ∷ after)) → AllByRecursion IsStoredLeaf (before ++ leaf ∷ after)
    → name / leaf_size ≡ leaf.number → find nat_cmp name (objects_in_all (before ++ leaf ∷ after)) ≡ find nat_cmp name leaf.objects
unfolding IsStrictlySortedBy
found_in [] leaf after name ascend each own =
    find_front name leaf.objects (objects_in_all after)
    (none_among after name each.1 (apart_all leaf.number name (numbers_of after) own ascend.0))
found_in (first ∷ before) leaf after name ascend each own =
    find_behind name first.objects (objects_in_all (before ++ leaf ∷ after))
    (none_of first name each.0 (λ e. less_apart first.number leaf.number (one_less before ascend.0) (sym e ∙ own)))
    ∙ found_in before leaf after name ascend.1 each.1 own where
      one_less : (leaves : List Leaf) → AllByRecursion (λ other. nat_cmp first.number other ≡ Less) (numbers_of (leaves ++ leaf ∷ after))
          → nat_cmp first.number leaf.number ≡ Less
      one_less [] all = all.0
      one_less (l ∷ leaves) all = one_less leaves all.1

-- ---- what wasn't changed

or_none : (a b : Bool) → (a || b) ≡ false → (a ≡ false) × (b ≡ false)
or_none true b e = absurd (false≢true (sym e))
or_none false b e = (refl, e)

pub not_later : (image : Image) (since leaf : ℕ) (before place : ℕ) → place < before → later_before image since leaf before ≡ false
    → is_later since (get image (name_in leaf place)) ≡ false
unfolding later_before
not_later image since leaf zero place below none = absurd (omega (arith, below))
not_later image since leaf (suc before) place below none =
    let parts = or_none (later_before image since leaf before) (is_later since (get image (name_in leaf before))) none in
    by parts (split place before (omega (arith, below))) (λ earlier. not_later image since leaf before place earlier parts.0) where
      split : (a b : ℕ) → a ≤ b → (a < b) ⊎ (a ≡ b)
      split a b most = search arith

      by : (later_before image since leaf before ≡ false) × (is_later since (get image (name_in leaf before)) ≡ false)
          → (place < before) ⊎ (place ≡ before)
          → (place < before → is_later since (get image (name_in leaf place)) ≡ false)
          → is_later since (get image (name_in leaf place)) ≡ false
      by parts (inl earlier) further = further earlier
      by parts (inr same) further = subst (λ (p : ℕ). is_later since (get image (name_in leaf p)) ≡ false) (sym same) parts.1

-- ---- a leaf that stays

module _ (image : Image) (since : ℕ) (old : List Leaf) (keeps : KeepsHeld image (from_entries (objects_in_all old)) since) where
  unchanged_same : (leaf : Leaf) (name : ℕ) (o : Option Object) → get image name ≡ o → is_later since o ≡ false
      → get (from_entries {R = nat_cmp} (objects_in_all old)) name ≡ find nat_cmp name leaf.objects
      → contents_at leaf.objects name ≡ objects_in image name
  unchanged_same leaf name None none later found = by (find nat_cmp name leaf.objects) refl where
    by : (o : Option Object) → find nat_cmp name leaf.objects ≡ o → option_map contents_of o ≡ objects_in image name
    by None is = ap (option_map contents_of) (sym none)
    by (Some object) is =
        let there : IsSome (get (from_entries {R = nat_cmp} (objects_in_all old)) name) = ap is_some (found ∙ is) in
        let some : is_some (get image name) ≡ true = keeps.names name there in
        absurd (false≢true (sym (ap is_some none) ∙ some))
  unchanged_same leaf name (Some object) there later found =
      let before : object.changed ≤ since = grind (arith, nat_tests, later) in
      ap (option_map contents_of) (sym found) ∙ sym (keeps.unchanged name object there before)

  pub shared_holds : (before : List Leaf) (leaf : Leaf) (after : List Leaf) → old ≡ before ++ leaf ∷ after
      → IsStrictlySortedBy nat_cmp (numbers_of (before ++ leaf ∷ after)) → AllByRecursion IsStoredLeaf (before ++ leaf ∷ after)
      → IsStoredLeaf leaf → is_changed image since leaf.number ≡ false → Holds image leaf
  shared_holds before leaf after parts ascend each is unchanged = record {
    same = same;
    others = λ name differ. none_of leaf name is differ;
  } where
    same : (name : ℕ) → name / leaf_size ≡ leaf.number → contents_at leaf.objects name ≡ objects_in image name
    same name own =
        let place : ℕ = name - leaf_size * leaf.number in
        let there : name_in leaf.number place ≡ name = omega (arith, own) in
        let later : is_later since (get image name) ≡ false = subst (λ (n : ℕ). is_later since (get image n) ≡ false) there
        (not_later image since leaf.number leaf_size place (omega (arith, own)) unchanged) in
        let found : get (from_entries {R = nat_cmp} (objects_in_all old)) name ≡ find nat_cmp name leaf.objects =
        get-from_entries nat_cmp_total (objects_in_all old) name ∙ ap (λ (l : List Leaf). find nat_cmp name (objects_in_all l)) parts
        ∙ found_in before leaf after name ascend each own in
        unchanged_same leaf name (get image name) refl later found

  all_sharable : (before after : List Leaf) → old ≡ before ++ after → AreStored old → AllByRecursion IsStoredLeaf after
      → AllByRecursion (IsSharable image since) after
  all_sharable before [] parts stored each = tt
  all_sharable before (leaf ∷ after) parts stored each = (
    record {
      are = each.0.are;
      first = each.0.first;
      holds = shared_holds before leaf after parts (subst (λ l. IsStrictlySortedBy nat_cmp (numbers_of l)) parts stored.ascend)
          (subst (AllByRecursion IsStoredLeaf) parts stored.each) each.0;
    },
    all_sharable (before ++ leaf ∷ []) after (parts ∙ sym (append_assoc before (leaf ∷ []) after)) stored each.1,
  )

  -- by the conditions on the images each old leaf may stay in which nothing was changed
  pub sharing_from : AreStored old → Sharing image since old
  sharing_from stored = all_sharable [] old refl stored stored.each
