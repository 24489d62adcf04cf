-- Pages counted over an image's entries, and leaf by leaf.
use Rattle.std.proofs.Common.{◌≡◌, ◌≢◌, ◌⊎◌, inl, inr, ℕ, zero, suc, ◌+◌, ◌-◌, ◌*◌, ◌/◌, ◌^◌, ◌<◌, ◌≤◌, ◌==◌, nat_lt, eqb, Bool, true, false, cond, not, ◌&&◌, ◌||◌, T, List, [], ◌∷◌, length, map, sum_by, filter, Option, None, Some, is_some, option_map, refl, sym, ap, ap₂, subst, ◌∙◌, append-nil, length-append, arith}
use Rattle.std.specs.List.{flat_map, list_any, AllByRecursion}
use Rattle.std.specs.Ordering.{nat_cmp, is_lt, eq_by_cmp, MatchOrdering}
use Rattle.std.specs.declared.cmp.Ordering.{Ordering}
use Rattle.std.specs.declared.cmp.Ordering.TheVariants.{Less, Equal, Greater}
use Rattle.std.specs.Cmp.{ranks}
use Rattle.std.specs.FinMap.{FinMap, get, find, entries, entries_sorted, is_sorted, from_entries, get-entries, get-from_entries, contains_key-keys}
use Rattle.std.specs.FinMap.Entries.{below_all}
use Rattle.std.proofs.lemmas.Bool.{false≢true, eq-eqb}
use Rattle.std.proofs.lemmas.Bool.Decides.{nat_tests}
use Rattle.std.proofs.lemmas.Cmp.{nat_cmp_total}
use Rattle.std.proofs.lemmas.List.Elements.{recursion_from_All}
use Rattle.std.proofs.lemmas.List.Sums.{sum_by-cons}
use Rattle.std.proofs.lemmas.Grind.{flat_map-append}
use Rattle.gem_object.specs.declared.object.Object.{Object}
use Rattle.gem_image.specs.Image.{Image, AreNamed, contents_of, objects_in}
use Rattle.gem_record.specs.Effects.{changed_size}
use Rattle.gem_record.specs.Stored.{chain_pages, is_in_leaf, is_stale, leaves_of, leaf_size as recorded_size, directory_size, pages_over}
use Rattle.body_codec.specs.Spelled.{eight_bytes, spelled_object, spelled_changed}
use Rattle.body_codec.proofs.Lengths.{eight_long, object_long}
use Rattle.extent_pages.specs.Pages.{is_one_of}
use Rattle.extent_pages.specs.Contents.{leaf_size}
use Rattle.extent_pages.specs.Spelled.{spelled_leaf}
use Rattle.extent_pages.specs.Extent.{Leaf}
use Rattle.extent_pages.specs.Stored.{IsOfLeaf, IsStoredLeaf, AreStored}
use Rattle.extent_plan.specs.declared.place.LeafPlace.{LeafPlace}
use Rattle.extent_plan.specs.Pieces.{pages_filled}
use Rattle.extent_plan.specs.Leaves.{plain, stored_at, name_in, objects_before, leaf_objects, is_later, later_before, is_changed}
use Rattle.extent_plan.specs.Plan.{ArePlaces}
use Rattle.extent_plan.specs.Drafts.{numbers_of, objects_in_all}
use Rattle.extent_plan.specs.Needed.{sum_below, has_leaf, pages_written, one_leaf, leaves_in, numbers_at, checkpoint_pages}
use Rattle.extent_plan.specs.Shared.{KeepsHeld}
use Rattle.extent_plan.proofs.Agrees.{same_key, other_key, find_behind}
use Rattle.extent_plan.proofs.Runs.{not_same}
use Rattle.extent_plan.proofs.Needs.{leaf_there, no_leaf}
use Rattle.extent_plan.proofs.Sharing.{not_later}

or_one : (a b : Bool) → b ≡ true → (a || b) ≡ true
or_one true b e = refl
or_one false b e = e

swapped : (a b : ℕ) → a + b ≡ b + a
swapped a b = omega arith

zero_and : (a : ℕ) → a ≡ 0 + a
zero_and a = omega arith

one_and : (a b : ℕ) → a ≡ b → 1 + a ≡ suc b
one_and a b same = omega (arith, same)

-- ---- sums of a function at the numbers below one

sums_alike : (n : ℕ) (f g : ℕ → ℕ) → ((k : ℕ) → k < n → f k ≡ g k) → sum_below n f ≡ sum_below n g
unfolding sum_below
sums_alike zero f g alike = refl
sums_alike (suc n) f g alike =
    ap₂ (λ (a b : ℕ). a + b) (sums_alike n f g (λ k low. alike k (omega (arith, low)))) (alike n (omega arith))

-- one is more at one number, and elsewhere they are alike
sum_and : (n at more : ℕ) (f g : ℕ → ℕ) → at < n → f at ≡ g at + more → ((k : ℕ) → k < n → k ≢ at → f k ≡ g k)
    → sum_below n f ≡ sum_below n g + more
unfolding sum_below
sum_and zero at more f g low here alike = absurd (omega (arith, low))
sum_and (suc n) at more f g low here alike = by (split at n (omega (arith, low)))
    (λ less. sum_and n at more f g less here (λ k below differ. alike k (omega (arith, below)) differ)) where
      split : (a b : ℕ) → a ≤ b → (a < b) ⊎ (a ≡ b)
      split a b most = search arith

      by : (at < n) ⊎ (at ≡ n) → (at < n → sum_below n f ≡ sum_below n g + more) → sum_below n f + f n ≡ sum_below n g + g n + more
      by (inl less) further =
          let last : f n ≡ g n = alike n (omega arith) (λ e. omega (arith, e, less)) in
          omega (arith, further less, last)
      by (inr same) further =
          let front = sums_alike n f g (λ k below. alike k (omega (arith, below)) (λ e. omega (arith, e, below, same))) in
          let last : f n ≡ g n + more = subst (λ (k : ℕ). f k ≡ g k + more) same here in
          omega (arith, front, last)

sum_none : (n : ℕ) (f : ℕ → ℕ) → ((k : ℕ) → k < n → f k ≡ 0) → sum_below n f ≡ 0
unfolding sum_below
sum_none zero f none = refl
sum_none (suc n) f none = omega (arith, sum_none n f (λ k low. none k (omega (arith, low))), none n (omega arith))

-- ---- pairs in the order of their numbers

parts_of : (a b : Bool) → T (a && b) → T a × T b
parts_of true b p = (tt, p)
parts_of false b p = absurd p

below_of : (a b : ℕ) (r : Ordering) → MatchOrdering r (a < b) (a ≡ b) (b < a) → T (is_lt r) → a < b
below_of a b Less rank p = rank
below_of a b Equal rank p = absurd p
below_of a b Greater rank p = absurd p

some_same : {X : Type 0} (x y : X) → Some x ≡ Some y → x ≡ y
some_same x y e = cc

module _ {X : Type 0} where
  -- the numbers rise
  abbrev pub Rise : List (ℕ × X) → Type 0
  Rise [] = Unit {0}
  Rise (e ∷ es) = AllByRecursion (λ (other : ℕ × X). e.0 < other.0) es × Rise es

  all_above : (name : ℕ) (es : List (ℕ × X)) → T (below_all nat_cmp name es) → AllByRecursion (λ (other : ℕ × X). name < other.0) es
  all_above name [] below = tt
  all_above name (e ∷ es) below =
      let parts = parts_of (is_lt (nat_cmp name e.0)) (below_all nat_cmp name es) below in
      (below_of name e.0 (nat_cmp name e.0) (ranks name e.0) parts.0, all_above name es parts.1)

  rise_of : (es : List (ℕ × X)) → T (is_sorted nat_cmp es) → Rise es
  rise_of [] sorted = tt
  rise_of (e ∷ es) sorted =
      let parts = parts_of (below_all nat_cmp e.0 es) (is_sorted nat_cmp es) sorted in
      (all_above e.0 es parts.0, rise_of es parts.1)

  entries_rise : (map : FinMap nat_cmp X) → Rise (entries map)
  entries_rise map = rise_of (entries map) (entries_sorted map)

  -- nothing stands among them at a number below all of theirs
  none_above : (name : ℕ) (es : List (ℕ × X)) → AllByRecursion (λ (other : ℕ × X). name < other.0) es → find nat_cmp name es ≡ None
  none_above name [] above = refl
  none_above name (e ∷ es) above =
      let less : name < e.0 = above.0 in
      ap (λ b. cond b (Some e.1) (find nat_cmp name es)) (other_key name e.0 (λ is. omega (arith, is, less)))
      ∙ none_above name es above.1

  pub found_first : (name : ℕ) (e : ℕ × X) (es : List (ℕ × X)) → name ≡ e.0 → find nat_cmp name (e ∷ es) ≡ Some e.1
  found_first name e es is = ap (λ b. cond b (Some e.1) (find nat_cmp name es)) (same_key name e.0 is)

  found_later : (name : ℕ) (e : ℕ × X) (es : List (ℕ × X)) → name ≢ e.0 → find nat_cmp name (e ∷ es) ≡ find nat_cmp name es
  found_later name e es differ = ap (λ b. cond b (Some e.1) (find nat_cmp name es)) (other_key name e.0 differ)

-- ---- the bytes of a leaf

-- how many bytes stand for what is at a name
abbrev pub size_at : ℕ → Option Object → ℕ
size_at name None = 0
size_at name (Some object) = changed_size (name, object)

spelled_size : (name : ℕ) (o : Option Object) → length (flat_map spelled_changed (stored_at name o)) ≡ size_at name o
spelled_size name None = refl
spelled_size name (Some object) = ap length (append-nil (spelled_changed (name, plain object)))
    ∙ length-append (eight_bytes name) (spelled_object (plain object))
    ∙ ap₂ (λ (a b : ℕ). a + b) (eight_long name) (object_long (plain object))

pub bytes_before : (image : Image) (leaf before : ℕ) → length (flat_map spelled_changed (objects_before image leaf before))
    ≡ sum_below before (λ place. size_at (name_in leaf place) (get image (name_in leaf place)))
unfolding objects_before sum_below
bytes_before image leaf zero = refl
bytes_before image leaf (suc before) =
    let name = name_in leaf before in
    ap length (flat_map-append spelled_changed (objects_before image leaf before) (stored_at name (get image name)))
    ∙ length-append (flat_map spelled_changed (objects_before image leaf before)) (flat_map spelled_changed (stored_at name (get image name)))
    ∙ ap₂ (λ (a b : ℕ). a + b) (bytes_before image leaf before) (spelled_size name (get image name))

abbrev Entries : Type 0
Entries = List (ℕ × Object)

abbrev size_in : ℕ → Entries → ℕ → ℕ
size_in leaf es place = size_at (name_in leaf place) (find nat_cmp (name_in leaf place) es)

sizes_in : (leaf : ℕ) (es : Entries) → Rise es
    → sum_below leaf_size (size_in leaf es) ≡ sum_by changed_size (filter (is_in_leaf leaf) es)
sizes_in leaf [] rise = sum_none leaf_size (size_in leaf []) (λ k low. refl)
sizes_in leaf (e ∷ es) rise = by (is_in_leaf leaf e) refl (sizes_in leaf es rise.1) where
  by : (b : Bool) → is_in_leaf leaf e ≡ b
      → sum_below leaf_size (size_in leaf es) ≡ sum_by changed_size (filter (is_in_leaf leaf) es)
      → sum_below leaf_size (size_in leaf (e ∷ es)) ≡ sum_by changed_size (cond b (e ∷ filter (is_in_leaf leaf) es) (filter (is_in_leaf leaf) es))
  by true is rest =
      let own : e.0 / 64 ≡ leaf = grind (arith, nat_tests, is) in
      let place : ℕ = e.0 - 64 * leaf in
      let name : name_in leaf place ≡ e.0 = omega (arith, own) in
      let there : find nat_cmp (name_in leaf place) (e ∷ es) ≡ Some e.1 = found_first (name_in leaf place) e es name in
      let none : find nat_cmp (name_in leaf place) es ≡ None =
      subst (λ (n : ℕ). find nat_cmp n es ≡ None) (sym name) (none_above e.0 es rise.0) in
      let here : size_in leaf (e ∷ es) place ≡ size_in leaf es place + changed_size e =
      ap (size_at (name_in leaf place)) there ∙ zero_and (changed_size e)
      ∙ sym (ap (λ (o : Option Object). size_at (name_in leaf place) o + changed_size e) none) in
      sum_and leaf_size place (changed_size e) (size_in leaf (e ∷ es)) (size_in leaf es) (omega (arith, own)) here
      (λ k low differ. ap (size_at (name_in leaf k)) (found_later (name_in leaf k) e es (λ same. differ (omega (arith, same)))))
      ∙ ap (λ (n : ℕ). n + changed_size e) rest ∙ swapped (sum_by changed_size (filter (is_in_leaf leaf) es)) (changed_size e)
      ∙ sym (sum_by-cons changed_size e (filter (is_in_leaf leaf) es))
  by false is rest =
      let other : e.0 / 64 ≢ leaf = λ own. absurd (false≢true (sym is ∙ eq-eqb (e.0 / 64) leaf own)) in
      sums_alike leaf_size (size_in leaf (e ∷ es)) (size_in leaf es)
      (λ k low. ap (size_at (name_in leaf k)) (found_later (name_in leaf k) e es (λ same. other (omega (arith, same, low)))))
      ∙ rest

-- a leaf is spelled by as many bytes as are counted over the entries
pub leaf_long : (image : Image) (leaf : ℕ) → length (spelled_leaf (leaf_objects image leaf)) ≡ recorded_size (entries image) leaf
leaf_long image leaf =
    let one : sum_below leaf_size (λ place. size_at (name_in leaf place) (get image (name_in leaf place))) ≡ sum_below leaf_size (size_in leaf (entries image)) =
    sums_alike leaf_size (λ place. size_at (name_in leaf place) (get image (name_in leaf place))) (size_in leaf (entries image))
    (λ k low. ap (size_at (name_in leaf k)) (get-entries image (name_in leaf k))) in
    ap suc (bytes_before image leaf leaf_size ∙ one ∙ sizes_in leaf (entries image) (entries_rise image))
    ∙ one_more (sum_by changed_size (filter (is_in_leaf leaf) (entries image))) where
      one_more : (n : ℕ) → suc n ≡ 1 + n
      one_more n = omega arith

-- ---- which leaves there are

abbrev leaf_pairs : Entries → List (ℕ × ℕ)
leaf_pairs es = map (λ (entry : ℕ × Object). (entry.0 / 64, entry.0)) es

same_test : (a b : ℕ) → (a == b) ≡ eq_by_cmp nat_cmp a b
same_test a b = by (a == b) refl where
  by : (t : Bool) → (a == b) ≡ t → t ≡ eq_by_cmp nat_cmp a b
  by true e = sym (same_key a b (grind (arith, nat_tests, e)))
  by false e = sym (other_key a b (λ is. absurd (false≢true (sym e ∙ eq-eqb a b is))))

one_is_any : (number : ℕ) (numbers : List ℕ) → is_one_of number numbers ≡ list_any (eq_by_cmp nat_cmp number) numbers
one_is_any number [] = refl
one_is_any number (other ∷ numbers) = ap₂ (λ (a b : Bool). a || b) (same_test number other) (one_is_any number numbers)

one_is_found : (leaf : ℕ) (es : Entries) → is_one_of leaf (leaves_of es) ≡ is_some (find nat_cmp leaf (leaf_pairs es))
one_is_found leaf es =
    one_is_any leaf (leaves_of es) ∙ sym (contains_key-keys (from_entries {R = nat_cmp} (leaf_pairs es)) leaf)
    ∙ ap is_some (get-from_entries nat_cmp_total (leaf_pairs es) leaf)

-- an object of the leaf
record StandsIn (leaf : ℕ) (es : Entries) : Type 0 where
  name : ℕ
  object : Object
  there : find nat_cmp name es ≡ Some object
  own : name / 64 ≡ leaf

some_in : (leaf : ℕ) (es : Entries) → is_some (find nat_cmp leaf (leaf_pairs es)) ≡ true → StandsIn leaf es
some_in leaf [] some = absurd (false≢true some)
some_in leaf (e ∷ es) some = by (eqb leaf (e.0 / 64)) refl (some_in leaf es) where
  by : (b : Bool) → eqb leaf (e.0 / 64) ≡ b → (is_some (find nat_cmp leaf (leaf_pairs es)) ≡ true → StandsIn leaf es)
      → StandsIn leaf (e ∷ es)
  by true is further = record {
    name = e.0;
    object = e.1;
    there = found_first e.0 e es refl;
    own = grind (arith, nat_tests, is);
  }
  by false is further =
      let other : leaf ≢ e.0 / 64 = λ own. absurd (false≢true (sym is ∙ eq-eqb leaf (e.0 / 64) own)) in
      let behind = further (sym (ap is_some (found_later leaf (e.0 / 64, e.0) (leaf_pairs es) other)) ∙ some) in
      record {
        name = behind.name;
        object = behind.object;
        there = found_later behind.name e es (λ same. other (sym behind.own ∙ ap (λ (n : ℕ). n / 64) same)) ∙ behind.there;
        own = behind.own;
      }

none_in : (leaf : ℕ) (es : Entries) → is_some (find nat_cmp leaf (leaf_pairs es)) ≡ false → (name : ℕ) → name / 64 ≡ leaf
    → find nat_cmp name es ≡ None
none_in leaf [] none name own = refl
none_in leaf (e ∷ es) none name own = by (eqb leaf (e.0 / 64)) refl (none_in leaf es) where
  by : (b : Bool) → eqb leaf (e.0 / 64) ≡ b
      → (is_some (find nat_cmp leaf (leaf_pairs es)) ≡ false → (name : ℕ) → name / 64 ≡ leaf → find nat_cmp name es ≡ None)
      → find nat_cmp name (e ∷ es) ≡ None
  by true is further =
      let same : leaf ≡ e.0 / 64 = grind (arith, nat_tests, is) in
      absurd (false≢true (sym none ∙ ap is_some (found_first leaf (e.0 / 64, e.0) (leaf_pairs es) same)))
  by false is further =
      let other : leaf ≢ e.0 / 64 = λ it. absurd (false≢true (sym is ∙ eq-eqb leaf (e.0 / 64) it)) in
      found_later name e es (λ same. other (sym own ∙ ap (λ (n : ℕ). n / 64) same))
      ∙ further (sym (ap is_some (found_later leaf (e.0 / 64, e.0) (leaf_pairs es) other)) ∙ none) name own

pub has_is_one : (image : Image) (leaf : ℕ) → has_leaf image leaf ≡ is_one_of leaf (leaves_of (entries image))
has_is_one image leaf = by (is_some (find nat_cmp leaf (leaf_pairs (entries image)))) refl ∙ sym (one_is_found leaf (entries image)) where
  by : (b : Bool) → is_some (find nat_cmp leaf (leaf_pairs (entries image))) ≡ b → has_leaf image leaf ≡ is_some (find nat_cmp leaf (leaf_pairs (entries image)))
  by true is =
      let one = some_in leaf (entries image) is in
      leaf_there image one.name leaf one.object (get-entries image one.name ∙ one.there) (sym one.own) ∙ sym is
  by false is = no_leaf image leaf (λ name own. get-entries image name ∙ none_in leaf (entries image) is name own) ∙ sym is

-- ---- which of them have changed

and_true : (a b : Bool) → (a && b) ≡ true → (a ≡ true) × (b ≡ true)
and_true true b e = (refl, e)
and_true false b e = absurd (false≢true e)

neither : (a b : Bool) → (a || b) ≡ false → (a ≡ false) × (b ≡ false)
neither true b e = absurd (false≢true (sym e))
neither false b e = (refl, e)

-- an object of the leaf that was changed after the commit of this number
record IsStaleBy (since leaf : ℕ) (es : Entries) : Type 0 where
  at : StandsIn leaf es
  later : nat_lt since at.object.changed ≡ true

stale_there : (since leaf : ℕ) (es : Entries) → Rise es → is_stale since es leaf ≡ true → IsStaleBy since leaf es
stale_there since leaf [] rise stale = absurd (false≢true stale)
stale_there since leaf (e ∷ es) rise stale = by (is_in_leaf leaf e && nat_lt since e.1.changed) refl stale (stale_there since leaf es rise.1) where
  by : (b : Bool) → (is_in_leaf leaf e && nat_lt since e.1.changed) ≡ b → (b || is_stale since es leaf) ≡ true
      → (is_stale since es leaf ≡ true → IsStaleBy since leaf es) → IsStaleBy since leaf (e ∷ es)
  by true is stale further =
      let parts = and_true (is_in_leaf leaf e) (nat_lt since e.1.changed) is in
      let test : (e.0 / 64 == leaf) ≡ true = parts.0 in
      record {
        at = record {
          name = e.0;
          object = e.1;
          there = found_first e.0 e es refl;
          own = grind (arith, nat_tests, test);
        };
        later = parts.1;
      }
  by false is stale further =
      let behind = further stale in
      let none : behind.at.name ≢ e.0 = λ same.
      false≢true (ap is_some (sym (subst (λ (n : ℕ). find nat_cmp n es ≡ None) (sym same) (none_above e.0 es rise.0)) ∙ behind.at.there)) in
      record {
        at = record {
          name = behind.at.name;
          object = behind.at.object;
          there = found_later behind.at.name e es none ∙ behind.at.there;
          own = behind.at.own;
        };
        later = behind.later;
      }

stale_none : (since leaf : ℕ) (es : Entries) → is_stale since es leaf ≡ false → (name : ℕ) (object : Object)
    → find nat_cmp name es ≡ Some object → name / 64 ≡ leaf → nat_lt since object.changed ≡ false
stale_none since leaf [] none name object there own = absurd (false≢true (ap is_some there))
stale_none since leaf (e ∷ es) none name object there own = by (eqb name e.0) refl (stale_none since leaf es) where
  parts : ((e.0 / 64 == leaf) && nat_lt since e.1.changed ≡ false) × (is_stale since es leaf ≡ false)
  parts = neither (is_in_leaf leaf e && nat_lt since e.1.changed) (is_stale since es leaf) none

  by : (b : Bool) → eqb name e.0 ≡ b
      → (is_stale since es leaf ≡ false → (name : ℕ) (object : Object) → find nat_cmp name es ≡ Some object → name / 64 ≡ leaf → nat_lt since object.changed ≡ false)
      → nat_lt since object.changed ≡ false
  by true is further =
      let same : name ≡ e.0 = grind (arith, nat_tests, is) in
      let it : e.1 ≡ object = some_same e.1 object (sym (found_first name e es same) ∙ there) in
      let test : (e.0 / 64 == leaf) ≡ true = eq-eqb (e.0 / 64) leaf (sym (ap (λ (n : ℕ). n / 64) same) ∙ own) in
      subst (λ (o : Object). nat_lt since o.changed ≡ false) it (sym (ap (λ b. b && nat_lt since e.1.changed) test) ∙ parts.0)
  by false is further =
      let other : name ≢ e.0 = λ same. absurd (false≢true (sym is ∙ eq-eqb name e.0 same)) in
      further parts.1 name object (sym (found_later name e es other) ∙ there) own

pub later_none : (image : Image) (since leaf before : ℕ)
    → ((place : ℕ) → place < before → is_later since (get image (name_in leaf place)) ≡ false) → later_before image since leaf before ≡ false
unfolding later_before
later_none image since leaf zero none = refl
later_none image since leaf (suc before) none =
    ap₂ (λ (a b : Bool). a || b) (later_none image since leaf before (λ place low. none place (omega (arith, low)))) (none before (omega arith))

stale_is_changed : (image : Image) (since leaf : ℕ) → is_stale since (entries image) leaf ≡ is_changed image since leaf
stale_is_changed image since leaf = by (is_stale since (entries image) leaf) refl (is_changed image since leaf) refl where
  at : (place : ℕ) (o : Option Object) → get image (name_in leaf place) ≡ o → place < leaf_size → is_stale since (entries image) leaf ≡ false → is_later since o ≡ false
  at place None is low none = refl
  at place (Some object) is low none =
      stale_none since leaf (entries image) none (name_in leaf place) object (sym (get-entries image (name_in leaf place)) ∙ is) (omega (arith, low))

  by : (b : Bool) → is_stale since (entries image) leaf ≡ b → (c : Bool) → is_changed image since leaf ≡ c → is_stale since (entries image) leaf ≡ is_changed image since leaf
  by true is true changed = is ∙ sym changed
  by true is false changed =
      let stale = stale_there since leaf (entries image) (entries_rise image) is in
      let place : ℕ = stale.at.name - 64 * leaf in
      let own : stale.at.name / 64 ≡ leaf = stale.at.own in
      let name : name_in leaf place ≡ stale.at.name = omega (arith, own) in
      let not_now : is_later since (get image stale.at.name) ≡ false =
      subst (λ (n : ℕ). is_later since (get image n) ≡ false) name (not_later image since leaf leaf_size place (omega (arith, own)) changed) in
      let there : get image stale.at.name ≡ Some stale.at.object = get-entries image stale.at.name ∙ stale.at.there in
      absurd (false≢true (sym not_now ∙ ap (is_later since) there ∙ stale.later))
  by false is c changed = is ∙ sym (later_none image since leaf leaf_size (λ place low. at place (get image (name_in leaf place)) refl low is))

-- ---- sums over numbers in a list

abbrev AreApart : List ℕ → Type 0
AreApart [] = Unit {0}
AreApart (number ∷ numbers) = (is_one_of number numbers ≡ false) × AreApart numbers

below_none : {X : Type 0} (number : ℕ) (es : List (ℕ × X)) → AllByRecursion (λ (other : ℕ × X). number < other.0) es
    → is_one_of number (map (λ (e : ℕ × X). e.0) es) ≡ false
below_none number [] above = refl
below_none {X} number (e ∷ es) above =
    let less : number < e.0 = above.0 in
    ap₂ (λ (a b : Bool). a || b) (not_same number e.0 (λ same. omega (arith, same, less))) (below_none number es above.1)

rise_apart : {X : Type 0} (es : List (ℕ × X)) → Rise es → AreApart (map (λ (e : ℕ × X). e.0) es)
rise_apart [] rise = tt
rise_apart {X} (e ∷ es) rise = (below_none e.0 es rise.0, rise_apart es rise.1)

each_of : (P : ℕ → Type 0) (numbers : List ℕ) → ((number : ℕ) → is_one_of number numbers ≡ true → P number) → AllByRecursion P numbers
each_of P [] each = tt
each_of P (first ∷ numbers) each = (
  each first (ap (λ b. b || is_one_of first numbers) (eq-eqb first first refl)),
  each_of P numbers (λ number one. each number (or_one (number == first) (is_one_of number numbers) one)),
)

abbrev at_these : (ℕ → ℕ) → List ℕ → ℕ → ℕ
at_these f numbers number = cond (is_one_of number numbers) (f number) 0

sum_listed : (n : ℕ) (f : ℕ → ℕ) (numbers : List ℕ) → AreApart numbers → AllByRecursion (λ number. number < n) numbers
    → sum_below n (at_these f numbers) ≡ sum_by f numbers
sum_listed n f [] apart low = sum_none n (at_these f []) (λ k below. refl)
sum_listed n f (number ∷ numbers) apart low =
    sum_and n number (f number) (at_these f (number ∷ numbers)) (at_these f numbers) low.0 here
    (λ k below differ. ap (λ b. cond (b || is_one_of k numbers) (f k) 0) (not_same k number differ))
    ∙ ap (λ (x : ℕ). x + f number) (sum_listed n f numbers apart.1 low.1) ∙ swapped (sum_by f numbers) (f number)
    ∙ sym (sum_by-cons f number numbers) where
      here : at_these f (number ∷ numbers) number ≡ at_these f numbers number + f number
      here = ap (λ b. cond (b || is_one_of number numbers) (f number) 0) (eq-eqb number number refl)
          ∙ zero_and (f number) ∙ sym (ap (λ b. cond b (f number) 0 + f number) apart.0)

sum_filtered : (f : ℕ → ℕ) (test : ℕ → Bool) (numbers : List ℕ)
    → sum_by f (filter test numbers) ≡ sum_by (λ number. cond (test number) (f number) 0) numbers
sum_filtered f test [] = refl
sum_filtered f test (number ∷ numbers) = by (test number) (sum_filtered f test numbers)
    ∙ sym (sum_by-cons (λ k. cond (test k) (f k) 0) number numbers) where
      rest : ℕ
      rest = sum_by (λ k. cond (test k) (f k) 0) numbers

      by : (b : Bool) → sum_by f (filter test numbers) ≡ rest
          → sum_by f (cond b (number ∷ filter test numbers) (filter test numbers)) ≡ cond b (f number) 0 + rest
      by true same = sum_by-cons f number (filter test numbers) ∙ ap (λ (x : ℕ). f number + x) same
      by false same = same ∙ zero_and rest

sum_ones : (numbers : List ℕ) → sum_by (λ number. 1) numbers ≡ length numbers
sum_ones [] = refl
sum_ones (number ∷ numbers) = sum_by-cons (λ number. 1) number numbers
    ∙ one_and (sum_by (λ number. 1) numbers) (length numbers) (sum_ones numbers)

-- ---- all leaves of an image

module _ (image : Image) (named : AreNamed image) where
  abbrev all_leaves : List ℕ
  all_leaves = leaves_of (entries image)

  leaf_low : (leaf : ℕ) → is_one_of leaf all_leaves ≡ true → leaf < 2 ^ 42
  leaf_low leaf one = by (split name (2 ^ 48)) where
    stands : StandsIn leaf (entries image)
    stands = some_in leaf (entries image) (sym (one_is_found leaf (entries image)) ∙ one)

    name : ℕ
    name = stands.name

    split : (a b : ℕ) → (a < b) ⊎ (b ≤ a)
    split a b = search arith

    by : (name < 2 ^ 48) ⊎ (2 ^ 48 ≤ name) → leaf < 2 ^ 42
    by (inl low) = let own : name / 64 ≡ leaf = stands.own in omega (arith, low, own)
    by (inr high) = absurd (false≢true (ap is_some (sym (named name high) ∙ get-entries image name ∙ stands.there)))

  over_leaves : (f : ℕ → ℕ) → sum_below (2 ^ 42) (at_these f all_leaves) ≡ sum_by f all_leaves
  over_leaves f = sum_listed (2 ^ 42) f all_leaves (rise_apart (entries pairs) (entries_rise pairs)) (each_of (λ leaf. leaf < 2 ^ 42) all_leaves leaf_low) where
    pairs : FinMap nat_cmp ℕ
    pairs = from_entries (leaf_pairs (entries image))

  leaves_many : length all_leaves ≡ leaves_in image
  leaves_many = sym (sum_ones all_leaves) ∙ sym (over_leaves (λ number. 1))
      ∙ sums_alike (2 ^ 42) (at_these (λ number. 1) all_leaves) (one_leaf image) (λ leaf low. ap (λ b. cond b 1 0) (sym (has_is_one image leaf)))

  size_same : (leaf : ℕ) → chain_pages (recorded_size (entries image) leaf) ≡ pages_filled (length (spelled_leaf (leaf_objects image leaf)))
  size_same leaf = ap pages_filled (sym (leaf_long image leaf))

  pub directory_same : chain_pages (directory_size (entries image)) ≡ pages_filled (4 + 12 * leaves_in image)
  directory_same = ap (λ (n : ℕ). pages_filled (4 + 12 * n)) leaves_many

  -- ---- all of them are written

  first_written : (since leaf : ℕ) → at_these (λ leaf. chain_pages (recorded_size (entries image) leaf)) all_leaves leaf ≡ pages_written image since [] leaf
  first_written since leaf =
      ap (λ b. cond b (chain_pages (recorded_size (entries image) leaf)) 0) (sym (has_is_one image leaf))
      ∙ ap (λ (n : ℕ). cond (has_leaf image leaf) n 0) (size_same leaf) ∙ by (has_leaf image leaf) where
        size : ℕ
        size = pages_filled (length (spelled_leaf (leaf_objects image leaf)))

        by : (b : Bool) → cond b size 0 ≡ cond (b && true) size 0
        by true = refl
        by false = refl

  pub first_counted : (since : ℕ) → checkpoint_pages image since [] [] ≡ pages_over None (entries image)
  first_counted since = total (sym (over_leaves (λ leaf. chain_pages (recorded_size (entries image) leaf)))
      ∙ sums_alike (2 ^ 42) (at_these (λ leaf. chain_pages (recorded_size (entries image) leaf)) all_leaves) (pages_written image since []) (λ leaf low. first_written since leaf))
      directory_same where
        total : {a b c d : ℕ} → a ≡ b → c ≡ d → 3 + 0 + (d + b) ≡ 3 + (a + c)
        total one two = omega (arith, one, two)

  -- ---- those that have changed are written

  module _ (since : ℕ) (numbers : List ℕ)
      (held : (leaf : ℕ) → has_leaf image leaf ≡ true → is_changed image since leaf ≡ false → is_one_of leaf numbers ≡ true) where
    abbrev stale_size : ℕ → ℕ
    stale_size leaf = cond (is_stale since (entries image) leaf) (chain_pages (recorded_size (entries image) leaf)) 0

    later_written : (leaf : ℕ) → at_these stale_size all_leaves leaf ≡ pages_written image since numbers leaf
    later_written leaf =
        ap (λ b. cond b (stale_size leaf) 0) (sym (has_is_one image leaf))
        ∙ ap (λ b. cond (has_leaf image leaf) (cond b (chain_pages (recorded_size (entries image) leaf)) 0) 0) (stale_is_changed image since leaf)
        ∙ ap (λ (n : ℕ). cond (has_leaf image leaf) (cond (is_changed image since leaf) n 0) 0) (size_same leaf)
        ∙ by (has_leaf image leaf) (is_changed image since leaf) (is_one_of leaf numbers) (held leaf) where
          size : ℕ
          size = pages_filled (length (spelled_leaf (leaf_objects image leaf)))

          by : (has changed one : Bool) → (has ≡ true → changed ≡ false → one ≡ true)
              → cond has (cond changed size 0) 0 ≡ cond (has && not (one && not changed)) size 0
          by true true true known = refl
          by true true false known = refl
          by true false true known = refl
          by true false false known = absurd (false≢true (known refl refl))
          by false changed one known = refl

    pub later_total : sum_by (λ leaf. chain_pages (recorded_size (entries image) leaf)) (filter (is_stale since (entries image)) all_leaves)
        ≡ sum_below (2 ^ 42) (pages_written image since numbers)
    later_total = sum_filtered (λ leaf. chain_pages (recorded_size (entries image) leaf)) (is_stale since (entries image)) all_leaves
        ∙ sym (over_leaves stale_size)
        ∙ sums_alike (2 ^ 42) (at_these stale_size all_leaves) (pages_written image since numbers) (λ leaf low. later_written leaf)

-- ---- leaves that stay

names_among : (name : ℕ) (leaf : ℕ) (objects : Entries) (object : Object) → AllByRecursion (IsOfLeaf leaf) objects
    → find nat_cmp name objects ≡ Some object → name / 64 ≡ leaf
names_among name leaf [] object all there = absurd (false≢true (ap is_some there))
names_among name leaf (e ∷ es) object all there = by (eqb name e.0) refl (names_among name leaf es object) where
  by : (b : Bool) → eqb name e.0 ≡ b
      → (AllByRecursion (IsOfLeaf leaf) es → find nat_cmp name es ≡ Some object → name / 64 ≡ leaf) → name / 64 ≡ leaf
  by true is further =
      let same : name ≡ e.0 = grind (arith, nat_tests, is) in
      ap (λ (n : ℕ). n / 64) same ∙ all.0.1
  by false is further =
      let other : name ≢ e.0 = λ same. absurd (false≢true (sym is ∙ eq-eqb name e.0 same)) in
      further all.1 (sym (found_later name e es other) ∙ there)

is_numbered : (name : ℕ) (leaves : List Leaf) (object : Object) → AllByRecursion IsStoredLeaf leaves
    → find nat_cmp name (objects_in_all leaves) ≡ Some object → is_one_of (name / 64) (numbers_of leaves) ≡ true
is_numbered name [] object all there = absurd (false≢true (ap is_some there))
is_numbered name (leaf ∷ leaves) object all there = by (find nat_cmp name leaf.objects) refl (is_numbered name leaves object) where
  by : (o : Option Object) → find nat_cmp name leaf.objects ≡ o
      → (AllByRecursion IsStoredLeaf leaves → find nat_cmp name (objects_in_all leaves) ≡ Some object → is_one_of (name / 64) (numbers_of leaves) ≡ true)
      → ((name / 64 == leaf.number) || is_one_of (name / 64) (numbers_of leaves)) ≡ true
  by None is further = or_one (name / 64 == leaf.number) (is_one_of (name / 64) (numbers_of leaves))
      (further all.1 (sym (find_behind name leaf.objects (objects_in_all leaves) is) ∙ there))
  by (Some own) is further =
      let it = names_among name leaf.number leaf.objects own (recursion_from_All (IsOfLeaf leaf.number) leaf.objects all.0.are.each) is in
      ap (λ b. b || is_one_of (name / 64) (numbers_of leaves)) (eq-eqb (name / 64) leaf.number it)

pub numbers_placed : (places : List LeafPlace) (leaves : List Leaf) → ArePlaces places leaves → numbers_at places ≡ numbers_of leaves
numbers_placed [] [] are = refl
numbers_placed [] (leaf ∷ leaves) are = absurd are
numbers_placed (place ∷ places) [] are = absurd are
numbers_placed (place ∷ places) (leaf ∷ leaves) (one, are) =
    ap₂ (λ (n : ℕ) (l : List ℕ). n ∷ l) one.number (numbers_placed places leaves are)

module _ (image : Image) (since : ℕ) (old : List Leaf) (stored : AreStored old)
    (keeps : KeepsHeld image (from_entries (objects_in_all old)) since) where
  pub leaf_held : (leaf : ℕ) → has_leaf image leaf ≡ true → is_changed image since leaf ≡ false → is_one_of leaf (numbers_of old) ≡ true
  leaf_held leaf has unchanged = by (find nat_cmp name (objects_in_all old)) refl where
    stands : StandsIn leaf (entries image)
    stands = some_in leaf (entries image) (sym (one_is_found leaf (entries image)) ∙ sym (has_is_one image leaf) ∙ has)

    name : ℕ
    name = stands.name

    place : ℕ
    place = name - 64 * leaf

    there : get image name ≡ Some stands.object
    there = get-entries image name ∙ stands.there

    not_changed : nat_lt since stands.object.changed ≡ false
    not_changed =
        let own : name / 64 ≡ leaf = stands.own in
        let is : name_in leaf place ≡ name = omega (arith, own) in
        sym (ap (is_later since) there)
        ∙ subst (λ (n : ℕ). is_later since (get image n) ≡ false) is (not_later image since leaf leaf_size place (omega (arith, own)) unchanged)

    same : objects_in image name ≡ option_map contents_of (find nat_cmp name (objects_in_all old))
    same =
        let before : stands.object.changed ≤ since = grind (arith, nat_tests, not_changed) in
        keeps.unchanged name stands.object there before
        ∙ ap (option_map contents_of) (get-from_entries nat_cmp_total (objects_in_all old) name)

    by : (o : Option Object) → find nat_cmp name (objects_in_all old) ≡ o → is_one_of leaf (numbers_of old) ≡ true
    by None is = absurd (false≢true (sym (ap is_some (same ∙ ap (option_map contents_of) is)) ∙ ap is_some (ap (option_map contents_of) there)))
    by (Some object) is = subst (λ (n : ℕ). is_one_of n (numbers_of old) ≡ true) stands.own (is_numbered name old object stored.each is)

  pub later_counted : AreNamed image → (used : List ℕ) (places : List LeafPlace) (pages : ℕ) → ArePlaces places old → length used ≡ pages
      → checkpoint_pages image since used places ≡ pages_over (Some (record { number = since; pages = pages })) (entries image)
  later_counted named used places pages are many = total many
      (later_total image named since (numbers_at places)
      (λ leaf has unchanged. subst (λ (l : List ℕ). is_one_of leaf l ≡ true) (sym (numbers_placed places old are)) (leaf_held leaf has unchanged)))
      (directory_same image named) where
        total : {u p a b c d : ℕ} → u ≡ p → a ≡ b → c ≡ d → 3 + u + (d + b) ≡ 3 + (p + (a + c))
        total one two three = omega (arith, one, two, three)
