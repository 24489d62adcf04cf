-- How many pages a checkpoint of objects takes that stand in one leaf and that no commit has changed.
use Rattle.std.proofs.Common.{◌≡◌, ◌∙◌, ℕ, ◌+◌, ◌<◌, ◌≤◌, ◌&&◌, ◌||◌, ◌⊎◌, inl, inr, Bool, true, false, cond, T, nat_lt, List, [], ◌∷◌, map, length, Option, Some, None, IfSome, is_some, Ordering, refl, sym, ap, ap₂, subst, arith}
use Rattle.std.specs.declared.cmp.Ordering.TheVariants.{Less, Equal, Greater}
use Rattle.std.specs.Ordering.{nat_cmp, is_eq, is_lt, eq_by_cmp}
use Rattle.std.specs.Cmp.{nat_cmp_total, tied_itself}
use Rattle.std.specs.List.{filter, list_any, AllByRecursion}
use Rattle.std.specs.FinMap.{find, get, entries, keys, len, empty, insert, contains_key, from_entries, get-entries, get-from_entries, entries_sorted, len-empty, len-insert, len-entries}
use Rattle.std.specs.FinMap.Entries.{below_all, is_sorted}
use Rattle.std.proofs.lemmas.Bool.{false≢true, cases_lt}
use Rattle.std.proofs.lemmas.List.{length-map}
use Rattle.std.proofs.lemmas.Map.Lookups.{exact_unsigned}
use Rattle.std.proofs.lemmas.Option.{none-some}
use Rattle.gem_object.specs.declared.object.Object.{Object}
use Rattle.gem_record.specs.gem_image.Image.{Image}
use Rattle.gem_record.specs.radix_pages.Next.{IsNext, NoneBetween}
use Rattle.gem_record.specs.Stored.{Root, Stored, leaf_of, is_in_leaf, is_stale, leaves_of, directory_size, chain_pages, pages_with, pages_over, pages_needed}
use Rattle.sessions_tests.specs.Crowded.{crowded, large_root, IsPlain, ArePlain}

-- ---- the entries of an image

parts_of : (a b : Bool) → T (a && b) → T a × T b
parts_of true b both = (tt, both)
parts_of false b both = absurd both

apart : (r : Ordering) → T (is_lt r) → is_eq r ≡ false
apart Less below = refl
apart Equal below = absurd below
apart Greater below = absurd below

equal : (r : Ordering) → is_eq r ≡ true → r ≡ Equal
equal Less is = absurd (false≢true is)
equal Equal is = refl
equal Greater is = absurd (false≢true is)

absent : (name : ℕ) (es : List (ℕ × Object)) → T (below_all nat_cmp name es) → find nat_cmp name es ≡ None
absent name [] below = refl
absent name (e ∷ es) below =
    let both = parts_of (is_lt (nat_cmp name e.0)) (below_all nat_cmp name es) below in
    ap (λ b. cond b (Some e.1) (find nat_cmp name es)) (apart (nat_cmp name e.0) both.0) ∙ absent name es both.1

abbrev IsPlainEntry : ℕ × Object → Type 0
IsPlainEntry entry = IsPlain entry.0 entry.1

-- what is found is so, and so all that is listed is
entries_plain : (es : List (ℕ × Object)) → T (is_sorted nat_cmp es)
    → ((name : ℕ) (object : Object) → find nat_cmp name es ≡ Some object → IsPlain name object)
    → AllByRecursion IsPlainEntry es
entries_plain [] sorted all = tt
entries_plain (e ∷ es) sorted all = (
  all e.0 e.1 (ap (λ r. cond (is_eq r) (Some e.1) (find nat_cmp e.0 es)) (tied_itself nat_cmp_total e.0)),
  entries_plain es both.1 (λ name object found. past (eq_by_cmp nat_cmp name e.0) name object refl found),
)
  where
    both : T (below_all nat_cmp e.0 es) × T (is_sorted nat_cmp es)
    both = parts_of (below_all nat_cmp e.0 es) (is_sorted nat_cmp es) sorted

    here : (name : ℕ) → eq_by_cmp nat_cmp name e.0 ≡ true → e.0 ≡ name
    here name is = sym (exact_unsigned name e.0 (equal (nat_cmp name e.0) is))

    past : (b : Bool) (name : ℕ) (object : Object) → eq_by_cmp nat_cmp name e.0 ≡ b
        → find nat_cmp name es ≡ Some object → IsPlain name object
    past false name object is found = all name object
        (ap (λ b. cond b (Some e.1) (find nat_cmp name es)) is ∙ found)
    past true name object is found =
        absurd (none-some object (sym (absent name es (subst (λ n. T (below_all nat_cmp n es)) (here name is) both.0)) ∙ found))

found_plain : (image : Image) → ArePlain image → (name : ℕ) (object : Object)
    → find nat_cmp name (entries image) ≡ Some object → IsPlain name object
found_plain image plain name object found =
    subst (λ o. IfSome o (IsPlain name)) (get-entries image name ∙ found) (plain name)

all_plain : (image : Image) → ArePlain image → AllByRecursion IsPlainEntry (entries image)
all_plain image plain = entries_plain (entries image) (entries_sorted image) (found_plain image plain)

-- ---- the entries, one after another

-- the objects with names below this one are so
abbrev pub AreBelow : Image → ℕ → Type 0
AreBelow image next = (name : ℕ) → name < next → IfSome (get image name) (IsPlain name)

module _ (image : Image) (next : ℕ) (below : AreBelow image next) where
  nothing : (name : ℕ) → get image name ≡ None → IfSome (get image name) (IsPlain name)
  nothing name none = subst (λ o. IfSome o (IsPlain name)) (sym none) tt

  -- with the next one, all up to that are
  pub up_to : (at : ℕ) (object : Object) → get image at ≡ Some object → NoneBetween (get image) next at
      → IsPlain at object → AreBelow image (at + 1)
  up_to at object found between plain name to = elim (cases_lt name next) [
    | inl before ↦ below name before
    | inr after ↦ elim (cases_lt name at) [
      | inl less ↦ nothing name (between name (omega (arith, after)) less)
      | inr more ↦ subst (λ n. IfSome (get image n) (IsPlain n)) (omega (arith, to, more))
          (subst (λ o. IfSome o (IsPlain at)) (sym found) plain)
    ]
  ]

  -- where there is none left all are
  pub all_passed : IsNext image next None → ArePlain image
  all_passed none name = elim (cases_lt name next) [
    | inl before ↦ below name before
    | inr after ↦ nothing name (none name (omega (arith, after)))
  ]

-- ---- no leaf has changed

unchanged : (b : Bool) (n : ℕ) → n ≡ 0 → (b && nat_lt 0 n) ≡ false
unchanged true n is = ap (nat_lt 0) is
unchanged false n is = refl

none_stale : (leaf : ℕ) (es : List (ℕ × Object)) → AllByRecursion IsPlainEntry es → is_stale 0 es leaf ≡ false
none_stale leaf [] all = refl
none_stale leaf (e ∷ es) all =
    ap (λ b. b || is_stale 0 es leaf) (unchanged (is_in_leaf leaf e) e.1.changed all.0.1)
    ∙ none_stale leaf es all.1

nothing_left : (test : ℕ → Bool) (xs : List ℕ) → ((x : ℕ) → test x ≡ false) → filter test xs ≡ []
nothing_left test [] none = refl
nothing_left test (x ∷ xs) none =
    ap (λ b. cond b (x ∷ filter test xs) (filter test xs)) (none x) ∙ nothing_left test xs none

-- ---- there is one leaf at most

abbrev leafed : ℕ × Object → ℕ × ℕ
leafed entry = (leaf_of entry.0, entry.0)

abbrev IsFirst : ℕ × ℕ → Type 0
IsFirst entry = entry.0 ≡ 0

in_first : (es : List (ℕ × Object)) → AllByRecursion IsPlainEntry es → AllByRecursion IsFirst (map leafed es)
in_first [] all = tt
in_first (e ∷ es) all = (let below = all.0.0 in omega (arith, below), in_first es all.1)

one_more : (b : Bool) (n : ℕ) → n ≡ 0 → cond b n (n + 1) ≤ 1
one_more true n is = omega (arith, is)
one_more false n is = omega (arith, is)

few_keys : (es : List (ℕ × ℕ)) → AllByRecursion IsFirst es → len (from_entries {R = nat_cmp} es) ≤ 1
few_keys [] all = let none = len-empty nat_cmp ℕ in omega (arith, none)
few_keys (e ∷ []) all =
    let is = len-insert nat_cmp_total (empty {R = nat_cmp}) e.0 e.1 in
    let most = one_more (contains_key (empty {X = ℕ} {R = nat_cmp}) e.0) (len (empty {X = ℕ} {R = nat_cmp})) (len-empty nat_cmp ℕ) in
    omega (arith, is, most)
few_keys (e ∷ (f ∷ es)) all =
    let more = from_entries {R = nat_cmp} (f ∷ es) in
    let tied : eq_by_cmp nat_cmp e.0 f.0 ≡ true = ap₂ (λ a b. eq_by_cmp nat_cmp a b) all.0 all.1.0 in
    let there : contains_key more e.0 ≡ true = ap is_some (get-from_entries nat_cmp_total (f ∷ es) e.0)
    ∙ ap (λ b. is_some (cond b (Some f.1) (find nat_cmp e.0 es))) tied in
    let is = len-insert nat_cmp_total more e.0 e.1 ∙ ap (λ b. cond b (len more) (len more + 1)) there in
    let most = few_keys (f ∷ es) all.1 in
    omega (arith, is, most)

one_leaf : (es : List (ℕ × Object)) → AllByRecursion IsPlainEntry es → length (leaves_of es) ≤ 1
one_leaf es all =
    let leaves = from_entries {R = nat_cmp} (map leafed es) in
    let few = few_keys (map leafed es) (in_first es all) in
    let count = len-entries leaves in
    let same = length-map (entries leaves) (λ e. e.0) in
    omega (arith, few, count, same)

-- ---- the pages

pages_over_plain : (root : Root) (es : List (ℕ × Object)) → root.number ≡ 0 → AllByRecursion IsPlainEntry es
    → pages_over (Some root) es ≡ 4 + root.pages
pages_over_plain root es first all =
    let none : filter (is_stale root.number es) (leaves_of es) ≡ [] =
    nothing_left (is_stale root.number es) (leaves_of es)
    (λ leaf. ap (λ n. is_stale n es leaf) first ∙ none_stale leaf es all) in
    let few = one_leaf es all in
    let directory : chain_pages (directory_size es) ≡ 1 = omega (arith, few) in
    ap (λ leaves. 3 + (root.pages + pages_with es leaves)) none ∙ omega (arith, directory)

-- a checkpoint of such objects has one page more than there may be
one_too_many : (length : ℕ) (image : Image) → ArePlain image
    → pages_needed true (crowded length) image ≡ 262145
unfolding pages_needed
one_too_many length image plain = pages_over_plain large_root (entries image) refl (all_plain image plain)

pub is_counted : (length : ℕ) (image : Image) → ArePlain image
    → 262145 ≡ pages_needed true (crowded length) image
is_counted length image plain = sym (one_too_many length image plain)

pub is_over : (length : ℕ) (image : Image) → ArePlain image
    → 262144 < pages_needed true (crowded length) image
is_over length image plain = let is = one_too_many length image plain in omega (arith, is)
