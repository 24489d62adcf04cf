-- Leaves and extents that are read part by part.
use Rattle.std.proofs.Common.{◌≡◌, ℕ, ◌*◌, ◌<◌, ◌≤◌, ◌^◌, Bool, true, false, cond, List, [], ◌∷◌, ◌++◌, length, map, get_or, Some, None, Result, Ok, Err, refl, sym, ap, subst, ◌∙◌, append_assoc, append-nil, arith}
use Rattle.std.specs.List.{AllByRecursion}
use Rattle.std.specs.List.Sorted.{IsStrictlySortedBy}
use Rattle.std.specs.Ordering.{nat_cmp}
use Rattle.std.proofs.lemmas.List.{length-map}
use Rattle.gem_disk.specs.declared.disk.Which.TheVariants as which
use Rattle.gem_disk.specs.Disk.{Past, reads}
use Rattle.gem_object.specs.declared.object.Object.{Object}
use Rattle.extent_pages.specs.declared.fault.PageRule.TheVariants as rule
use Rattle.extent_pages.specs.declared.fault.PageFault.{PageFault}
use Rattle.extent_pages.specs.declared.fault.PageFault.TheVariants.{NotPages, Disk, NoMemory}
use Rattle.extent_pages.specs.declared.root.Root.{Root}
use Rattle.extent_pages.specs.Pages.{page_size, most_pages, Book, pages_of, Chain, Fault, ◌andthen◌, chain_from}
use Rattle.extent_pages.specs.Contents.{directory_of, leaf_of}
use Rattle.extent_pages.specs.Extent.{Leaf, Extent, first_page, root_in, root_at, is_counted, leaf_in, leaves_at, extent_at}
use Rattle.extent_pages.specs.Stored.{AreEntries, IsStoredLeaf, AreStored}
use Rattle.extent_pages.specs.Reads.{IsFault, Marks}
use Rattle.extent_pages.proofs.Tests.{then_is, then_fails}
use Rattle.extent_pages.proofs.Ways.{told, from_entries_on, from_chain_on, from_root_on}

-- a fault of a part is the whole's
pub fails_then : {A B : Type 0} (fault : PageFault) (r : Result A Fault) (f : A → Result B Fault) → IsFault fault r
    → IsFault fault (r andthen f)
fails_then (NotPages at broken) r f is = (is.0, is.1, then_fails r (is.0, broken) f is.2)
fails_then Disk r f is = tt
fails_then NoMemory r f is = tt

pub fails_after : {A B : Type 0} (fault : PageFault) (r : Result A Fault) (x : A) (f : A → Result B Fault) → r ≡ Ok x
    → IsFault fault (f x) → IsFault fault (r andthen f)
fails_after fault r x f e is = subst (IsFault fault) (sym (then_is r x f e)) is

-- ---- one leaf

module _ (book : Book) (taken : List ℕ) (entry : ℕ × ℕ) where
  abbrev with_objects : Chain → List (ℕ × Object) → Result Leaf Fault
  with_objects chain objects = Ok (record { number = entry.0; pages = chain.pages; objects = objects })

  abbrev with_chain : Chain → Result Leaf Fault
  with_chain chain = leaf_of entry.0 chain andthen with_objects chain

  pub leaf_chain_fails : (fault : PageFault) → IsFault fault (chain_from book taken entry.1)
      → IsFault fault (leaf_in book taken entry)
  leaf_chain_fails fault is = fails_then fault (chain_from book taken entry.1) with_chain is

  pub leaf_objects_fail : (chain : Chain) (fault : PageFault) → chain_from book taken entry.1 ≡ Ok chain
      → IsFault fault (leaf_of entry.0 chain) → IsFault fault (leaf_in book taken entry)
  leaf_objects_fail chain fault e is = fails_after fault (chain_from book taken entry.1) chain with_chain e
      (fails_then fault (leaf_of entry.0 chain) (with_objects chain) is)

  pub leaf_is_read : (chain : Chain) (objects : List (ℕ × Object)) → chain_from book taken entry.1 ≡ Ok chain
      → leaf_of entry.0 chain ≡ Ok objects
      → leaf_in book taken entry ≡ Ok (record { number = entry.0; pages = chain.pages; objects = objects })
  leaf_is_read chain objects e is = then_is (chain_from book taken entry.1) chain with_chain e
      ∙ then_is (leaf_of entry.0 chain) objects (with_objects chain) is

-- ---- all leaves

-- the leaves so far, in front of what is left
pub in_front_of : List Leaf → Result (List Leaf) Fault → Result (List Leaf) Fault
in_front_of leaves (Ok more) = Ok (leaves ++ more)
in_front_of leaves (Err fault) = Err fault

front_none : (r : Result (List Leaf) Fault) → in_front_of [] r ≡ r
unfolding in_front_of
front_none (Ok more) = refl
front_none (Err fault) = refl

abbrev and_leaf : Leaf → List Leaf → Result (List Leaf) Fault
and_leaf leaf leaves = Ok (leaf ∷ leaves)

front_more : (leaves : List Leaf) (leaf : Leaf) (r : Result (List Leaf) Fault)
    → in_front_of leaves (r andthen and_leaf leaf) ≡ in_front_of (leaves ++ leaf ∷ []) r
unfolding in_front_of
front_more leaves leaf (Ok more) = ap (λ (l : List Leaf). Ok l) (sym (append_assoc leaves (leaf ∷ []) more))
front_more leaves leaf (Err fault) = refl

front_fails : (leaves : List Leaf) (fault : PageFault) (r : Result (List Leaf) Fault) → IsFault fault r
    → IsFault fault (in_front_of leaves r)
unfolding in_front_of
front_fails leaves (NotPages at broken) r is = (is.0, is.1, ap (in_front_of leaves) is.2)
front_fails leaves Disk r is = tt
front_fails leaves NoMemory r is = tt

-- ---- leaves that were read can be stored

abbrev numbers_of : List Leaf → List ℕ
numbers_of leaves = map (λ (leaf : Leaf). leaf.number) leaves

abbrev pub firsts_of : List (ℕ × ℕ) → List ℕ
firsts_of entries = map (λ (entry : ℕ × ℕ). entry.0) entries

pub first_fits : (pages : List ℕ) → ((k : ℕ) → get_or pages k 0 < 2 ^ 32) → first_page pages < 2 ^ 32
first_fits [] fits = omega arith
first_fits (page ∷ pages) fits = fits 0

all_and : (leaves : List Leaf) (leaf : Leaf) → AllByRecursion IsStoredLeaf leaves → IsStoredLeaf leaf
    → AllByRecursion IsStoredLeaf (leaves ++ leaf ∷ [])
all_and [] leaf all one = (one, tt)
all_and (first ∷ leaves) leaf all one = (all.0, all_and leaves leaf all.1 one)

numbers_and : (leaves : List Leaf) (leaf : Leaf) (l : List ℕ)
    → numbers_of (leaves ++ leaf ∷ []) ++ l ≡ numbers_of leaves ++ leaf.number ∷ l
numbers_and [] leaf l = refl
numbers_and (first ∷ leaves) leaf l = ap (λ (x : List ℕ). first.number ∷ x) (numbers_and leaves leaf l)

-- these leaves can be stored, and their numbers are those of the entries that aren't left
pub record AreStoredSoFar (entries : List (ℕ × ℕ)) (leaves : List Leaf) (rest : List (ℕ × ℕ)) : Type 0 where
  pub each : AllByRecursion IsStoredLeaf leaves
  pub numbers : numbers_of leaves ++ firsts_of rest ≡ firsts_of entries

stored_more : (entries : List (ℕ × ℕ)) (leaves : List Leaf) (rest : List (ℕ × ℕ)) (entry : ℕ × ℕ)
    (behind : List (ℕ × ℕ)) (leaf : Leaf) → rest ≡ entry ∷ behind → AreStoredSoFar entries leaves rest
    → IsStoredLeaf leaf → leaf.number ≡ entry.0 → AreStoredSoFar entries (leaves ++ leaf ∷ []) behind
stored_more entries leaves rest entry behind leaf one so stored number = record {
  each = all_and leaves leaf so.each stored;
  numbers = numbers_and leaves leaf (firsts_of behind)
      ∙ ap (λ (n : ℕ). numbers_of leaves ++ n ∷ firsts_of behind) number
      ∙ ap (λ (l : List (ℕ × ℕ)). numbers_of leaves ++ firsts_of l) (sym one) ∙ so.numbers;
}

pub numbers_end : (entries : List (ℕ × ℕ)) (leaves : List Leaf) (rest : List (ℕ × ℕ)) → rest ≡ []
    → AreStoredSoFar entries leaves rest → numbers_of leaves ≡ firsts_of entries
numbers_end entries leaves rest none so =
    sym (append-nil (numbers_of leaves)) ∙ ap (λ (l : List (ℕ × ℕ)). numbers_of leaves ++ firsts_of l) (sym none) ∙ so.numbers

-- leaves by the entries of a directory
pub stored_by : (entries : List (ℕ × ℕ)) (leaves : List Leaf) → AreEntries entries
    → AllByRecursion IsStoredLeaf leaves → numbers_of leaves ≡ firsts_of entries → AreStored leaves
stored_by entries leaves are each numbers = record {
  ascend = subst (IsStrictlySortedBy nat_cmp) (sym numbers) are.ascend;
  each = each;
}

-- they are as many
pub as_many : (entries : List (ℕ × ℕ)) (leaves : List Leaf) → numbers_of leaves ≡ firsts_of entries → length leaves ≡ length entries
as_many entries leaves numbers = sym (length-map leaves (λ (leaf : Leaf). leaf.number)) ∙ ap length numbers ∙ length-map entries (λ (entry : ℕ × ℕ). entry.0)

-- ---- all leaves in turn

-- these leaves were read, and these entries are left
pub record LeavesSoFar (book : Book) (taken : List ℕ) (entries : List (ℕ × ℕ)) (marks : List Bool) (leaves : List Leaf)
    (rest : List (ℕ × ℕ)) : Type 0 where
  pub used : List ℕ
  pub marked : Marks marks used
  pub whole : leaves_at book taken entries ≡ in_front_of leaves (leaves_at book used rest)

module _ (tells : Type 0) (before now : Past) (was is : ℕ) (marks_before marks : List Bool) (entries : List (ℕ × ℕ))
    (leaves : List Leaf) (rest : List (ℕ × ℕ)) where
  -- what the loop keeps
  pub record LeavesRun : Type 0 where
    pub past : tells → now ≡ before
    pub later : was ≤ is
    pub quiet : is ≡ was
    pub long : length marks ≡ most_pages
    pub stored : AreStoredSoFar entries leaves rest
    pub so_far : (taken : List ℕ) → tells → Marks marks_before taken
        → LeavesSoFar (pages_of (reads before which.Extent)) taken entries marks leaves rest

pub leaves_first : (tells : Type 0) (before : Past) (was : ℕ) (marks : List Bool) (entries : List (ℕ × ℕ))
    → length marks ≡ most_pages → LeavesRun tells before before was was marks marks entries [] entries
leaves_first tells before was marks entries long = record {
  past = λ tell. refl;
  later = omega arith;
  quiet = refl;
  long = long;
  stored = record { each = tt; numbers = refl };
  so_far = λ taken tell marked. record {
    used = taken;
    marked = marked;
    whole = sym (front_none (leaves_at (pages_of (reads before which.Extent)) taken entries));
  };
}

module _ (tells : Type 0) (before now : Past) (was is : ℕ) (marks_before marks : List Bool) (entries : List (ℕ × ℕ))
    (leaves : List Leaf) where
  pub leaves_end : (rest : List (ℕ × ℕ)) → rest ≡ [] → LeavesRun tells before now was is marks_before marks entries leaves rest
      → (taken : List ℕ) → tells → Marks marks_before taken
      → leaves_at (pages_of (reads before which.Extent)) taken entries ≡ Ok leaves
  unfolding in_front_of
  leaves_end rest none run taken tell marked =
      let so = run.so_far taken tell marked in
      so.whole ∙ ap (λ (l : List (ℕ × ℕ)). in_front_of leaves (leaves_at (pages_of (reads before which.Extent)) so.used l)) none
      ∙ ap (λ (l : List Leaf). Ok l) (append-nil leaves)

  module _ (rest : List (ℕ × ℕ)) (entry : ℕ × ℕ) (behind : List (ℕ × ℕ)) (one : rest ≡ entry ∷ behind)
      (run : LeavesRun tells before now was is marks_before marks entries leaves rest) where
    abbrev then_leaves : List ℕ → Leaf → Result (List Leaf) Fault
    then_leaves used leaf = leaves_at (pages_of (reads before which.Extent)) (leaf.pages ++ used) behind andthen and_leaf leaf

    here : (taken : List ℕ) (tell : tells) (marked : Marks marks_before taken)
        → leaves_at (pages_of (reads before which.Extent)) taken entries
        ≡ in_front_of leaves (leaf_in (pages_of (reads before which.Extent)) (run.so_far taken tell marked).used entry
        andthen then_leaves (run.so_far taken tell marked).used)
    here taken tell marked =
        let so = run.so_far taken tell marked in
        so.whole ∙ ap (λ (l : List (ℕ × ℕ)). in_front_of leaves (leaves_at (pages_of (reads before which.Extent)) so.used l)) one

    pub leaves_break : (fault : PageFault)
        → ((taken : List ℕ) → tells → Marks marks taken → IsFault fault (leaf_in (pages_of (reads now which.Extent)) taken entry))
        → (taken : List ℕ) → tells → Marks marks_before taken
        → IsFault fault (leaves_at (pages_of (reads before which.Extent)) taken entries)
    leaves_break fault breaks taken tell marked =
        let so = run.so_far taken tell marked in
        let failed = subst (λ p. IsFault fault (leaf_in (pages_of (reads p which.Extent)) so.used entry)) (run.past tell)
        (breaks so.used tell so.marked) in
        subst (IsFault fault) (sym (here taken tell marked)) (front_fails leaves fault _
        (fails_then fault (leaf_in (pages_of (reads before which.Extent)) so.used entry) (then_leaves so.used) failed))

    pub leaves_more : (leaf : Leaf) (marks' : List Bool) (leaves' : List Leaf) (later : Past) (then : ℕ) → leaves' ≡ leaves ++ leaf ∷ []
        → ((taken : List ℕ) → tells → Marks marks taken → leaf_in (pages_of (reads now which.Extent)) taken entry ≡ Ok leaf)
        → ((taken : List ℕ) → tells → Marks marks taken → Marks marks' (leaf.pages ++ taken))
        → (tells → later ≡ now) → then ≡ is → length marks' ≡ most_pages
        → IsStoredLeaf leaf × (leaf.number ≡ entry.0)
        → LeavesRun tells before later was then marks_before marks' entries leaves' behind
    leaves_more leaf marks' leaves' later then leaves_are read marked_new same after long stored = record {
      past = λ tell. same tell ∙ run.past tell;
      later = omega (arith, run.later, after);
      quiet = after ∙ run.quiet;
      long = long;
      stored = subst (λ (l : List Leaf). AreStoredSoFar entries l behind) (sym leaves_are)
          (stored_more entries leaves rest entry behind leaf one run.stored stored.0 stored.1);
      so_far = λ taken tell marked.
          let so = run.so_far taken tell marked in
          let book = pages_of (reads before which.Extent) in
          let is_read : leaf_in book so.used entry ≡ Ok leaf =
          subst (λ p. leaf_in (pages_of (reads p which.Extent)) so.used entry ≡ Ok leaf) (run.past tell) (read so.used tell so.marked) in
          record {
            used = leaf.pages ++ so.used;
            marked = marked_new so.used tell so.marked;
            whole = here taken tell marked
                ∙ ap (in_front_of leaves) (then_is (leaf_in book so.used entry) leaf (then_leaves so.used) is_read)
                ∙ front_more leaves leaf (leaves_at book (leaf.pages ++ so.used) behind)
                ∙ ap (λ (l : List Leaf). in_front_of l (leaves_at book (leaf.pages ++ so.used) behind)) (sym leaves_are);
          };
    }

-- ---- a root

module _ (book : Book) (page : ℕ) where
  pub root_missing : book page ≡ None → extent_at book page ≡ Err (page, rule.Outside)
  root_missing none = ap (λ o. root_at page o andthen from_root_on book page) none

  module _ (bytes : List ℕ) (there : book page ≡ Some bytes) where
    root_there : extent_at book page ≡ from_root_on book page (root_in bytes)
    root_there = ap (λ o. root_at page o andthen from_root_on book page) there

    abbrev root : Root
    root = root_in bytes

    pub chain_fails : (fault : PageFault) → IsFault fault (chain_from book [] (root_in bytes).directory)
        → IsFault fault (extent_at book page)
    chain_fails fault is = subst (IsFault fault) (sym root_there)
        (fails_then fault (chain_from book [] root.directory) (from_chain_on book page root) is)

    module _ (chain : Chain) (linked : chain_from book [] (root_in bytes).directory ≡ Ok chain) where
      chain_there : extent_at book page ≡ from_chain_on book page (root_in bytes) chain
      chain_there = root_there ∙ then_is (chain_from book [] root.directory) chain (from_chain_on book page root) linked

      pub directory_fails : (fault : PageFault) → IsFault fault (directory_of chain) → IsFault fault (extent_at book page)
      directory_fails fault is = subst (IsFault fault) (sym chain_there)
          (fails_then fault (directory_of chain) (from_entries_on book page root chain) is)

      module _ (entries : List (ℕ × ℕ)) (listed : directory_of chain ≡ Ok entries) where
        entries_there : extent_at book page ≡ from_entries_on book page (root_in bytes) chain entries
        entries_there = chain_there ∙ then_is (directory_of chain) entries (from_entries_on book page root chain) listed

        pub leaves_fail : (fault : PageFault) → IsFault fault (leaves_at book chain.pages entries)
            → IsFault fault (extent_at book page)
        leaves_fail fault is = subst (IsFault fault) (sym entries_there)
            (fails_then fault (leaves_at book chain.pages entries) (told book page root chain) is)

        module _ (leaves : List Leaf) (read : leaves_at book chain.pages entries ≡ Ok leaves) where
          abbrev whole : Extent
          whole = record { number = (root_in bytes).number; directory = chain.pages; leaves = leaves }

          all_there : extent_at book page ≡ cond (is_counted (root_in bytes) whole) (Ok whole) (Err (page, rule.Count))
          all_there = entries_there ∙ then_is (leaves_at book chain.pages entries) leaves (told book page root chain) read

          pub counts_agree : is_counted (root_in bytes) whole ≡ true → extent_at book page ≡ Ok whole
          counts_agree agree = all_there ∙ ap (λ b. cond b (Ok whole) (Err (page, rule.Count))) agree

          pub counts_differ : is_counted (root_in bytes) whole ≡ false → extent_at book page ≡ Err (page, rule.Count)
          counts_differ differ = all_there ∙ ap (λ b. cond b (Ok whole) (Err (page, rule.Count))) differ

-- ---- the same, told by what the calls say of the disk at their moments

pub page_missing : (book : Book) (page : ℕ) → book page ≡ None → (x : ℕ) × (page * 16384 ≡ page_size * x)
    × (extent_at book page ≡ Err (x, rule.Outside))
page_missing book page none = (page, omega arith, root_missing book page none)

module _ (tells : Type 0) (before after_page after_chain : Past) (page : ℕ) (bytes : List ℕ) (root : Root) (marks_before marks : List Bool)
    (chain : Chain) (entries : List (ℕ × ℕ))
    (there : pages_of (reads before which.Extent) page ≡ Some bytes) (root_is : root ≡ root_in bytes)
    (first_same : after_page ≡ before) (then_same : after_chain ≡ after_page) (unmarked : Marks marks_before [])
    (linked : (taken : List ℕ) → tells → Marks marks_before taken
    → chain_from (pages_of (reads after_page which.Extent)) taken root.directory ≡ Ok chain)
    (marked : (taken : List ℕ) → tells → Marks marks_before taken → Marks marks (chain.pages ++ taken))
    (listed : directory_of chain ≡ Ok entries) (tell : tells) where
  chain_here : chain_from (pages_of (reads before which.Extent)) [] (root_in bytes).directory ≡ Ok chain
  chain_here = subst (λ p. chain_from (pages_of (reads p which.Extent)) [] (root_in bytes).directory ≡ Ok chain) first_same
      (subst (λ r. chain_from (pages_of (reads after_page which.Extent)) [] r.directory ≡ Ok chain) root_is (linked [] tell unmarked))

  marks_here : Marks marks chain.pages
  marks_here = subst (λ (l : List ℕ). Marks marks l) (append-nil chain.pages) (marked [] tell unmarked)

  pub leaves_exit : (fault : PageFault)
      → ((taken : List ℕ) → tells → Marks marks taken → IsFault fault (leaves_at (pages_of (reads after_chain which.Extent)) taken entries))
      → IsFault fault (extent_at (pages_of (reads before which.Extent)) page)
  leaves_exit fault fails = leaves_fail (pages_of (reads before which.Extent)) page bytes there chain chain_here entries listed fault
      (subst (λ p. IsFault fault (leaves_at (pages_of (reads p which.Extent)) chain.pages entries)) (then_same ∙ first_same)
      (fails chain.pages tell marks_here))

  module _ (leaves : List Leaf)
      (read : (taken : List ℕ) → tells → Marks marks taken → leaves_at (pages_of (reads after_chain which.Extent)) taken entries ≡ Ok leaves)
      (directory : List ℕ) (directory_is : directory ≡ chain.pages) where
    read_here : leaves_at (pages_of (reads before which.Extent)) chain.pages entries ≡ Ok leaves
    read_here = subst (λ p. leaves_at (pages_of (reads p which.Extent)) chain.pages entries ≡ Ok leaves) (then_same ∙ first_same)
        (read chain.pages tell marks_here)

    abbrev told_extent : Root → List ℕ → Extent
    told_extent r pages = record { number = r.number; directory = pages; leaves = leaves }

    pub counts_exit : is_counted root (told_extent root directory) ≡ true
        → extent_at (pages_of (reads before which.Extent)) page ≡ Ok (told_extent root directory)
    counts_exit agree = rw (root_is, directory_is)
        (counts_agree (pages_of (reads before which.Extent)) page bytes there chain chain_here entries listed leaves read_here
        (subst (λ (l : List ℕ). is_counted (root_in bytes) (told_extent (root_in bytes) l) ≡ true) directory_is
        (subst (λ r. is_counted r (told_extent r directory) ≡ true) root_is agree)))

    pub counts_fault : is_counted root (told_extent root directory) ≡ false
        → (x : ℕ) × (page * 16384 ≡ page_size * x) × (extent_at (pages_of (reads before which.Extent)) page ≡ Err (x, rule.Count))
    counts_fault differ = (
      page,
      omega arith,
      counts_differ (pages_of (reads before which.Extent)) page bytes there chain chain_here entries listed leaves read_here
          (subst (λ (l : List ℕ). is_counted (root_in bytes) (told_extent (root_in bytes) l) ≡ false) directory_is
          (subst (λ r. is_counted r (told_extent r directory) ≡ false) root_is differ)),
    )
