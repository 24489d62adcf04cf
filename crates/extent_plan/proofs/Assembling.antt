-- A plan put together from leaves that are laid.
use Rattle.std.proofs.Common.{◌≡◌, inl, inr, ℕ, suc, ◌+◌, ◌-◌, ◌*◌, ◌^◌, ◌<◌, ◌≤◌, min, max, List, [], ◌∷◌, ◌++◌, length, take, drop, map, option_map, refl, sym, ap, subst, ◌∙◌, append_assoc, length-append, arith}
use Rattle.std.specs.List.{AllByRecursion, flat_map, fold}
use Rattle.std.specs.List.Sorted.{IsStrictlySortedBy}
use Rattle.std.specs.Ordering.{nat_cmp}
use Rattle.std.specs.FinMap.{get-from_entries}
use Rattle.std.proofs.lemmas.Cmp.{nat_cmp_total}
use Rattle.std.proofs.lemmas.List.{length-map, take-append-drop}
use Rattle.std.proofs.lemmas.List.Elements.{All-from_recursion, recursion_from_All}
use Rattle.gem_object.specs.declared.object.Object.{Object}
use Rattle.gem_object.specs.gem_value.Oid.{serial_of}
use Rattle.gem_image.specs.Image.{Image, contents_of, objects_in}
use Rattle.body_codec.specs.Spelled.{four_bytes, eight_bytes}
use Rattle.body_codec.proofs.Lengths.{four_long, eight_long}
use Rattle.disk_pieces.specs.Pieces.{Piece}
use Rattle.extent_pages.specs.Pages.{most_pages}
use Rattle.extent_pages.specs.Spelled.{spelled_entry, spelled_directory}
use Rattle.extent_pages.specs.declared.root.Root.{Root}
use Rattle.extent_pages.specs.Extent.{Leaf, Extent, objects_of, image_in, pages_of_leaves, larger_serial, largest_serial, first_page, root_of}
use Rattle.extent_pages.specs.Laid.{entries_of}
use Rattle.extent_pages.specs.Stored.{FitsRoot, FitsEntry, AreEntries, IsOfLeaf, AreOfLeaf}
use Rattle.extent_pages.proofs.Filled.{directory_long as listed_long}
use Rattle.extent_plan.specs.Runs.{behind, IsRun}
use Rattle.extent_plan.specs.Pieces.{chain_pieces, Fills, pages_filled}
use Rattle.extent_plan.specs.Leaves.{contents_at}
use Rattle.extent_plan.specs.declared.place.LeafPlace.{LeafPlace}
use Rattle.extent_plan.specs.declared.plan.Plan.{Plan}
use Rattle.extent_plan.specs.Plan.{ArePlaces, RenewsTo, root_piece}
use Rattle.extent_plan.specs.Planning.{root_by, IsWritten, IsPlanFor}
use Rattle.extent_plan.specs.Totals.{entries_at, objects_at, pages_at, serial_at}
use Rattle.extent_plan.specs.declared.draft.Draft.{Draft}
use Rattle.extent_plan.specs.Drafts.{DraftsTo, IsSharable, Sharing, numbers_of, objects_in_all, Drafted}
use Rattle.extent_plan.specs.Laying.{unpaged, AreLaid}
use Rattle.extent_plan.proofs.Lays.{run_end, run_length}
use Rattle.extent_plan.proofs.Stored.{all_both, all_less}
use Rattle.extent_plan.proofs.Laying.{fills_pages, run_front}
use Rattle.extent_plan.proofs.Counting.{entries_are, objects_are, pages_are, serials_are}

-- ---- what is said of leaves without their pages

abbrev Unpaged : Type 0
Unpaged = ℕ × List (ℕ × Object)

abbrev objects_with : List Unpaged → List (ℕ × Object)
objects_with leaves = flat_map (λ (leaf : Unpaged). leaf.1) leaves

abbrev numbers_with : List Unpaged → List ℕ
numbers_with leaves = map (λ (leaf : Unpaged). leaf.0) leaves

objects_unpaged : (leaves : List Leaf) → objects_in_all leaves ≡ objects_with (map unpaged leaves)
objects_unpaged [] = refl
objects_unpaged (leaf ∷ leaves) = ap (λ (l : List (ℕ × Object)). leaf.objects ++ l) (objects_unpaged leaves)

numbers_unpaged : (leaves : List Leaf) → numbers_of leaves ≡ numbers_with (map unpaged leaves)
numbers_unpaged [] = refl
numbers_unpaged (leaf ∷ leaves) = ap (λ (l : List ℕ). leaf.number ∷ l) (numbers_unpaged leaves)

abbrev EachIs : List Unpaged → Type 0
EachIs leaves = AllByRecursion (λ (leaf : Unpaged). AreOfLeaf leaf.0 leaf.1) leaves

each_unpaged : (leaves : List Leaf) → AllByRecursion (λ (leaf : Leaf). AreOfLeaf leaf.number leaf.objects) leaves → EachIs (map unpaged leaves)
each_unpaged [] all = tt
each_unpaged (leaf ∷ leaves) all = (all.0, each_unpaged leaves all.1)

each_paged : (leaves : List Leaf) → EachIs (map unpaged leaves) → AllByRecursion (λ (leaf : Leaf). AreOfLeaf leaf.number leaf.objects) leaves
each_paged [] all = tt
each_paged (leaf ∷ leaves) all = (all.0, each_paged leaves all.1)

module _ (leaves made : List Leaf) (same : map unpaged leaves ≡ map unpaged made) where
  pub same_objects : objects_in_all leaves ≡ objects_in_all made
  same_objects = objects_unpaged leaves ∙ ap objects_with same ∙ sym (objects_unpaged made)

  pub same_numbers : numbers_of leaves ≡ numbers_of made
  same_numbers = numbers_unpaged leaves ∙ ap numbers_with same ∙ sym (numbers_unpaged made)

  pub same_each : AllByRecursion (λ (leaf : Leaf). AreOfLeaf leaf.number leaf.objects) made
      → AllByRecursion (λ (leaf : Leaf). AreOfLeaf leaf.number leaf.objects) leaves
  same_each all = each_paged leaves (subst EachIs (sym same) (each_unpaged made all))

  pub same_length : length leaves ≡ length made
  same_length = sym (length-map leaves unpaged) ∙ ap length same ∙ length-map made unpaged

-- ---- how many pages, objects and serials there are

pub run_counts : (kept : List ℕ) (from : ℕ) (pages : List ℕ) → IsRun kept from pages → from + length pages ≤ behind from pages
run_counts kept from [] run = omega arith
run_counts kept from (page ∷ pages) run = omega (arith, run.0, run_counts kept (page + 1) pages run.4)

parts_long : (before : List Leaf) (leaf : Leaf) (after : List Leaf)
    → length leaf.pages + length (pages_of_leaves after) ≤ length (pages_of_leaves (before ++ leaf ∷ after))
parts_long [] leaf after = omega (arith, length-append leaf.pages (pages_of_leaves after))
parts_long (first ∷ before) leaf after =
    omega (arith, parts_long before leaf after, length-append first.pages (pages_of_leaves (before ++ leaf ∷ after)))

-- the pages of renewed leaves are those of old ones, and new ones
pub renewed_long : (kept : List ℕ) (old : List Leaf) (from : ℕ) (leaves : List Leaf) (pieces : List Piece) (left : List Leaf) (next : ℕ)
    → RenewsTo kept old from leaves pieces left next → from ≤ most_pages
    → (length (pages_of_leaves leaves) + from ≤ length (pages_of_leaves old) + next) × (next ≤ most_pages)
renewed_long kept old from [] pieces left next renews few = (omega (arith, renews.2), omega (arith, renews.2, few))
renewed_long kept old from (leaf ∷ leaves) pieces left next (inl r) few =
    let more = renewed_long kept old (behind from leaf.pages) leaves r.1.0 left next r.1.2 (run_end kept from leaf.pages few r.0.run) in
    (omega (arith, more.0, run_counts kept from leaf.pages r.0.run, length-append leaf.pages (pages_of_leaves leaves)), more.1)
renewed_long kept old from (leaf ∷ leaves) pieces left next (inr s) few =
    let more = renewed_long kept s.1 from leaves pieces left next s.3 few in
    let parts = parts_long s.0 leaf s.1 in
    (omega (arith, more.0, parts, ap (λ (l : List Leaf). length (pages_of_leaves l)) s.2, length-append leaf.pages (pages_of_leaves leaves)), more.1)

pub objects_few : (leaves : List Leaf) → AllByRecursion (λ (leaf : Leaf). AreOfLeaf leaf.number leaf.objects) leaves
    → length (objects_in_all leaves) ≤ 64 * length leaves
objects_few [] all = omega arith
objects_few (leaf ∷ leaves) all =
    omega (arith, all.0.count, objects_few leaves all.1, length-append leaf.objects (objects_in_all leaves))

-- ---- entries

entries_many : (leaves : List Leaf) → length (entries_of leaves) ≡ length leaves
entries_many [] = refl
entries_many (leaf ∷ leaves) = ap (λ (n : ℕ). suc n) (entries_many leaves)

pub directory_long : (leaves : List Leaf) → length (spelled_directory (entries_of leaves)) ≡ 4 + 12 * length leaves
directory_long leaves = listed_long (entries_of leaves) ∙ ap (λ (n : ℕ). 4 + 12 * n) (entries_many leaves)

keys_are : (leaves : List Leaf) → map (λ (entry : ℕ × ℕ). entry.0) (entries_of leaves) ≡ numbers_of leaves
keys_are [] = refl
keys_are (leaf ∷ leaves) = ap (λ (l : List ℕ). leaf.number ∷ l) (keys_are leaves)

-- ---- the image

pub agrees_in : (image : Image) (extent : Extent) → ((name : ℕ) → contents_at (objects_in_all extent.leaves) name ≡ objects_in image name)
    → (name : ℕ) → objects_in (image_in extent) name ≡ objects_in image name
agrees_in image extent agrees name =
    ap (option_map contents_of) (get-from_entries nat_cmp_total (objects_of extent) name) ∙ agrees name

-- ---- what has room in a root and in a directory

first_small : (kept : List ℕ) (from : ℕ) (pages : List ℕ) → IsRun kept from pages → first_page pages < most_pages
first_small kept from [] run = omega arith
first_small kept from (page ∷ pages) run = run.2

all_after : {X : Type 0} (P : X → Type 0) (before : List X) (x : X) (after : List X) → AllByRecursion P (before ++ x ∷ after)
    → P x × AllByRecursion P after
all_after P [] x after all = all
all_after P (y ∷ before) x after all = all_after P before x after all.1

abbrev FirstFits : Leaf → Type 0
FirstFits leaf = first_page leaf.pages < 2 ^ 32

firsts_fit : (kept : List ℕ) (old : List Leaf) (from : ℕ) (leaves : List Leaf) (pieces : List Piece) (left : List Leaf) (next : ℕ)
    → RenewsTo kept old from leaves pieces left next → AllByRecursion FirstFits old → AllByRecursion FirstFits leaves
firsts_fit kept old from [] pieces left next renews all = tt
firsts_fit kept old from (leaf ∷ leaves) pieces left next (inl r) all =
    let small = first_small kept from leaf.pages r.0.run in
    (omega (arith, small), firsts_fit kept old (behind from leaf.pages) leaves r.1.0 left next r.1.2 all)
firsts_fit kept old from (leaf ∷ leaves) pieces left next (inr s) all =
    let rest = all_after FirstFits s.0 leaf s.1 (subst (AllByRecursion FirstFits) s.2 all) in
    (rest.0, firsts_fit kept s.1 from leaves pieces left next s.3 rest.1)

entries_fit : (leaves : List Leaf) → AllByRecursion (λ number. number < 2 ^ 42) (numbers_of leaves) → AllByRecursion FirstFits leaves
    → AllByRecursion FitsEntry (entries_of leaves)
entries_fit [] small first = tt
entries_fit (leaf ∷ leaves) small first =
    let low : leaf.number < 2 ^ 42 = small.0 in
    ((omega (arith, low), first.0), entries_fit leaves small.1 first.1)

serial_fits : (start : ℕ) (objects : List (ℕ × Object)) → start < 2 ^ 24 → AllByRecursion (λ (entry : ℕ × Object). entry.0 < 2 ^ 48) objects
    → fold larger_serial start objects < 2 ^ 24
serial_fits start [] low all = low
serial_fits start (entry ∷ objects) low all =
    let name : entry.0 < 2 ^ 48 = all.0 in
    let serial : serial_of entry.0 < 2 ^ 24 = omega (arith, name) in
    serial_fits (max start (serial_of entry.0)) objects (omega (arith, low, serial)) all.1

names_fit : (leaves : List Leaf) → AllByRecursion (λ (leaf : Leaf). AreOfLeaf leaf.number leaf.objects) leaves
    → AllByRecursion (λ (entry : ℕ × Object). entry.0 < 2 ^ 48) (objects_in_all leaves)
names_fit [] all = tt
names_fit (leaf ∷ leaves) all = all_both (λ (entry : ℕ × Object). entry.0 < 2 ^ 48) leaf.objects (objects_in_all leaves)
    (all_less (IsOfLeaf leaf.number) (λ (entry : ℕ × Object). entry.0 < 2 ^ 48) (λ (entry : ℕ × Object) (is : IsOfLeaf leaf.number entry). is.0.name) leaf.objects
    (recursion_from_All (IsOfLeaf leaf.number) leaf.objects all.0.each)) (names_fit leaves all.1)

places_long : (places : List LeafPlace) (leaves : List Leaf) → ArePlaces places leaves → length places ≡ length leaves
places_long [] [] are = refl
places_long [] (leaf ∷ leaves) are = absurd are
places_long (place ∷ places) [] are = absurd are
places_long (place ∷ places) (leaf ∷ leaves) are = ap (λ (n : ℕ). suc n) (places_long places leaves are.1)

-- ---- the plan

module _ (image : Image) (old : List Leaf) (kept : List ℕ) (number page : ℕ) (directory : List ℕ) (places : List LeafPlace)
    (leaf_pieces before after : List Piece) (made : List Leaf) where
  module _ (laid : AreLaid kept old (behind 3 directory) leaf_pieces places made) where
    abbrev whole : Extent
    whole = record { number = number; directory = directory; leaves = laid.leaves }

    module _ (run : IsRun kept 3 directory) (many : length directory ≡ pages_filled (4 + 12 * length places))
        (each : AllByRecursion (λ (leaf : Leaf). AreOfLeaf leaf.number leaf.objects) made)
        (few : length (pages_of_leaves old) ≤ most_pages) where
      leaves_few : length laid.leaves < 2 ^ 32
      leaves_few =
          let most = run_length kept 3 directory (omega arith) run in
          let long = places_long places laid.leaves laid.are in
          omega (arith, most, many, long)

      each_is : AllByRecursion (λ (leaf : Leaf). AreOfLeaf leaf.number leaf.objects) laid.leaves
      each_is = same_each laid.leaves made laid.same each

      root_fits : number < 2 ^ 63 → FitsRoot (root_of whole)
      root_fits small =
          let serial = serial_fits 0 (objects_in_all laid.leaves) (omega arith) (names_fit laid.leaves each_is) in
          let count = objects_few laid.leaves each_is in
          let first = first_small kept 3 directory run in
          let most = run_end kept 3 directory (omega arith) run in
          let size = run_length kept 3 directory (omega arith) run in
          let long = renewed_long kept old (behind 3 directory) laid.leaves leaf_pieces laid.left laid.next laid.renews most in
          let parts = length-append directory (pages_of_leaves laid.leaves) in
          record {
            number = omega (arith, small);
            serial = omega (arith, serial);
            objects = omega (arith, count, leaves_few);
            directory = omega (arith, first);
            pages = omega (arith, long.0, long.1, size, few, parts);
          }

      root_same : number < 2 ^ 63 → root_by number directory places ≡ root_of whole
      root_same small =
          let fits = root_fits small in
          let serial : serial_at places ≡ largest_serial (objects_in_all laid.leaves) = serials_are 0 places laid.leaves laid.are in
          let objects : min (objects_at places) (2 ^ 64 - 1) ≡ length (objects_in_all laid.leaves) =
          omega (arith, objects_are places laid.leaves laid.are, fits.objects) in
          let pages : min (length directory + pages_at places) (2 ^ 32 - 1) ≡ length (directory ++ pages_of_leaves laid.leaves) =
          omega (arith, pages_are places laid.leaves laid.are, fits.pages, length-append directory (pages_of_leaves laid.leaves)) in
          λ i. record { number = number; serial = serial i; objects = objects i; directory = first_page directory; pages = pages i }

      entries_so : IsStrictlySortedBy nat_cmp (numbers_of made) → AllByRecursion (λ n. n < 2 ^ 42) (numbers_of made)
          → AllByRecursion FirstFits old → AreEntries (entries_of laid.leaves)
      entries_so ascend small first =
          let numbers = same_numbers laid.leaves made laid.same in
          record {
            count = omega (arith, leaves_few, entries_many laid.leaves);
            each = All-from_recursion FitsEntry (entries_of laid.leaves)
                (entries_fit laid.leaves (subst (AllByRecursion (λ n. n < 2 ^ 42)) (sym numbers) small)
                (firsts_fit kept old (behind 3 directory) laid.leaves leaf_pieces laid.left laid.next laid.renews first));
            ascend = subst (IsStrictlySortedBy nat_cmp) (sym numbers ∙ sym (keys_are laid.leaves)) ascend;
          }

      pub assembled : (plan : Plan) → number < 2 ^ 63
          → ((name : ℕ) → contents_at (objects_in_all made) name ≡ objects_in image name)
          → IsStrictlySortedBy nat_cmp (numbers_of made) → AllByRecursion (λ n. n < 2 ^ 42) (numbers_of made)
          → AllByRecursion FirstFits old → IsWritten number page directory places leaf_pieces before after plan
          → IsPlanFor image number page kept old before after plan
      assembled plan small agrees ascend low first written =
          let entries = entries_are places laid.leaves laid.are in
          let spelled : spelled_directory (entries_at places) ≡ spelled_directory (entries_of laid.leaves) = ap spelled_directory entries in
          let size = directory_long laid.leaves in
          let long = places_long places laid.leaves laid.are in
          let so : length directory ≡ pages_filled (length (spelled_directory (entries_of laid.leaves))) =
          many ∙ ap (λ (n : ℕ). pages_filled (4 + 12 * n)) long ∙ ap pages_filled (sym size) in
          record {
            extent = whole;
            number_is = refl;
            directory = written.directory_is;
            leaves = subst (λ (p : List LeafPlace). ArePlaces p laid.leaves) (sym written.leaves_are) laid.are;
            agrees = agrees_in image whole (λ name. ap (λ (o : List (ℕ × Object)). contents_at o name) (same_objects laid.leaves made laid.same) ∙ agrees name);
            planned = record {
              number = small;
              fits = root_fits small;
              run = run;
              fills = fills_pages directory (spelled_directory (entries_of laid.leaves)) (omega (arith, size)) so;
              entries = entries_so ascend low first;
              leaf_pieces = leaf_pieces;
              left = laid.left;
              next = laid.next;
              renews = laid.renews;
              pieces_are = written.pieces_are
                  ∙ ap (λ (r : Root). before ++ root_piece page r ∷ (after ++ (chain_pieces directory (spelled_directory (entries_at places)) ++ leaf_pieces))) (root_same small)
                  ∙ ap (λ (d : List ℕ). before ++ root_piece page (root_of whole) ∷ (after ++ (chain_pieces directory d ++ leaf_pieces))) spelled;
            };
          }

-- ---- all of it

pub plan_is : (image : Image) (old : List Leaf) (kept : List ℕ) (number page since : ℕ) (drafts : List Draft) (free directory rest : List ℕ)
    (places : List LeafPlace) (leaf_pieces before after : List Piece) (plan : Plan) → number < 2 ^ 63 → Drafted image old drafts
    → Sharing image since old → length (pages_of_leaves old) ≤ most_pages → IsRun kept 3 free → free ≡ directory ++ rest
    → length directory ≡ pages_filled (4 + 12 * length places)
    → ((made left : List Leaf) (from : ℕ) → DraftsTo image old drafts made left → IsRun kept from rest
    → AreLaid kept old from leaf_pieces places made)
    → IsWritten number page directory places leaf_pieces before after plan
    → IsPlanFor image number page kept old before after plan
plan_is image old kept number page since drafts free directory rest places leaf_pieces before after plan small drafted sharing few run parts many lays written =
    let runs = run_front kept 3 directory rest (subst (IsRun kept 3) parts run) in
    let laid = lays drafted.made drafted.left (behind 3 directory) drafted.to runs.1 in
    let first : AllByRecursion FirstFits old =
    all_less (IsSharable image since) FirstFits (λ (leaf : Leaf) (is : IsSharable image since leaf). is.first) old sharing in
    assembled image old kept number page directory places leaf_pieces before after drafted.made laid runs.0 many drafted.each few plan small
    drafted.agrees drafted.ascend drafted.small first written

-- the pieces, put together one after the other
pub pieces_written : (before after leaves chain one two three four : List Piece) (root : Piece) → one ≡ before ++ root ∷ []
    → two ≡ one ++ after → three ≡ two ++ chain → four ≡ three ++ leaves
    → four ≡ before ++ root ∷ (after ++ (chain ++ leaves))
pieces_written before after leaves chain one two three four root a b c d =
    d ∙ ap (λ (l : List Piece). l ++ leaves) (c ∙ ap (λ (l : List Piece). l ++ chain) (b ∙ ap (λ (l : List Piece). l ++ after) a))
    ∙ append_assoc ((before ++ root ∷ []) ++ after) chain leaves
    ∙ append_assoc (before ++ root ∷ []) after (chain ++ leaves)
    ∙ append_assoc before (root ∷ []) (after ++ (chain ++ leaves))

pub root_is : (root : Root) (number : ℕ) (directory : List ℕ) (places : List LeafPlace) → root.number ≡ number → root.serial ≡ serial_at places
    → root.objects ≡ min (objects_at places) (2 ^ 64 - 1) → root.directory ≡ first_page directory
    → root.pages ≡ min (length directory + pages_at places) (2 ^ 32 - 1) → root ≡ root_by number directory places
root_is root number directory places a b c d e =
    λ i. record { number = a i; serial = b i; objects = c i; directory = d i; pages = e i }

-- how long the payload of a directory of these places is
places_spelled : (places : List LeafPlace) → length (flat_map spelled_entry (entries_at places)) ≡ 12 * length places
places_spelled [] = refl
places_spelled (place ∷ places) =
    let entry : ℕ × ℕ = (place.number, first_page place.pages.items) in
    omega (
      arith,
      places_spelled places,
      length-append (spelled_entry entry) (flat_map spelled_entry (entries_at places)),
      length-append (eight_bytes place.number) (four_bytes (first_page place.pages.items)),
      eight_long place.number,
      four_long (first_page place.pages.items),
    )

pub spelled_long : (places : List LeafPlace) → length (spelled_directory (entries_at places)) ≡ 4 + 12 * length places
spelled_long places = omega (
  arith,
  places_spelled places,
  length-append (four_bytes (length (entries_at places))) (flat_map spelled_entry (entries_at places)),
  four_long (length (entries_at places)),
)

pub directory_fills : (directory : List ℕ) (places : List LeafPlace) (payload : List ℕ) → payload ≡ spelled_directory (entries_at places)
    → length directory ≡ pages_filled (4 + 12 * length places) → Fills directory payload
directory_fills directory places payload is many =
    let long : length payload ≡ 4 + 12 * length places = ap length is ∙ spelled_long places in
    fills_pages directory payload (omega (arith, long)) (many ∙ ap pages_filled (sym long))

pub split_parts : (n : ℕ) (free given front back : List ℕ) → given ≡ free → front ≡ take n given → back ≡ drop n given → free ≡ front ++ back
split_parts n free given front back given_is front_is back_is =
    sym given_is ∙ sym (take-append-drop n given) ∙ ap (λ (l : List ℕ). l ++ drop n given) (sym front_is) ∙ ap (λ (l : List ℕ). front ++ l) (sym back_is)

-- what was written, call by call
pub written_is : (number page : ℕ) (directory : List ℕ) (places given : List LeafPlace) (leaves before after : List Piece) (payload : List ℕ)
    (root : Root) (piece : Piece) (one two three four : List Piece) → given ≡ places
    → root.number ≡ number → root.serial ≡ serial_at given → root.objects ≡ min (objects_at given) (2 ^ 64 - 1)
    → root.directory ≡ first_page directory → root.pages ≡ min (length directory + pages_at given) (2 ^ 32 - 1)
    → piece ≡ root_piece page root → payload ≡ spelled_directory (entries_at places)
    → one ≡ before ++ piece ∷ [] → two ≡ one ++ after → three ≡ two ++ chain_pieces directory payload → four ≡ three ++ leaves
    → four ≡ before ++ root_piece page (root_by number directory places) ∷ (after
    ++ (chain_pieces directory (spelled_directory (entries_at places)) ++ leaves))
written_is number page directory places given leaves before after payload root piece one two three four given_is a b c d e piece_is payload_is f g h i =
    let root_so : root ≡ root_by number directory places =
    root_is root number directory given a b c d e ∙ ap (root_by number directory) given_is in
    pieces_written before after leaves (chain_pieces directory payload) one two three four piece f g h i
    ∙ ap (λ (p : Piece). before ++ p ∷ (after ++ (chain_pieces directory payload ++ leaves))) (piece_is ∙ ap (root_piece page) root_so)
    ∙ ap (λ (l : List ℕ). before ++ root_piece page (root_by number directory places) ∷ (after ++ (chain_pieces directory l ++ leaves))) payload_is
