-- A plan whose pieces stand in a file lays its extent there.
use Rattle.std.proofs.Common.{◌≡◌, ◌⊎◌, inl, inr, ℕ, ◌+◌, ◌*◌, ◌^◌, ◌≤◌, ◌<◌, ◌==◌, Bool, true, false, cond, not, ◌||◌, ◌&&◌, nat_le, nat_lt, List, [], ◌∷◌, ◌++◌, length, take, drop, Option, Some, None, refl, sym, ap, subst, ◌∙◌, arith}
use Rattle.std.proofs.lemmas.Bool.{false≢true, eq-eqb}
use Rattle.std.proofs.lemmas.Bool.Decides.{nat_tests}
use Rattle.std.proofs.lemmas.List.{take-append-drop, length-take-le}
use Rattle.disk_pieces.specs.Pieces.{Piece, Stands, Stand}
use Rattle.extent_pages.specs.Pages.{page_size, payload_size, most_pages, Book, pages_of, page_of, is_inside, is_one_of, is_free}
use Rattle.extent_pages.specs.Spelled.{spelled_page, root_page, spelled_directory, spelled_leaf}
use Rattle.extent_pages.specs.Extent.{Leaf, Extent, pages_of_leaves, pages_used, root_of, is_counted, largest_serial, objects_of}
use Rattle.extent_pages.specs.declared.root.Root.{Root}
use Rattle.extent_pages.specs.Laid.{Links, AreFree, IsChain, LeafLies, LeavesLie, entries_of, IsLaid}
use Rattle.extent_pages.proofs.Tests.{one_left, one_right, one_here, one_later}
use Rattle.extent_pages.proofs.Back.{page_long, next_back, payload_back, page_filled, root_page_long, root_back}
use Rattle.extent_pages.proofs.Payloads.{directory_back, leaf_back}
use Rattle.extent_plan.specs.Runs.{behind, IsRun}
use Rattle.extent_plan.specs.Pieces.{chain_pieces, Fills}
use Rattle.extent_plan.specs.Plan.{IsFresh, RenewsTo, root_piece, Around, IsPlanned}
use Rattle.extent_plan.proofs.Runs.{not_same}

-- ---- pieces that stand

pub stand_front : (file : List ℕ) (pieces more : List Piece) → Stand file (pieces ++ more) → Stand file pieces
stand_front file [] more stand = tt
stand_front file (piece ∷ pieces) more stand = (stand.0, stand_front file pieces more stand.1)

pub stand_back : (file : List ℕ) (pieces more : List Piece) → Stand file (pieces ++ more) → Stand file more
stand_back file [] more stand = stand
stand_back file (piece ∷ pieces) more stand = stand_back file pieces more stand.1

abbrev some_page : List ℕ → Option (List ℕ)
some_page bytes = Some bytes

pub page_there : (file : List ℕ) (page : ℕ) (bytes : List ℕ) → page < most_pages → length bytes ≡ page_size
    → Stands file (record { at = page_size * page; bytes = bytes }) → pages_of file page ≡ Some bytes
page_there file page bytes few long stands =
    let inside : is_inside file page ≡ true = grind (arith, nat_tests, few, stands.inside, long) in
    let reads : page_of file page ≡ bytes =
    subst (λ (n : ℕ). take n (drop (page_size * page) file) ≡ bytes) long stands.reads in
    ap (λ b. cond b (Some (page_of file page)) None) inside ∙ ap some_page reads

-- ---- chains

module _ (file kept : List ℕ) where
  pub links_stand : (from : ℕ) (pages payload : List ℕ) → IsRun kept from pages → Fills pages payload
      → Stand file (chain_pieces pages payload) → Links (pages_of file) pages payload
  links_stand from [] payload run fills stand = fills
  links_stand from (page ∷ []) payload run fills stand = (
    spelled_page 0 payload,
    record {
      there = page_there file page (spelled_page 0 payload) run.2 (page_long 0 payload fills.1) stand.0;
      next_is = next_back 0 payload (omega arith);
      filled = page_filled 0 payload (record { next_fits = omega arith; some = fills.0; short = fills.1; filled = inl refl });
    },
    sym (payload_back 0 payload fills.1),
  )
  links_stand from (page ∷ next ∷ pages) payload run fills stand =
      let part = take payload_size payload in
      let long : length part ≡ payload_size = length-take-le payload_size payload (omega (arith, fills.0)) in
      let short : length part ≤ payload_size = omega (arith, long) in
      let fits : next < 2 ^ 32 = omega (arith, run.4.2) in (
        spelled_page next part,
        drop payload_size payload,
        record {
          there = page_there file page (spelled_page next part) run.2 (page_long next part short) stand.0;
          next_is = next_back next part fits;
          filled = page_filled next part (record { next_fits = fits; some = omega (arith, long); short = short; filled = inr long });
        },
        sym (take-append-drop payload_size payload)
            ∙ ap (λ (l : List ℕ). l ++ drop payload_size payload) (sym (payload_back next part short)),
        links_stand (page + 1) (next ∷ pages) (drop payload_size payload) run.4 fills.1 stand.1,
      )

-- ---- which pages are free

-- a run ends at or behind where it begins
pub behind_least : (kept : List ℕ) (from : ℕ) (pages : List ℕ) → IsRun kept from pages → from ≤ behind from pages
behind_least kept from [] run = omega arith
behind_least kept from (page ∷ pages) run = omega (arith, run.0, behind_least kept (page + 1) pages run.4)

-- pages of a run are above where it begins, below where it ends, and not kept
pub run_above : (kept : List ℕ) (from : ℕ) (pages : List ℕ) (page : ℕ) → IsRun kept from pages
    → is_one_of page pages ≡ true → (from ≤ page) × (page < behind from pages) × (is_one_of page kept ≡ false)
run_above kept from [] page run is = absurd (false≢true is)
run_above kept from (first ∷ pages) page run is = by (page == first) refl is (run_above kept (first + 1) pages page run.4) where
  ahead : first + 1 ≤ behind (first + 1) pages
  ahead = behind_least kept (first + 1) pages run.4

  by : (b : Bool) → (page == first) ≡ b → (b || is_one_of page pages) ≡ true
      → (is_one_of page pages ≡ true → (first + 1 ≤ page) × (page < behind (first + 1) pages) × (is_one_of page kept ≡ false))
      → (from ≤ page) × (page < behind (first + 1) pages) × (is_one_of page kept ≡ false)
  by true e is further =
      let same : page ≡ first = grind (arith, nat_tests, e) in
      (omega (arith, same, run.0), omega (arith, same, ahead), subst (λ (p : ℕ). is_one_of p kept ≡ false) (sym same) run.1)
  by false e is further =
      let f = further is in (omega (arith, f.0, run.0), f.1, f.2)

pub run_length : (kept : List ℕ) (from : ℕ) (pages : List ℕ) → from ≤ most_pages → IsRun kept from pages
    → from + length pages ≤ most_pages
run_length kept from [] few run = omega (arith, few)
run_length kept from (page ∷ pages) few run =
    omega (arith, run.0, run_length kept (page + 1) pages (omega (arith, run.2)) run.4)

pub run_end : (kept : List ℕ) (from : ℕ) (pages : List ℕ) → from ≤ most_pages → IsRun kept from pages
    → behind from pages ≤ most_pages
run_end kept from [] few run = few
run_end kept from (page ∷ pages) few run = run_end kept (page + 1) pages (omega (arith, run.2)) run.4

free_is : (taken : List ℕ) (page : ℕ) → 3 ≤ page → is_one_of page taken ≡ false → is_free taken page ≡ true
free_is taken page high none =
    let high_is : nat_le 3 page ≡ true = grind (arith, nat_tests, high) in
    ap (λ b. b && not (is_one_of page taken)) high_is ∙ ap not none

pub free_none : (taken : List ℕ) (page : ℕ) → is_free taken page ≡ true → (3 ≤ page) × (is_one_of page taken ≡ false)
free_none taken page free = by (nat_le 3 page) refl (is_one_of page taken) refl free where
  by : (b : Bool) → nat_le 3 page ≡ b → (c : Bool) → is_one_of page taken ≡ c → (b && not c) ≡ true
      → (3 ≤ page) × (is_one_of page taken ≡ false)
  by true high true one e = absurd (false≢true e)
  by true high false one e = (grind (arith, nat_tests, high), one)
  by false high c one e = absurd (false≢true e)

-- none of the pages from one on that aren't kept is taken
abbrev pub Spares : List ℕ → ℕ → List ℕ → Type 0
Spares kept from taken = (page : ℕ) → from ≤ page → is_one_of page kept ≡ false → is_one_of page taken ≡ false

pub run_free : (kept : List ℕ) (from : ℕ) (pages taken : List ℕ) → 3 ≤ from → IsRun kept from pages
    → Spares kept from taken → AreFree taken pages
run_free kept from [] taken high run spares = tt
run_free kept from (page ∷ pages) taken high run spares = (
  free_is taken page (omega (arith, run.0, high)) (spares page run.0 run.1),
  run_free kept (page + 1) pages (page ∷ taken) (omega (arith, run.0, high)) run.4 (λ other least free.
      ap (λ b. b || is_one_of other taken) (not_same other page (λ e. omega (arith, e, least)))
      ∙ spares other (omega (arith, least, run.0)) free),
)

pub one_of_either : (page : ℕ) (pages more : List ℕ) → is_one_of page (pages ++ more) ≡ true
    → (is_one_of page pages ≡ true) ⊎ (is_one_of page more ≡ true)
one_of_either page [] more is = inr is
one_of_either page (first ∷ pages) more is = by (page == first) is (one_of_either page pages more) where
  by : (b : Bool) → (b || is_one_of page (pages ++ more)) ≡ true
      → (is_one_of page (pages ++ more) ≡ true → (is_one_of page pages ≡ true) ⊎ (is_one_of page more ≡ true))
      → ((b || is_one_of page pages) ≡ true) ⊎ (is_one_of page more ≡ true)
  by true is further = inl refl
  by false is further = further is

pub one_of_first : (page first : ℕ) (pages : List ℕ) → is_one_of page (first ∷ pages) ≡ true
    → (page ≡ first) ⊎ (is_one_of page pages ≡ true)
one_of_first page first pages is = by (page == first) refl is where
  by : (b : Bool) → (page == first) ≡ b → (b || is_one_of page pages) ≡ true
      → (page ≡ first) ⊎ (is_one_of page pages ≡ true)
  by true e is = inl (grind (arith, nat_tests, e))
  by false e is = inr is

-- ---- leaves, new and shared

-- all of these pages are kept
abbrev pub Inside : List ℕ → List ℕ → Type 0
Inside pages kept = (page : ℕ) → is_one_of page pages ≡ true → is_one_of page kept ≡ true

-- What is taken was taken by the old leaves too, or lies below the next page and isn't kept.
abbrev pub Passed : List ℕ → ℕ → List ℕ → List ℕ → Type 0
Passed kept from old taken = (page : ℕ) → is_one_of page taken ≡ true
    → (is_one_of page old ≡ true) ⊎ ((page < from) × (is_one_of page kept ≡ false))

not_both : {G : Type 0} (b : Bool) → b ≡ true → b ≡ false → G
not_both b yes_is no_is = absurd (false≢true (sym no_is ∙ yes_is))

pub none_unless : (b : Bool) → (b ≡ true → ⊥) → b ≡ false
none_unless true no_is = absurd (no_is refl)
none_unless false no_is = refl

passed_spares : (kept : List ℕ) (from : ℕ) (old taken : List ℕ) → Inside old kept → Passed kept from old taken
    → Spares kept from taken
passed_spares kept from old taken inside passed page least free = none_unless (is_one_of page taken) (λ one. by (passed page one)) where
  by : (is_one_of page old ≡ true) ⊎ ((page < from) × (is_one_of page kept ≡ false)) → ⊥
  by (inl one) = not_both (is_one_of page kept) (inside page one) free
  by (inr below) = omega (arith, below.0, least)

frees_less : (kept : List ℕ) (from : ℕ) (pages old taken : List ℕ) → Inside pages kept → Passed kept from old taken
    → AreFree old pages → AreFree taken pages
frees_less kept from [] old taken inside passed free = tt
frees_less kept from (page ∷ pages) old taken inside passed free =
    let here = free_none old page free.0 in (
      free_is taken page here.0 (none_unless (is_one_of page taken) (λ one. by here.1 (passed page one))),
      frees_less kept from pages (page ∷ old) (page ∷ taken)
          (λ p one. inside p (one_later p page pages one))
          (λ p one. more p (one_of_first p page taken one)) free.1,
    ) where
      by : is_one_of page old ≡ false → (is_one_of page old ≡ true) ⊎ ((page < from) × (is_one_of page kept ≡ false)) → ⊥
      by none (inl one) = not_both (is_one_of page old) one none
      by none (inr below) = not_both (is_one_of page kept) (inside page (one_here page pages)) below.1

      more : (p : ℕ) → (p ≡ page) ⊎ (is_one_of p taken ≡ true)
          → (is_one_of p (page ∷ old) ≡ true) ⊎ ((p < from) × (is_one_of p kept ≡ false))
      more p (inl same) = inl (subst (λ (q : ℕ). is_one_of q (page ∷ old) ≡ true) (sym same) (one_here page old))
      more p (inr one) = elim (passed p one) [
        | inl old_one ↦ inl (one_later p page old old_one)
        | inr below ↦ inr below
      ]

-- the pages that these leaves take, behind those that are taken
abbrev pub over : List Leaf → List ℕ → List ℕ
over [] taken = taken
over (leaf ∷ leaves) taken = over leaves (leaf.pages ++ taken)

over_keeps : (leaves : List Leaf) (taken : List ℕ) (page : ℕ) → is_one_of page taken ≡ true
    → is_one_of page (over leaves taken) ≡ true
over_keeps [] taken page one = one
over_keeps (leaf ∷ leaves) taken page one =
    over_keeps leaves (leaf.pages ++ taken) page (one_right page leaf.pages taken one)

over_inside : (leaves : List Leaf) (taken kept : List ℕ) → Inside (pages_of_leaves leaves) kept → Inside taken kept
    → Inside (over leaves taken) kept
over_inside [] taken kept inside more = more
over_inside (leaf ∷ leaves) taken kept inside more =
    over_inside leaves (leaf.pages ++ taken) kept
    (λ page one. inside page (one_right page leaf.pages (pages_of_leaves leaves) one))
    (λ page one. by page (one_of_either page leaf.pages taken one)) where
      by : (page : ℕ) → (is_one_of page leaf.pages ≡ true) ⊎ (is_one_of page taken ≡ true) → is_one_of page kept ≡ true
      by page (inl one) = inside page (one_left page leaf.pages (pages_of_leaves leaves) one)
      by page (inr one) = more page one

leaves_split : (book : Book) (before : List Leaf) (leaf : Leaf) (after : List Leaf) (taken : List ℕ)
    → LeavesLie book taken (before ++ leaf ∷ after)
    → LeafLies book (over before taken) leaf × LeavesLie book (leaf.pages ++ over before taken) after
leaves_split book [] leaf after taken lie = lie
leaves_split book (first ∷ before) leaf after taken lie =
    leaves_split book before leaf after (first.pages ++ taken) lie.1

pages_front : (before after : List Leaf) (kept : List ℕ) → Inside (pages_of_leaves (before ++ after)) kept
    → Inside (pages_of_leaves before) kept × Inside (pages_of_leaves after) kept
pages_front [] after kept inside = (λ page one. absurd (false≢true one), inside)
pages_front (first ∷ before) after kept inside =
    let rest = pages_front before after kept (λ page one. inside page (one_right page first.pages (pages_of_leaves (before ++ after)) one)) in
    (λ page one. by page (one_of_either page first.pages (pages_of_leaves before) one) rest.0, rest.1) where
      by : (page : ℕ) → (is_one_of page first.pages ≡ true) ⊎ (is_one_of page (pages_of_leaves before) ≡ true)
          → Inside (pages_of_leaves before) kept → is_one_of page kept ≡ true
      by page (inl one) further = inside page (one_left page first.pages (pages_of_leaves (before ++ after)) one)
      by page (inr one) further = further page one

module _ (file kept : List ℕ) where
  book : Book
  book = pages_of file

  pub chain_lies : (from : ℕ) (pages payload taken : List ℕ) → 3 ≤ from → from ≤ most_pages → IsRun kept from pages
      → Fills pages payload → Spares kept from taken → Stand file (chain_pieces pages payload)
      → IsChain (pages_of file) taken (record { pages = pages; payload = payload })
  chain_lies from pages payload taken high few run fills spares stand = record {
    links = links_stand file kept from pages payload run fills stand;
    free = run_free kept from pages taken high run spares;
    short = omega (arith, run_length kept from pages few run);
  }

  pub fresh_lies : (from : ℕ) (leaf : Leaf) (taken : List ℕ) → 3 ≤ from → from ≤ most_pages → IsFresh kept from leaf
      → Spares kept from taken → Stand file (chain_pieces leaf.pages (spelled_leaf leaf.objects))
      → LeafLies (pages_of file) taken leaf
  fresh_lies from leaf taken high few fresh spares stand = record {
    payload = spelled_leaf leaf.objects;
    chain = chain_lies from leaf.pages (spelled_leaf leaf.objects) taken high few fresh.run fresh.fills spares stand;
    holds = leaf_back leaf.number leaf.pages leaf.objects fresh.are;
  }

  pub renewed_lie : (old : List Leaf) (from : ℕ) (leaves : List Leaf) (pieces : List Piece) (left : List Leaf) (next : ℕ)
      (before taken : List ℕ) → RenewsTo kept old from leaves pieces left next → 3 ≤ from → from ≤ most_pages
      → LeavesLie (pages_of file) before old → Inside (pages_of_leaves old) kept → Inside before kept
      → Passed kept from before taken → Stand file pieces → LeavesLie (pages_of file) taken leaves
  renewed_lie old from [] pieces left next before taken renews high few lie inside first passed stand = tt
  renewed_lie old from (leaf ∷ leaves) pieces left next before taken (inl r) high few lie inside first passed stand =
      let parts : Stand file (chain_pieces leaf.pages (spelled_leaf leaf.objects) ++ r.1.0) = subst (Stand file) r.1.1 stand in
      let least = behind_least kept from leaf.pages r.0.run in
      let most = run_end kept from leaf.pages few r.0.run in (
        fresh_lies from leaf taken high few r.0 (passed_spares kept from before taken first passed)
            (stand_front file (chain_pieces leaf.pages (spelled_leaf leaf.objects)) r.1.0 parts),
        renewed_lie old (behind from leaf.pages) leaves r.1.0 left next before (leaf.pages ++ taken) r.1.2
            (omega (arith, least, high)) most lie inside first
            (λ p one. step r.0.run least p (one_of_either p leaf.pages taken one))
            (stand_back file (chain_pieces leaf.pages (spelled_leaf leaf.objects)) r.1.0 parts),
      ) where
        step : IsRun kept from leaf.pages → from ≤ behind from leaf.pages
            → (p : ℕ) → (is_one_of p leaf.pages ≡ true) ⊎ (is_one_of p taken ≡ true)
            → (is_one_of p before ≡ true) ⊎ ((p < behind from leaf.pages) × (is_one_of p kept ≡ false))
        step run least p (inl one) = let a = run_above kept from leaf.pages p run one in inr (a.1, a.2)
        step run least p (inr one) = elim (passed p one) [
          | inl there ↦ inl there
          | inr below ↦ inr (omega (arith, below.0, least), below.1)
        ]
  renewed_lie old from (leaf ∷ leaves) pieces left next before taken (inr s) high few lie inside first passed stand =
      let lie_so : LeavesLie (pages_of file) before (s.0 ++ leaf ∷ s.1) = subst (LeavesLie (pages_of file) before) s.2 lie in
      let inside_so : Inside (pages_of_leaves (s.0 ++ leaf ∷ s.1)) kept = subst (λ l. Inside (pages_of_leaves l) kept) s.2 inside in
      let split = leaves_split (pages_of file) s.0 leaf s.1 before lie_so in
      let parts = pages_front s.0 (leaf ∷ s.1) kept inside_so in
      let own : Inside leaf.pages kept = λ p one. parts.1 p (one_left p leaf.pages (pages_of_leaves s.1) one) in
      let others : Inside (pages_of_leaves s.1) kept = λ p one. parts.1 p (one_right p leaf.pages (pages_of_leaves s.1) one) in
      let reached = over s.0 before in
      let all : Inside reached kept = over_inside s.0 before kept parts.0 first in
      let further : Passed kept from reached taken = λ p one. over_more s.0 p (passed p one) in (
        record {
          payload = split.0.payload;
          chain = record {
            links = split.0.chain.links;
            free = frees_less kept from leaf.pages reached taken own further split.0.chain.free;
            short = split.0.chain.short;
          };
          holds = split.0.holds;
        },
        renewed_lie s.1 from leaves pieces left next (leaf.pages ++ reached) (leaf.pages ++ taken) s.3 high few split.1 others
            (λ p one. joined reached own all p (one_of_either p leaf.pages reached one))
            (λ p one. both reached further p (one_of_either p leaf.pages taken one)) stand,
      ) where
        over_more : (passed_by : List Leaf) (p : ℕ) → (is_one_of p before ≡ true) ⊎ ((p < from) × (is_one_of p kept ≡ false))
            → (is_one_of p (over passed_by before) ≡ true) ⊎ ((p < from) × (is_one_of p kept ≡ false))
        over_more passed_by p (inl one) = inl (over_keeps passed_by before p one)
        over_more passed_by p (inr below) = inr below

        joined : (reached : List ℕ) → Inside leaf.pages kept → Inside reached kept → (p : ℕ)
            → (is_one_of p leaf.pages ≡ true) ⊎ (is_one_of p reached ≡ true) → is_one_of p kept ≡ true
        joined reached own all p (inl one) = own p one
        joined reached own all p (inr one) = all p one

        both : (reached : List ℕ) → Passed kept from reached taken → (p : ℕ)
            → (is_one_of p leaf.pages ≡ true) ⊎ (is_one_of p taken ≡ true)
            → (is_one_of p (leaf.pages ++ reached) ≡ true) ⊎ ((p < from) × (is_one_of p kept ≡ false))
        both reached further p (inl one) = inl (one_left p leaf.pages reached one)
        both reached further p (inr one) = elim (further p one) [
          | inl there ↦ inl (one_right p leaf.pages reached there)
          | inr below ↦ inr below
        ]

-- ---- the whole

all_true : (a b c d : Bool) → a ≡ true → b ≡ true → c ≡ true → d ≡ true → (a && (b && (c && d))) ≡ true
all_true a b c d p q r s = rw (p, q, r, s) refl

less_is : (a b : ℕ) → a < b → nat_lt a b ≡ true
less_is a b less = grind (arith, nat_tests)

root_counts : (extent : Extent) → extent.number < 2 ^ 63 → is_counted (root_of extent) extent ≡ true
root_counts extent small =
    let root = root_of extent in
    all_true (nat_lt root.number (2 ^ 63)) (root.serial == largest_serial (objects_of extent))
    (root.objects == length (objects_of extent)) (root.pages == length (pages_used extent))
    (less_is extent.number (2 ^ 63) small) (eq-eqb _ _ refl) (eq-eqb _ _ refl) (eq-eqb _ _ refl)

module _ (file kept : List ℕ) (old : List Leaf) (page : ℕ) (around : Around) (extent : Extent) (pieces : List Piece) where
  -- what a plan says holds in each file in which its pieces stand, where the old leaves lie in it in pages that are kept
  pub planned_laid : (first : List ℕ) → IsPlanned kept old page around extent pieces → page < most_pages
      → LeavesLie (pages_of file) first old → Inside (pages_of_leaves old) kept → Inside first kept
      → Stand file pieces → IsLaid (pages_of file) page extent
  planned_laid first plan few lie inside inside_first stand =
      let root = root_of extent in
      let spelled = spelled_directory (entries_of extent.leaves) in
      let chain = chain_pieces extent.directory spelled in
      let all = subst (Stand file) plan.pieces_are stand in
      let from_root = stand_back file around.before (root_piece page root ∷ (around.after ++ (chain ++ plan.leaf_pieces))) all in
      let behind_root = stand_back file around.after (chain ++ plan.leaf_pieces) from_root.1 in
      let least = behind_least kept 3 extent.directory plan.run in
      let most = run_end kept 3 extent.directory (omega arith) plan.run in
      let same = root_back root plan.fits in
      record {
        bytes = root_page root;
        there = page_there file page (root_page root) few (root_page_long root) from_root.0;
        number = ap (λ (r : Root). r.number) same;
        counted = subst (λ (r : Root). is_counted r extent ≡ true) (sym same) (root_counts extent plan.number);
        first = ap (λ (r : Root). r.directory) same;
        payload = spelled;
        chain = chain_lies file kept 3 extent.directory spelled [] (omega arith) (omega arith) plan.run plan.fills
            (λ p high free. refl) (stand_front file chain plan.leaf_pieces behind_root);
        entries = directory_back extent.directory (entries_of extent.leaves) plan.entries;
        leaves = renewed_lie file kept old (behind 3 extent.directory) extent.leaves plan.leaf_pieces plan.left plan.next first
            extent.directory plan.renews (omega (arith, least)) most lie inside inside_first
            (λ p one. let a = run_above kept 3 extent.directory p plan.run one in inr (a.1, a.2))
            (stand_back file chain plan.leaf_pieces behind_root);
      }
