-- The extent of a plan can be stored, where the old leaves can.
use Rattle.std.proofs.Common.{◌≡◌, inl, inr, ℕ, ◌<◌, List, [], ◌∷◌, ◌++◌, length, drop, map, refl, ap, subst, ◌∙◌, arith}
use Rattle.std.specs.List.{AllByRecursion}
use Rattle.std.specs.List.Sorted.{IsStrictlySortedBy}
use Rattle.std.specs.Ordering.{nat_cmp}
use Rattle.std.proofs.lemmas.List.{length-drop}
use Rattle.disk_pieces.specs.Pieces.{Piece}
use Rattle.gem_record.specs.Stored.{chain_pages}
use Rattle.extent_pages.specs.Pages.{most_pages, payload_size}
use Rattle.extent_pages.specs.Spelled.{spelled_directory, spelled_leaf}
use Rattle.extent_pages.specs.Extent.{Leaf, Extent, first_page}
use Rattle.extent_pages.specs.Laid.{entries_of}
use Rattle.extent_pages.specs.Stored.{IsStoredLeaf, IsStoredExtent}
use Rattle.extent_plan.specs.Runs.{behind, IsRun}
use Rattle.extent_plan.specs.Pieces.{Fills}
use Rattle.extent_plan.specs.Plan.{RenewsTo, Around, IsPlanned}
use Rattle.extent_plan.specs.Drafts.{numbers_of}
use Rattle.extent_plan.proofs.Assembling.{directory_long}

first_low : (kept : List ℕ) (from : ℕ) (pages : List ℕ) → IsRun kept from pages → first_page pages < most_pages
first_low kept from [] run = omega arith
first_low kept from (page ∷ pages) run = run.2

-- pages are as many as the payload fills that they hold
fills_many : (pages payload : List ℕ) → Fills pages payload → length pages ≡ chain_pages (length payload)
fills_many [] payload fills = absurd fills
fills_many (page ∷ []) payload fills = omega (arith, fills.0, fills.1)
fills_many (page ∷ next ∷ pages) payload fills =
    omega (arith, fills.0, fills_many (next ∷ pages) (drop payload_size payload) fills.1, length-drop payload_size payload)

from_one_on : (before : List Leaf) (leaf : Leaf) (after : List Leaf) → AllByRecursion IsStoredLeaf (before ++ leaf ∷ after)
    → IsStoredLeaf leaf × AllByRecursion IsStoredLeaf after
from_one_on [] leaf after all = all
from_one_on (first ∷ before) leaf after all = from_one_on before leaf after all.1

renewed_stored : (kept : List ℕ) (old : List Leaf) (from : ℕ) (leaves : List Leaf) (pieces : List Piece) (left : List Leaf) (next : ℕ)
    → RenewsTo kept old from leaves pieces left next → AllByRecursion IsStoredLeaf old → AllByRecursion IsStoredLeaf leaves
renewed_stored kept old from [] pieces left next renews all = tt
renewed_stored kept old from (leaf ∷ leaves) pieces left next (inl r) all =
    let low = first_low kept from leaf.pages r.0.run in
    let one : IsStoredLeaf leaf = record { are = r.0.are; first = omega (arith, low); many = fills_many leaf.pages (spelled_leaf leaf.objects) r.0.fills } in
    (one, renewed_stored kept old (behind from leaf.pages) leaves r.1.0 left next r.1.2 all)
renewed_stored kept old from (leaf ∷ leaves) pieces left next (inr s) all =
    let rest = from_one_on s.0 leaf s.1 (subst (AllByRecursion IsStoredLeaf) s.2 all) in
    (rest.0, renewed_stored kept s.1 from leaves pieces left next s.3 rest.1)

numbers_are : (leaves : List Leaf) → map (λ (entry : ℕ × ℕ). entry.0) (entries_of leaves) ≡ numbers_of leaves
numbers_are [] = refl
numbers_are (leaf ∷ leaves) = ap (λ (l : List ℕ). leaf.number ∷ l) (numbers_are leaves)

pub planned_stored : (kept : List ℕ) (old : List Leaf) (page : ℕ) (around : Around) (extent : Extent) (pieces : List Piece)
    → IsPlanned kept old page around extent pieces → AllByRecursion IsStoredLeaf old → IsStoredExtent extent
planned_stored kept old page around extent pieces planned all = record {
  leaves = record {
    ascend = subst (IsStrictlySortedBy nat_cmp) (numbers_are extent.leaves) planned.entries.ascend;
    each = renewed_stored kept old (behind 3 extent.directory) extent.leaves planned.leaf_pieces planned.left planned.next planned.renews all;
  };
  directory = fills_many extent.directory (spelled_directory (entries_of extent.leaves)) planned.fills
      ∙ ap chain_pages (directory_long extent.leaves);
}
