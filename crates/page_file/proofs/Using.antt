-- How many pages the current root uses.
use Rattle.std.proofs.Common.{◌≡◌, ℕ, ◌+◌, ◌-◌, ◌^◌, min, List, [], ◌∷◌, length, Option, Some, None, option_map, Ok, refl, ap, subst, arith}
use Rattle.std.proofs.lemmas.List.{length-append}
use Rattle.std.proofs.lemmas.List.Sums.{sum_by-cons}
use Rattle.gem_disk.specs.declared.disk.Which.TheVariants.{Extent as OfExtent}
use Rattle.gem_disk.specs.Disk.{Past, reads}
use Rattle.extent_pages.specs.Extent.{Leaf, Extent, pages_of_leaves, pages_used, extent_of}
use Rattle.extent_pages.proofs.Files.{opened}
use Rattle.extent_plan.specs.declared.place.LeafPlace.{LeafPlace}
use Rattle.extent_plan.specs.Plan.{ArePlaces}
use Rattle.extent_plan.specs.Totals.{pages_at}
use Rattle.page_file.specs.declared.file.Current.{Current}
use Rattle.page_file.specs.declared.file.PageFile.{PageFile}
use Rattle.page_file.specs.PageFile.{AreLists, IsCurrent, IsAtRest}
use Rattle.page_file.proofs.Few.{leaves_few}

places_pages : (places : List LeafPlace) (leaves : List Leaf) → ArePlaces places leaves
    → pages_at places ≡ length (pages_of_leaves leaves)
places_pages [] [] are = refl
places_pages [] (leaf ∷ leaves) are = absurd are
places_pages (place ∷ places) [] are = absurd are
places_pages (place ∷ places) (leaf ∷ leaves) (one, are) =
    let rest = places_pages places leaves are in
    let all = length-append leaf.pages (pages_of_leaves leaves) in
    let sum = sum_by-cons (λ (p : LeafPlace). length p.pages.items) place places in
    let own = ap length one.pages in
    omega (arith, rest, all, sum, own)

current_count : (file : List ℕ) (current : Current) (extent : Extent) → extent_of file ≡ Ok (Some extent) → IsCurrent file current extent
    → min (min (pages_at current.leaves.items) (2 ^ 64 - 1) + length current.directory.items) (2 ^ 64 - 1) ≡ length (pages_used extent)
current_count file current extent stands is =
    let open_so = opened file extent stands in
    let few = leaves_few file _ extent open_so.laid in
    let short = open_so.laid.chain.short in
    let places = places_pages current.leaves.items extent.leaves is.leaves in
    let directory = ap length is.directory in
    let all = length-append extent.directory (pages_of_leaves extent.leaves) in
    omega (arith, few, short, places, directory, all)

-- by what the pages say of the current root
pub used_some : (past : Past) (pages : PageFile) (before : Option Extent) (current : Current) → IsAtRest past pages before
    → pages.current ≡ Some current
    → Some (min (min (pages_at current.leaves.items) (2 ^ 64 - 1) + length current.directory.items) (2 ^ 64 - 1))
    ≡ option_map (λ (extent : Extent). length (pages_used extent)) before
used_some past pages before current rest is = by before rest.stands
    (subst (λ (o : Option Current). AreLists (reads past OfExtent) o before) is rest.lists)
  where
    by : (b : Option Extent) → extent_of (reads past OfExtent) ≡ Ok b → AreLists (reads past OfExtent) (Some current) b
        → Some (min (min (pages_at current.leaves.items) (2 ^ 64 - 1) + length current.directory.items) (2 ^ 64 - 1))
        ≡ option_map (λ (extent : Extent). length (pages_used extent)) b
    by None stands lists = absurd lists
    by (Some extent) stands lists =
        ap (λ (n : ℕ). Some n) (current_count (reads past OfExtent) current extent stands lists)

pub used_none : (past : Past) (pages : PageFile) (before : Option Extent) → IsAtRest past pages before → pages.current ≡ None
    → ◌≡◌ {A = Option ℕ} None (option_map (λ (extent : Extent). length (pages_used extent)) before)
used_none past pages before rest is = by before
    (subst (λ (o : Option Current). AreLists (reads past OfExtent) o before) is rest.lists)
  where
    by : (b : Option Extent) → AreLists (reads past OfExtent) None b
        → ◌≡◌ {A = Option ℕ} None (option_map (λ (extent : Extent). length (pages_used extent)) b)
    by None lists = refl
    by (Some extent) lists = absurd lists
