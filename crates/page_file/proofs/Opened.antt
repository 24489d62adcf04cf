-- What an extent that was opened says of its disk.
use Rattle.std.proofs.Common.{◌≡◌, ℕ, List, Option, Some, None, Ok, IfSome, refl, sym, ap, subst, ◌∙◌}
use Rattle.std.specs.List.{AllByRecursion}
use Rattle.gem_disk.specs.declared.disk.Which.TheVariants.{Extent as OfExtent}
use Rattle.gem_disk.specs.Disk.{Past, Synced, reads, stepped}
use Rattle.gem_image.specs.Image.{Image}
use Rattle.disk_pieces.specs.Crashes.{IsDurable}
use Rattle.extent_pages.specs.Extent.{Leaf, Extent, selected, extent_of}
use Rattle.extent_pages.specs.Stored.{IsStoredLeaf, IsStoredExtent}
use Rattle.extent_plan.specs.declared.place.LeafPlace.{LeafPlace}
use Rattle.extent_plan.specs.Plan.{ArePlaces}
use Rattle.page_file.specs.declared.file.Current.{Current}
use Rattle.page_file.specs.declared.file.PageFile.{PageFile}
use Rattle.page_file.specs.Opening.{AreTaken}
use Rattle.page_file.specs.PageFile.{AreLists, IsAtRest, AreFound}

-- what was found, where it is an extent
pub found_some : (old : Past) (found : Option Extent) (extent : Extent) → extent_of (reads old OfExtent) ≡ Ok found
    → found ≡ Some extent → extent_of (reads old OfExtent) ≡ Ok (Some extent)
found_some old found extent read is = subst (λ (o : Option Extent). extent_of (reads old OfExtent) ≡ Ok o) is read

-- it can be stored
pub stored_of : (found : Option Extent) (extent : Extent) (leaves : List Leaf) → found ≡ Some extent
    → leaves ≡ extent.leaves → IfSome found (λ (e : Extent). IsStoredExtent e)
    → IsStoredExtent extent × AllByRecursion IsStoredLeaf leaves
stored_of found extent leaves is leaves_are stored =
    let each : IsStoredExtent extent = subst (λ (o : Option Extent). IfSome o (λ (e : Extent). IsStoredExtent e)) is stored in
    (each, subst (AllByRecursion IsStoredLeaf) (sym leaves_are) each.leaves.each)

module _ (old new : Past) (synced : new ≡ stepped old OfExtent Synced (reads old OfExtent)) where
  -- a sync changes nothing that is read, and brings all of it to the disk
  pub reads_same : reads new OfExtent ≡ reads old OfExtent
  reads_same = ap (λ (p : Past). reads p OfExtent) synced

  all_durable : IsDurable new
  all_durable = subst IsDurable (sym synced) (λ image left. left)

  still : (before : Option Extent) → extent_of (reads old OfExtent) ≡ Ok before → extent_of (reads new OfExtent) ≡ Ok before
  still before read = ap extent_of reads_same ∙ read

  -- where no checkpoint was made
  pub none_found : (pages : PageFile) → pages.current ≡ None → extent_of (reads old OfExtent) ≡ Ok None
      → (before : Option Extent) × (extent_of (reads old OfExtent) ≡ Ok before) × AreFound None 0 before × IsAtRest new pages before
  none_found pages none read = (
    None,
    read,
    refl,
    record {
      stands = still None read;
      durable = all_durable;
      lists = subst (λ (o : Option Current). AreLists (reads new OfExtent) o None) (sym none) tt;
    },
  )

  -- where one was
  module _ (extent : Extent) (read : extent_of (reads old OfExtent) ≡ Ok (Some extent)) (stored : IsStoredExtent extent) where
    pub some_found : (pages : PageFile) (current : Current) (image : Image) (number : ℕ) (places : List LeafPlace)
        → pages.current ≡ Some current → AreTaken extent.leaves image places
        → current.page ≡ selected (reads new OfExtent) → current.number ≡ number
        → current.directory.items ≡ extent.directory → current.leaves.items ≡ places → number ≡ extent.number
        → (before : Option Extent) × (extent_of (reads old OfExtent) ≡ Ok before) × AreFound (Some image) number before × IsAtRest new pages before
    some_found pages current image number places is taken page_is number_is directory_is leaves_are same = (
      Some extent,
      read,
      (taken.image_is, same),
      record {
        stands = still (Some extent) read;
        durable = all_durable;
        lists = subst (λ (o : Option Current). AreLists (reads new OfExtent) o (Some extent)) (sym is) (record {
          page = page_is;
          number = number_is ∙ same;
          directory = directory_is;
          leaves = subst (λ (l : List LeafPlace). ArePlaces l extent.leaves) (sym leaves_are) taken.places_are;
          stored = stored;
        });
      },
    )
