-- What a checkpoint over an open extent starts from, and what it leaves.
use Rattle.std.proofs.Common.{◌≡◌, ℕ, ◌-◌, List, [], Option, Some, None, Ok, refl, sym, ap, subst, ◌∙◌, inl}
use Rattle.gem_disk.specs.declared.disk.Which.TheVariants.{Extent as OfExtent}
use Rattle.gem_disk.specs.Disk.{Past, reads}
use Rattle.gem_image.specs.Image.{Image}
use Rattle.disk_pieces.specs.Pieces.{Piece}
use Rattle.disk_pieces.specs.Crashes.{IsDurable, OnlyLeaves}
use Rattle.disk_pieces.proofs.Crashes.{only_durable}
use Rattle.disk_pieces.proofs.Switching.{switches_none}
use Rattle.extent_pages.specs.Pages.{pages_of}
use Rattle.extent_pages.specs.Extent.{Extent, image_in, selected, extent_of}
use Rattle.extent_pages.specs.Laid.{IsLaid}
use Rattle.extent_pages.proofs.Files.{opened}
use Rattle.extent_plan.specs.declared.place.LeafPlace.{LeafPlace}
use Rattle.extent_plan.specs.declared.plan.Plan.{Plan}
use Rattle.extent_plan.specs.Drafts.{Sharing}
use Rattle.extent_plan.specs.Plan.{ArePlaces, IsPlanned}
use Rattle.extent_plan.specs.Needed.{AreChanged, AreToWrite, numbers_at}
use Rattle.extent_plan.specs.Planning.{IsPlanFor}
use Rattle.extent_plan.specs.Shared.{KeepsHeld}
use Rattle.extent_plan.proofs.Changed.{later_written}
use Rattle.extent_plan.proofs.Sharing.{sharing_from}
use Rattle.extent_plan.proofs.Storing.{planned_stored}
use Rattle.page_file.specs.declared.file.Current.{Current}
use Rattle.page_file.specs.declared.file.PageFile.{PageFile}
use Rattle.page_file.specs.Around.{first_around, later_around}
use Rattle.page_file.specs.Checkpoint.{other_page, switch_of, SwitchesFrom, StandsFor}
use Rattle.page_file.specs.Planned.{root_before, new_page, AreUsed, IsRooted, MayCheckpoint}
use Rattle.page_file.specs.PageFile.{IsCurrent, AreLists}
use Rattle.page_file.specs.Changing.{root_in, MayShare, MayChange, IsNext, IsChanged}
use Rattle.page_file.proofs.Files.{used_far}
use Rattle.page_file.proofs.Few.{used_few, leaves_few, used_many}

-- ---- leaves that are stored

module _ (file : List ℕ) (current : Current) (extent : Extent) (is : IsCurrent file current extent) (stands : extent_of file ≡ Ok (Some extent)) where
  laid : IsLaid (pages_of file) (selected file) extent
  laid = (opened file extent stands).laid

  pub may_share : (image : Image) (changed : List ℕ) → KeepsHeld image (image_in extent) extent.number
      → AreChanged (Some extent.number) image changed → MayShare image changed current extent
  may_share image changed keeps are = record {
    number = is.number;
    directory = is.directory;
    leaves = is.leaves;
    far = used_far (pages_of file) (selected file) extent laid;
    numbers = used_few file (selected file) extent laid;
    few = leaves_few file (selected file) extent laid;
    sharing = subst (λ (n : ℕ). Sharing image n extent.leaves) (sym is.number) (sharing_from image extent.number extent.leaves keeps is.stored.leaves);
    written = subst (λ (n : ℕ). AreToWrite image n (numbers_at current.leaves.items) changed) (sym is.number)
        (later_written image extent.number extent.leaves current.leaves.items changed is.leaves is.stored.leaves keeps are);
    stored = is.stored.leaves;
    keeps = keeps;
    many = λ used ascend are. used_many file (selected file) extent laid used 3 ascend are;
  }

-- ---- what was planned

-- what is asked of a later one
pub later_shares : (past : Past) (image : Image) (number : ℕ) (changed : List ℕ) (pages : PageFile) (current : Current)
    (before : Option Extent) → MayChange past pages before image number changed → pages.current ≡ Some current
    → (extent : Extent) × (before ≡ Some extent) × MayShare image changed current extent
later_shares past image number changed pages current None may e = absurd (subst (λ (o : Option Current). AreLists (reads past OfExtent) o None) e may.at_rest.lists)
later_shares past image number changed pages current (Some extent) may e =
    let is : IsCurrent (reads past OfExtent) current extent = subst (λ (o : Option Current). AreLists (reads past OfExtent) o (Some extent)) e may.at_rest.lists in
    (extent, refl, may_share (reads past OfExtent) current extent is may.at_rest.stands image changed may.follows.1 may.leaves)

-- what is known where there is none
pub no_root : (past : Past) (image : Image) (number : ℕ) (changed : List ℕ) (pages : PageFile) (before : Option Extent)
    → MayChange past pages before image number changed → pages.current ≡ None
    → (before ≡ None) × AreChanged None image changed
no_root past image number changed pages None may e = (refl, may.leaves)
no_root past image number changed pages (Some extent) may e = absurd (subst (λ (o : Option Current). AreLists (reads past OfExtent) o (Some extent)) e may.at_rest.lists)

module _ (past : Past) (image : Image) (number : ℕ) (changed : List ℕ) (plan : Plan) where
  -- a first checkpoint
  pub first_next : (pages : PageFile) (before : Option Extent) → MayChange past pages before image number changed
      → pages.current ≡ None
      → IsPlanFor image number 1 [] [] first_around.before first_around.after plan → IsNext past before image number 1 plan
  first_next pages None may e for = record {
    may = record {
      stands = may.at_rest.stands;
      durable = may.at_rest.durable;
      next = for.extent;
      planned = for.planned;
      holds = record { number_is = for.number_is; agrees = for.agrees };
    };
    page_is = refl;
    directory = for.directory;
    leaves = for.leaves;
    stored = planned_stored [] [] 1 first_around for.extent plan.pieces.items for.planned tt;
  }
  first_next pages (Some extent) may e for = absurd (subst (λ (o : Option Current). AreLists (reads past OfExtent) o (Some extent)) e may.at_rest.lists)

  -- a later one
  pub later_next : (pages : PageFile) (current : Current) (before : Option Extent) (extent : Extent) → before ≡ Some extent
      → MayChange past pages before image number changed → pages.current ≡ Some current
      → (kept : List ℕ) → AreUsed kept extent
      → IsPlanFor image number (3 - current.page) kept extent.leaves later_around.before later_around.after plan
      → IsNext past before image number (3 - current.page) plan
  later_next pages current before extent same may e kept used for = subst (λ (b : Option Extent). MayChange past pages b image number changed → IsNext past b image number (3 - current.page) plan) (sym same) made may
    where
      made : MayChange past pages (Some extent) image number changed
          → IsNext past (Some extent) image number (3 - current.page) plan
      made change =
          let is : IsCurrent (reads past OfExtent) current extent = subst (λ (o : Option Current). AreLists (reads past OfExtent) o (Some extent)) e change.at_rest.lists in
          let page : 3 - current.page ≡ other_page (selected (reads past OfExtent)) = ap other_page is.page in
          record {
            may = record {
              stands = change.at_rest.stands;
              durable = change.at_rest.durable;
              next = for.extent;
              planned = (kept, used, subst (λ (p : ℕ). IsPlanned kept extent.leaves p later_around for.extent plan.pieces.items) page for.planned);
              holds = record { number_is = for.number_is; agrees = for.agrees };
            };
            page_is = page;
            directory = for.directory;
            leaves = for.leaves;
            stored = planned_stored kept extent.leaves (3 - current.page) later_around for.extent plan.pieces.items for.planned is.stored.leaves.each;
          }

-- ---- around the writing

-- the page that the open extent names is that of the file's root
pub root_is : (past : Past) (pages : PageFile) (before : Option Extent) (image : Image) (number : ℕ) (changed : List ℕ)
    → MayChange past pages before image number changed → root_in pages.current ≡ root_before (reads past OfExtent) before
root_is past pages before image number changed may = by pages.current before may.at_rest.lists
  where
    by : (current : Option Current) (b : Option Extent) → AreLists (reads past OfExtent) current b
        → root_in current ≡ root_before (reads past OfExtent) b
    by None None lists = refl
    by None (Some extent) lists = absurd lists
    by (Some current) None lists = absurd lists
    by (Some current) (Some extent) lists = ap (λ (p : ℕ). Some p) lists.page

-- what is written, by the pieces that are
pub may_write : (past : Past) (before : Option Extent) (image : Image) (number page : ℕ) (plan : Plan) (pieces : List Piece)
    → IsNext past before image number page plan
    → pieces ≡ plan.pieces.items → MayCheckpoint past before image number pieces
may_write past before image number page plan pieces next is = subst (MayCheckpoint past before image number) (sym is) next.may

pub rooted_next : (past : Past) (before : Option Extent) (image : Image) (number page : ℕ) (plan : Plan)
    (next : IsNext past before image number page plan) (file : List ℕ) (pieces : List Piece) (root : Option ℕ)
    → pieces ≡ plan.pieces.items → root ≡ root_before (reads past OfExtent) before
    → ((may : MayCheckpoint past before image number pieces) → IsRooted file may.next (new_page root))
    → IsRooted file next.may.next (new_page (root_before (reads past OfExtent) before))
rooted_next past before image number page plan next file pieces root pieces_are root_same done =
    subst (λ (r : Option ℕ). IsRooted file next.may.next (new_page r)) root_same
    (subst (λ (l : List Piece). (may : MayCheckpoint past before image number l) → IsRooted file may.next (new_page root)) pieces_are done next.may)

-- once it is made
pub is_changed : (past new : Past) (before : Option Extent) (image : Image) (number page : ℕ) (plan : Plan)
    (pages : PageFile) (current : Current) → (next : IsNext past before image number page plan)
    → IsDurable new → IsRooted (reads new OfExtent) next.may.next (new_page (root_before (reads past OfExtent) before))
    → pages.current ≡ Some current → current.page ≡ page → current.number ≡ number
    → current.directory.items ≡ plan.directory.items → current.leaves.items ≡ plan.leaves.items
    → IsChanged new pages image number
is_changed past new before image number page plan pages current next durable rooted is page_is number_is directory_is leaves_are = record {
  next = next.may.next;
  at_rest = record {
    stands = rooted.stands;
    durable = durable;
    lists = subst (λ (o : Option Current). AreLists (reads new OfExtent) o (Some next.may.next)) (sym is) (record {
      page = page_is ∙ next.page_is ∙ sym rooted.page_is;
      number = number_is ∙ sym next.may.holds.number_is;
      directory = directory_is ∙ next.directory;
      leaves = subst (λ (l : List LeafPlace). ArePlaces l next.may.next.leaves) (sym leaves_are) next.leaves;
      stored = next.stored;
    });
  };
  holds = next.may.holds;
}

-- where nothing was done
pub still_stands : (past : Past) (pages : PageFile) (before : Option Extent) (image : Image) (number : ℕ) (changed : List ℕ)
    → MayChange past pages before image number changed → OnlyLeaves (StandsFor before image number) past past
still_stands past pages before image number changed may = only_durable (λ (file : List ℕ). StandsFor before image number file) past may.at_rest.durable (inl may.at_rest.stands)

pub nothing_switched : (past : Past) (pages : PageFile) (before : Option Extent) (image : Image) (number : ℕ) (changed : List ℕ)
    → MayChange past pages before image number changed → SwitchesFrom before past past
nothing_switched past pages before image number changed may = switches_none (λ (file : List ℕ). extent_of file ≡ Ok before) (switch_of before) past past
    (only_durable (λ (file : List ℕ). extent_of file ≡ Ok before) past may.at_rest.durable may.at_rest.stands)
