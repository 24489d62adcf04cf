-- What crashes leave of a store while a checkpoint is made.
use Rattle.std.proofs.Common.{◌≡◌, ℕ, List, [], Option, Some, None, option_map, Ok, refl, sym, ap, subst, ◌∙◌, inl, inr}
use Rattle.gem_disk.specs.declared.disk.Which.TheVariants.{Extent as OfExtent, Log as OfLog}
use Rattle.gem_disk.specs.Disk.{Files, Past, reads, as_read, FileImages}
use Rattle.gem_disk.specs.Runs.{LeavesOnly}
use Rattle.gem_disk.proofs.Moments.{and_then, leaves_less}
use Rattle.gem_record.specs.Stored.{Root as StoredRoot, image_pages}
use Rattle.gem_image.specs.Image.{Image}
use Rattle.disk_pieces.specs.Crashes.{ExtentHas, OnlyLeaves}
use Rattle.extent_pages.specs.Extent.{Extent, extent_of}
use Rattle.extent_plan.specs.Needed.{AreChanged}
use Rattle.page_file.specs.declared.file.PageFile.{PageFile}
use Rattle.page_file.specs.PageFile.{IsAtRest as ExtentRests}
use Rattle.page_file.specs.Checkpoint.{IsCheckpoint, StandsFor as ExtentStands}
use Rattle.page_file.specs.Changing.{counted_root, number_before, Follows, MayChange, IsChanged}
use Rattle.tran_log.specs.declared.logged.Logged.{Logged}
use Rattle.tran_log.specs.Log.{log_of}
use Rattle.tran_log.specs.Reads.{EndsAt}
use Rattle.tran_log.specs.Resting.{SameExtent, IsAtRest as LogRests, HoldsOrNone}
use Rattle.tran_log.proofs.Restarting.{rest_reads}
use Rattle.gem_keeper.specs.Found.{StandsFor}
use Rattle.stone_store.specs.declared.parts.Root.{Root}
use Rattle.stone_store.specs.declared.parts.Parts.{Parts}
use Rattle.stone_store.specs.Counted.{since_root}
use Rattle.stone_store.specs.Store.{found_in}
use Rattle.stone_store.specs.Left.{FilesStandFor}
use Rattle.stone_store.specs.Resting.{stored_root, BothRest, IsEmptied}
use Rattle.stone_store.proofs.Unchanged.{extent_unchanged}
use Rattle.stone_store.proofs.Standing.{IsStore, held_of, root_low, checkpoint_stands, is_checkpointed, keeps_held}
use Rattle.stone_store.proofs.Rests.{found_at, log_read, is_store, stands_here, extent_stays}

follows_root : (root : Option Extent) (logged : List Logged) → IsStore root logged → (image : Image) (number : ℕ)
    → StandsFor image number (Some (found_in (held_of root logged))) → Follows root image number
follows_root None logged is image number stands = tt
follows_root (Some extent) logged is image number stands =
    (root_low (Some extent) logged is image number stands, keeps_held extent logged is image number stands)

-- the root of the parts goes up to the commit of the extent's
same_since : (known : Option Root) (root : Option Extent) → option_map stored_root known ≡ counted_root root
    → since_root known ≡ number_before root
same_since known root e = known_since known ∙ ap (option_map (λ (r : StoredRoot). r.number)) e ∙ extent_since root where
  known_since : (known : Option Root) → since_root known ≡ option_map (λ (r : StoredRoot). r.number) (option_map stored_root known)
  known_since None = refl
  known_since (Some root) = refl

  extent_since : (root : Option Extent) → option_map (λ (r : StoredRoot). r.number) (counted_root root) ≡ number_before root
  extent_since None = refl
  extent_since (Some extent) = refl

module _ (past : Past) (parts : Parts) (rest : BothRest past parts) (image : Image) (number : ℕ)
    (stands : FilesStandFor image number (as_read past)) where
  store_is : IsStore rest.root rest.logged
  store_is = is_store past parts rest

  stands_held : StandsFor image number (Some (found_in (held_of rest.root rest.logged)))
  stands_held = stands_here past parts rest image number stands

  -- a checkpoint may be written
  pub may_change : (changed : List ℕ) → AreChanged (since_root parts.root) image changed
      → MayChange past parts.pages rest.root image number changed
  may_change changed are = record {
    at_rest = rest.extent;
    follows = follows_root rest.root rest.logged store_is image number stands_held;
    leaves = subst (λ (r : Option ℕ). AreChanged r image changed) (same_since parts.root rest.root rest.counted) are;
  }

  -- an extent with the checkpoint, and the log as it was or empty
  module _ (next : Extent) (file : List ℕ) (read : extent_of file ≡ Ok (Some next)) (made : IsCheckpoint image number next) where
    abbrev with_log : IsStore (Some next) rest.logged × (held_of (Some next) rest.logged ≡ record { root = Some next; records = [] })
    with_log = is_checkpointed rest.root rest.logged store_is image number stands_held next (extent_unchanged file next read) made

    stands_alone : StandsFor image number (Some (found_in (record { root = Some next; records = [] })))
    stands_alone = checkpoint_stands rest.root rest.logged store_is image number stands_held next (extent_unchanged file next read) made

    pub logged_stands : (log : List ℕ) → log_of log ≡ Ok rest.logged → FilesStandFor image number (record { extent = file; log = log })
    logged_stands log holds = subst (StandsFor image number)
        (sym (found_at (record { extent = file; log = log }) (Some next) rest.logged read holds with_log.0.fits
        ∙ ap (λ h. Some (found_in h)) with_log.1)) stands_alone

    pub empty_stands : (log : List ℕ) → log_of log ≡ Ok [] → FilesStandFor image number (record { extent = file; log = log })
    empty_stands log holds = subst (StandsFor image number)
        (sym (found_at (record { extent = file; log = log }) (Some next) [] read holds refl)) stands_alone

  extent_stands : (files : Files) → ExtentHas (ExtentStands rest.root image number) past files → FilesStandFor image number files
  extent_stands files has = by has.extent where
    holds : log_of files.log ≡ Ok rest.logged
    holds = ap log_of (rest.log.durable files.log has.log) ∙ log_read past parts rest

    by : ExtentStands rest.root image number files.extent → FilesStandFor image number files
    by (inl before) = subst (StandsFor image number)
        (sym (found_at files rest.root rest.logged before holds rest.fits)) stands_held
    by (inr (next, read, made)) = logged_stands next files.extent read made files.log holds

  -- what is left while the extent is written
  pub extent_leaves : (new : Past) → OnlyLeaves (ExtentStands rest.root image number) past new
      → LeavesOnly past new (FilesStandFor image number)
  extent_leaves new only = leaves_less past new (ExtentHas (ExtentStands rest.root image number) past)
      (FilesStandFor image number) extent_stands only.run

  -- behind it
  module _ (mid : Past) (only : OnlyLeaves (ExtentStands rest.root image number) past mid) (pages : PageFile)
      (changed : IsChanged mid pages image number) where
    pub log_rests : LogRests mid rest.logged parts.log
    log_rests = record {
      ends = subst (λ (l : List ℕ). EndsAt l rest.logged parts.log) (sym only.log_read) rest.log.ends;
      durable = λ log left. rest.log.durable log (only.log log left) ∙ sym only.log_read;
    }

    none_stands : (files : Files) → HoldsOrNone mid rest.logged files → FilesStandFor image number files
    none_stands files either =
        let extent : FileImages mid.first mid.steps OfExtent files.extent = extent_of_either files either in
        let read : extent_of files.extent ≡ Ok (Some changed.next) =
        ap extent_of (changed.at_rest.durable files.extent extent) ∙ changed.at_rest.stands in
        elim either [
          | inl holds ↦ logged_stands changed.next files.extent read changed.holds files.log holds.log
          | inr holds ↦ empty_stands changed.next files.extent read changed.holds files.log holds.log
        ]
      where
        extent_of_either : (files : Files) → HoldsOrNone mid rest.logged files → FileImages mid.first mid.steps OfExtent files.extent
        extent_of_either files (inl holds) = holds.extent
        extent_of_either files (inr holds) = holds.extent

    -- what is left while the log is emptied, too
    pub both_leave : (new : Past) → LeavesOnly mid new (HoldsOrNone mid rest.logged)
        → LeavesOnly past new (FilesStandFor image number)
    both_leave new run = and_then past mid new (FilesStandFor image number) (extent_leaves mid only)
        (leaves_less mid new (HoldsOrNone mid rest.logged) (FilesStandFor image number) none_stands run)

    module _ (new : Past) (made : Parts) (run : LeavesOnly mid new (HoldsOrNone mid rest.logged)) (same : SameExtent mid new)
        (log : LogRests new [] made.log) (pages_are : made.pages ≡ pages)
        (counted : counted_root (Some changed.next) ≡ Some (record { number = number; pages = image_pages image })) where
      abbrev pub is_emptied : IsEmptied new made image number
      is_emptied = record {
        next = changed.next;
        extent = subst (λ (p : PageFile). ExtentRests new p (Some changed.next)) (sym pages_are)
            (extent_stays mid new (HoldsOrNone mid rest.logged) extent_left run same pages (Some changed.next) changed.at_rest);
        log = log;
        holds = changed.holds;
        counted = counted;
      }
        where
          extent_left : (files : Files) → HoldsOrNone mid rest.logged files → FileImages mid.first mid.steps OfExtent files.extent
          extent_left files (inl holds) = holds.extent
          extent_left files (inr holds) = holds.extent

      pub emptied_reads : FilesStandFor image number (as_read new)
      emptied_reads = empty_stands changed.next (reads new OfExtent) is_emptied.extent.stands changed.holds
          (reads new OfLog) (rest_reads new [] made.log log)

-- a store at rest behind a checkpoint
pub emptied_rests : (past : Past) (parts made : Parts) (image : Image) (number : ℕ) → IsEmptied past parts image number
    → made.pages ≡ parts.pages → made.log ≡ parts.log
    → option_map stored_root made.root ≡ Some (record { number = number; pages = image_pages image }) → BothRest past made
emptied_rests past parts made image number is pages log root = record {
  root = Some is.next;
  logged = [];
  extent = subst (λ (p : PageFile). ExtentRests past p (Some is.next)) (sym pages) is.extent;
  log = subst (λ (n : ℕ). LogRests past [] n) (sym log) is.log;
  fits = refl;
  counted = root ∙ sym is.counted;
}
