-- A store at rest, and what a run of calls leaves of it.
use Rattle.std.proofs.Common.{◌≡◌, ℕ, ◌+◌, ◌^◌, ◌<◌, ◌≤◌, List, [], ◌∷◌, ◌++◌, length, Option, Some, None, IsTrue, IfSome, option_map, Ok, refl, sym, ap, ap₂, subst, ◌∙◌, inl, inr, arith}
use Rattle.std.proofs.lemmas.List.{length-append}
use Rattle.gem_disk.specs.declared.disk.Which.TheVariants.{Extent as OfExtent, Log as OfLog}
use Rattle.gem_disk.specs.Disk.{Files, Past, moment, reads, as_read, FileImages, CrashImages}
use Rattle.gem_disk.specs.Runs.{LeavesOnly}
use Rattle.gem_disk.proofs.Moments.{now_counts, leaves_less}
use Rattle.gem_disk.specs.declared.images.Pick.TheVariants.{Old}
use Rattle.gem_disk.specs.Picked.{picked_file}
use Rattle.gem_disk.proofs.Leaves.{old_image}
use Rattle.gem_object.specs.declared.object.Object.{Object}
use Rattle.gem_record.specs.declared.effect.Effect.{Effect}
use Rattle.gem_record.specs.declared.limits.TheConstants.{LOG_LIMIT}
use Rattle.gem_image.specs.Image.{Image, with_objects}
use Rattle.kernel_image.specs.Objects.{kernel_image}
use Rattle.kernel_image.proofs.Unchanged.{kernel_unchanged}
use Rattle.body_codec.specs.Stored.{IsStoredEffect}
use Rattle.extent_pages.specs.Extent.{Extent, extent_of}
use Rattle.page_file.specs.declared.file.PageFile.{PageFile}
use Rattle.page_file.specs.PageFile.{AreLists, IsAtRest as ExtentRests}
use Rattle.page_file.specs.Opening.{IsUnchanged}
use Rattle.tran_log.specs.declared.logged.Logged.{Logged}
use Rattle.tran_log.specs.Log.{Format2, content, follows, spelled_record, logged_as, log_of, last_number as log_last}
use Rattle.tran_log.specs.Reads.{AreRead}
use Rattle.tran_log.specs.Resting.{SameExtent, IsAtRest as LogRests, MayAppend, HoldsEither}
use Rattle.tran_log.proofs.Restarting.{rest_reads}
use Rattle.tran_log.proofs.Walks.{record_long}
use Rattle.gem_keeper.specs.Found.{Found, StandsFor}
use Rattle.gem_keeper.specs.Crashes.{IsNextBody, StandsForEither}
use Rattle.stone_store.specs.declared.parts.Parts.{Parts}
use Rattle.stone_store.specs.Store.{held_by, held_unless, store_of, found_by, found_of, root_number, root_image, misfit, number_of, found_in}
use Rattle.stone_store.specs.Left.{FilesStandFor}
use Rattle.stone_store.specs.Resting.{stored_root, stored_in, BothRest, IsStoredIn}
use Rattle.stone_store.specs.Whole.{RestsBy, StoresBy}
use Rattle.stone_store.proofs.Numbers.{in_turn, next_follows, IsWithNext, with_next}
use Rattle.stone_store.proofs.Unchanged.{extent_unchanged}
use Rattle.stone_store.proofs.Standing.{are_records, next_is_record, IsStore, held_of, number_is, next_stands}

-- ---- by what is read of both files

pub store_at : (files : Files) (root : Option Extent) (logged : List Logged) → extent_of files.extent ≡ Ok root
    → log_of files.log ≡ Ok logged → misfit (root_number root) logged ≡ None → store_of files ≡ Ok (held_of root logged)
store_at files root logged extent log fits = ap₂ held_by extent log ∙ ap (held_unless root logged) fits

pub found_at : (files : Files) (root : Option Extent) (logged : List Logged) → extent_of files.extent ≡ Ok root
    → log_of files.log ≡ Ok logged → misfit (root_number root) logged ≡ None
    → found_of files ≡ Some (found_in (held_of root logged))
found_at files root logged extent log fits = ap found_by (store_at files root logged extent log fits)

-- no object of a root's image counts as changed by a commit
pub kernel_is_unchanged : IsUnchanged kernel_image
kernel_is_unchanged name object there =
    subst (λ (o : Option Object). IfSome o (λ (one : Object). one.changed ≡ 0)) there (kernel_unchanged name)

pub root_unchanged : (file : List ℕ) (root : Option Extent) → extent_of file ≡ Ok root → IsUnchanged (root_image root)
root_unchanged file None read = kernel_is_unchanged
root_unchanged file (Some extent) read = extent_unchanged file extent read

-- ---- at rest

pub read_of : (past : Past) (logged : List Logged) (end : ℕ) → LogRests past logged end → AreRead logged
read_of past logged end rest = record {
  records = rest.ends.chained;
  follow = rest.ends.records;
  logged_is = rest.ends.logged_is;
}

module _ (past : Past) (parts : Parts) (rest : BothRest past parts) where
  pub log_read : log_of (reads past OfLog) ≡ Ok rest.logged
  log_read = rest_reads past rest.logged parts.log rest.log

  pub is_store : IsStore rest.root rest.logged
  is_store =
      let read = read_of past rest.logged parts.log rest.log in
      record {
        unchanged = root_unchanged (reads past OfExtent) rest.root rest.extent.stands;
        turn = in_turn rest.logged read;
        are = are_records rest.logged read;
        fits = rest.fits;
      }

  pub found_here : (files : Files) → CrashImages past files → found_of files ≡ Some (found_in (held_of rest.root rest.logged))
  found_here files left = found_at files rest.root rest.logged
      (ap extent_of (rest.extent.durable files.extent left.extent) ∙ rest.extent.stands)
      (ap log_of (rest.log.durable files.log left.log) ∙ log_read) rest.fits

  pub found_read : found_of (as_read past) ≡ Some (found_in (held_of rest.root rest.logged))
  found_read = found_at (as_read past) rest.root rest.logged rest.extent.stands log_read rest.fits

  -- what it stands for as it reads is what each crash leaves
  pub left_here : (P : Option Found → Type 0) → P (found_of (as_read past)) → (files : Files) → CrashImages past files
      → P (found_of files)
  left_here P reads files left = subst P (found_read ∙ sym (found_here files left)) reads

  pub stands_here : (image : Image) (number : ℕ) → FilesStandFor image number (as_read past)
      → StandsFor image number (Some (found_in (held_of rest.root rest.logged)))
  stands_here image number stands = subst (StandsFor image number) found_read stands

-- what is stored is what the files have
pub stored_is : (past : Past) (parts : Parts) → BothRest past parts → IsStoredIn (as_read past) (stored_in parts)
stored_is past parts rest = record {
  root = rest.root;
  extent = rest.extent.stands;
  root_is = rest.counted;
  log_length = inr (rest.logged, (_, (rest.log.ends, refl)));
}

pub stores_by : (past : Past) (parts : Option Parts) → RestsBy past parts → StoresBy (as_read past) parts
stores_by past None rest = tt
stores_by past (Some parts) rest = stored_is past parts rest

-- ---- the extent, while the log is written

-- what a run leaves of the extent, by what it leaves of both files
pub extent_stays : (old new : Past) (P : Files → Type 0)
    → ((files : Files) → P files → FileImages old.first old.steps OfExtent files.extent)
    → LeavesOnly old new P → SameExtent old new → (pages : PageFile) (root : Option Extent)
    → ExtentRests old pages root → ExtentRests new pages root
extent_stays old new P extents run same pages root rest = record {
  stands = ap extent_of same ∙ rest.stands;
  durable = λ image left.
      let files : Files = record { extent = image; log = picked_file Old new OfLog } in
      let crash : CrashImages new files = record { extent = left; log = old_image new.first new.steps OfLog } in
      rest.durable image (extents files (run.each files (now_counts (moment old) new files crash))) ∙ sym same;
  lists = subst (λ (file : List ℕ). AreLists file pages.current root) (sym same) rest.lists;
}

-- ---- one record more

module _ (past : Past) (parts : Parts) (rest : BothRest past parts) (image : Image) (number : ℕ) (effect : Effect)
    (body : List ℕ) (next : IsNextBody number effect body) (stands : FilesStandFor image number (as_read past))
    (short : parts.log + 1 + length body ≤ LOG_LIMIT) where
  stands_held : StandsFor image number (Some (found_in (held_of rest.root rest.logged)))
  stands_held = stands_here past parts rest image number stands

  stored_next : IsStoredEffect (number + 1) effect
  stored_next = next.stored (omega (arith, short))

  number_next : effect.number ≡ number + 1
  number_next = stored_next.number_is

  abbrev pub added_record : Logged
  added_record = logged_as parts.log next.mode effect

  content_short : length (content (Format2 next.mode effect)) < 2 ^ 31
  content_short =
      let long = record_long (Format2 next.mode effect) in
      let all = length-append (spelled_record next.mode effect) (0 ∷ []) in
      let size = ap length next.body_is in
      omega (arith, short, long, all, size)

  last_held : number_of (held_of rest.root rest.logged) ≡ number
  last_held = number_is rest.root rest.logged (is_store past parts rest) image number stands_held

  -- the record may be added to the log
  pub may_append : MayAppend past parts.log body rest.logged next.mode effect
  may_append = record {
    at_rest = rest.log;
    next = record {
      stored = subst (λ (n : ℕ). IsStoredEffect n effect) (sym number_next) stored_next;
      short = content_short;
      number = subst (λ (n : ℕ). IsTrue (follows (log_last None rest.logged) n)) (sym number_next)
          (next_follows (root_number rest.root) number rest.logged (is_store past parts rest).turn rest.fits last_held next.small);
    };
    body_is = next.body_is;
  }

  fits_next : IsWithNext (root_number rest.root) rest.logged added_record
  fits_next = with_next (root_number rest.root) rest.logged added_record (is_store past parts rest).turn rest.fits
      (number_next ∙ ap (λ (n : ℕ). n + 1) (sym last_held))

  stands_next : StandsFor (with_objects image effect.objects) (number + 1)
      (Some (found_in (held_of rest.root (rest.logged ++ added_record ∷ []))))
  stands_next = subst (λ (l : List Logged). StandsFor (with_objects image effect.objects) (number + 1)
      (Some (found_in (record { root = rest.root; records = l })))) (sym fits_next.kept)
      (next_stands rest.root rest.logged (is_store past parts rest) image number stands_held added_record number_next
      (next_is_record parts.log (number + 1) next.mode effect stored_next))

  -- what either log stands for, behind the root
  either_stands : (files : Files) → HoldsEither past rest.logged (added_record ∷ []) files
      → StandsForEither image number effect (found_of files)
  either_stands files (inl holds) = inl (subst (StandsFor image number)
      (sym (found_at files rest.root rest.logged (ap extent_of (rest.extent.durable files.extent holds.extent) ∙ rest.extent.stands)
      holds.log rest.fits)) stands_held)
  either_stands files (inr holds) = inr (subst (StandsFor (with_objects image effect.objects) (number + 1))
      (sym (found_at files rest.root (rest.logged ++ added_record ∷ [])
      (ap extent_of (rest.extent.durable files.extent holds.extent) ∙ rest.extent.stands) holds.log fits_next.fits)) stands_next)

  extent_either : (files : Files) → HoldsEither past rest.logged (added_record ∷ []) files
      → FileImages past.first past.steps OfExtent files.extent
  extent_either files (inl holds) = holds.extent
  extent_either files (inr holds) = holds.extent

  -- what a run that adds the record leaves
  pub append_leaves : (new : Past) → LeavesOnly past new (HoldsEither past rest.logged (added_record ∷ []))
      → LeavesOnly past new (λ files. StandsForEither image number effect (found_of files))
  append_leaves new run = leaves_less past new (HoldsEither past rest.logged (added_record ∷ []))
      (λ files. StandsForEither image number effect (found_of files)) either_stands run

  -- a store at rest behind it
  module _ (new : Past) (made : Parts) (run : LeavesOnly past new (HoldsEither past rest.logged (added_record ∷ [])))
      (same : SameExtent past new) (log : LogRests new (rest.logged ++ added_record ∷ []) made.log)
      (pages : made.pages ≡ parts.pages) (root : made.root ≡ parts.root) where
    pub append_rests : BothRest new made
    append_rests = record {
      root = rest.root;
      logged = rest.logged ++ added_record ∷ [];
      extent = subst (λ (p : PageFile). ExtentRests new p rest.root) (sym pages)
          (extent_stays past new (HoldsEither past rest.logged (added_record ∷ [])) extent_either run same parts.pages rest.root rest.extent);
      log = log;
      fits = fits_next.fits;
      counted = ap (option_map stored_root) root ∙ rest.counted;
    }

    pub append_stands : FilesStandFor (with_objects image effect.objects) (number + 1) (as_read new)
    unfolding append_rests
    append_stands = subst (StandsFor (with_objects image effect.objects) (number + 1))
        (sym (found_read new made append_rests)) stands_next
