-- What crashes leave of a store while it is opened, and what it stands for then.
use Rattle.std.proofs.Common.{◌≡◌, ℕ, suc, ◌+◌, ◌<◌, ◌≤◌, List, [], ◌∷◌, length, Option, Some, None, option_map, IfSome, Result, Ok, Err, refl, sym, ap, ap₂, subst, ◌∙◌, inl, inr, arith}
use Rattle.std.proofs.lemmas.Bool.{cases_lt}
use Rattle.std.proofs.lemmas.List.{length-append}
use Rattle.std.specs.FinMap.{get}
use Rattle.gem_sound.specs.Sound.{IsSoundImage, BreaksFirst}
use Rattle.image_check.specs.declared.fault.SoundFault.{SoundFault}
use Rattle.image_check.specs.declared.fault.SoundFault.TheVariants as sound
use Rattle.image_check.specs.Faults.{IsFault as BreaksSoundness, rule_of}
use Rattle.page_file.specs.Opening.{IsUnchanged}
use Rattle.gem_disk.specs.declared.disk.Which.TheVariants.{Extent as OfExtent, Log as OfLog}
use Rattle.gem_disk.specs.Disk.{Files, Past, Synced, reads, as_read, stepped, FileImages, CrashImages}
use Rattle.gem_disk.specs.Runs.{LeavesOnly}
use Rattle.gem_disk.proofs.Moments.{started, goes_on, leaves_less}
use Rattle.gem_disk.proofs.Leaves.{reads_on}
use Rattle.gem_image.specs.Image.{Image, objects_in}
use Rattle.extent_pages.specs.Extent.{Extent, extent_of}
use Rattle.extent_pages.specs.declared.fault.PageFault.{PageFault}
use Rattle.extent_pages.specs.declared.fault.PageFault.TheVariants.{NotPages, Disk, NoMemory}
use Rattle.extent_pages.specs.Reads.{IsFault, SyncsOnce}
use Rattle.page_file.specs.declared.file.PageFile.{PageFile}
use Rattle.page_file.specs.PageFile.{IsAtRest as ExtentRests, AreFound}
use Rattle.tran_log.specs.declared.logged.Logged.{Logged}
use Rattle.tran_log.specs.declared.fault.LogFault.{LogFault}
use Rattle.tran_log.specs.declared.fault.LogFault.TheVariants as logs
use Rattle.tran_log.specs.declared.fault.LogRule.TheVariants as rule
use Rattle.tran_log.specs.Log.{chain, log_of}
use Rattle.tran_log.specs.Reads.{LogFails}
use Rattle.tran_log.specs.Resting.{SameExtent, IsOldOrRead}
use Rattle.tran_log.proofs.Restarting.{rest_reads}
use Rattle.gem_keeper.specs.Found.{StandsFor}
use Rattle.stone_store.specs.declared.fault.StoreFlaw.{StoreFlaw}
use Rattle.stone_store.specs.declared.fault.StoreFlaw.TheVariants as flaw
use Rattle.stone_store.specs.declared.parts.Parts.{Parts}
use Rattle.stone_store.specs.declared.parts.FoundImage.{FoundImage}
use Rattle.stone_store.specs.declared.records.Restored.{Restored}
use Rattle.stone_store.specs.Store.{Held, held_unless, held_by, store_of, found_by, image_of, number_of, found_in, root_image, root_number, misfit}
use Rattle.stone_store.specs.Left.{FilesStandFor, StandsInAll}
use Rattle.stone_store.specs.Opening.{of_pages, of_log, of_sound, OpensNot, IsFound, MayGoOn, ReadsSame}
use Rattle.stone_store.specs.Restoring.{image_read, IsRestored, IsFromRecords, RestsAs, IsStoreOf}
use Rattle.stone_store.specs.Resting.{BothRest, IsLogLength}
use Rattle.stone_store.specs.Whole.{StoresBy}
use Rattle.stone_store.proofs.Standing.{held_of, stands_itself, changed_by}
use Rattle.stone_store.proofs.Rests.{store_at, log_read, is_store, found_read, extent_stays, kernel_is_unchanged}

-- ---- the extent, which is synced

abbrev pub synced : Past → Past
synced old = stepped old OfExtent Synced (reads old OfExtent)

module _ (old : Past) (image : Image) (number : ℕ) (all : StandsInAll old image number) where
  abbrev Stands : Files → Type 0
  Stands files = FilesStandFor image number files

  one_synced : (files : Files) → CrashImages (synced old) files → Stands files
  one_synced files left = subst (λ (extent : List ℕ). Stands (record { extent = extent; log = files.log })) (sym left.extent)
      (all.each (record { extent = reads old OfExtent; log = files.log }) (record { extent = all.honest.extent; log = left.log }))

  same_leaves : LeavesOnly old old Stands
  same_leaves = started old Stands all.each

  synced_leaves : LeavesOnly old (synced old) Stands
  synced_leaves = goes_on old old OfExtent Synced (reads old OfExtent) Stands same_leaves one_synced

  pub pages_leave : {T E : Type 0} (result : Result T E) (mid : Past) → SyncsOnce old result mid → LeavesOnly old mid Stands
  pages_leave (Ok x) mid is = subst (λ (p : Past). LeavesOnly old p Stands) (sym is) synced_leaves
  pages_leave (Err x) mid (inl same) = subst (λ (p : Past). LeavesOnly old p Stands) (sym same) same_leaves
  pages_leave (Err x) mid (inr is) = subst (λ (p : Past). LeavesOnly old p Stands) (sym is) synced_leaves

  pub all_synced : (mid : Past) → mid ≡ synced old → StandsInAll mid image number
  all_synced mid is = subst (λ (p : Past). StandsInAll p image number) (sym is) (record {
    honest = reads_on old OfExtent Synced (reads old OfExtent) all.honest refl;
    each = one_synced;
  })

same_reads : (old new : Past) → reads new OfExtent ≡ reads old OfExtent → reads new OfLog ≡ reads old OfLog → ReadsSame old new
same_reads old new extent log = record {
  extent = ap extent_of extent;
  log = ap log_of log;
  bytes = λ long. log;
  short = λ small. subst (λ (bytes : List ℕ). length bytes ≤ 1) (sym log) small;
}

synced_same : (old mid : Past) → mid ≡ synced old → ReadsSame old mid
synced_same old mid is = same_reads old mid (ap (λ (p : Past). reads p OfExtent) is) (ap (λ (p : Past). reads p OfLog) is)

pub pages_same : {T E : Type 0} (old mid : Past) (result : Result T E) → SyncsOnce old result mid → ReadsSame old mid
pages_same old mid (Ok x) is = synced_same old mid is
pages_same old mid (Err x) (inl same) = same_reads old mid (ap (λ (p : Past). reads p OfExtent) same) (ap (λ (p : Past). reads p OfLog) same)
pages_same old mid (Err x) (inr is) = synced_same old mid is

pub same_then : (old mid new : Past) → ReadsSame old mid → ReadsSame mid new → ReadsSame old new
same_then old mid new first then = record {
  extent = then.extent ∙ first.extent;
  log = then.log ∙ first.log;
  bytes = λ long. then.bytes (subst (λ (bytes : List ℕ). 1 < length bytes) (sym (first.bytes long)) long) ∙ first.bytes long;
  short = λ small. then.short (first.short small);
}

-- what both files hold goes by what is read of them
pub same_store : (old new : Past) → ReadsSame old new → store_of (as_read new) ≡ store_of (as_read old)
same_store old new same = ap₂ held_by same.extent same.log

-- ---- the log, which is made one where it is short

short_log : (log : List ℕ) → length log ≤ 1 → log_of log ≡ Ok []
short_log [] short = refl
short_log (gate ∷ []) short = refl
short_log (gate ∷ byte ∷ rest) short = absurd (omega (arith, short))

log_stays : (old new : List ℕ) → (1 < length old → new ≡ old) → (length old ≤ 1 → length new ≤ 1) → log_of new ≡ log_of old
log_stays old new kept short = elim (cases_lt 1 (length old)) [
  | inl long ↦ ap log_of (kept long)
  | inr small ↦ short_log new (short small) ∙ sym (short_log old small)
]

module _ (mid new : Past) (run : LeavesOnly mid new (IsOldOrRead mid)) (same : SameExtent mid new) where
  pub log_leaves : (image : Image) (number : ℕ) → StandsInAll mid image number → LeavesOnly mid new (FilesStandFor image number)
  log_leaves image number all = leaves_less mid new (IsOldOrRead mid) (FilesStandFor image number) less run where
    less : (files : Files) → IsOldOrRead mid files → FilesStandFor image number files
    less files (inl left) = all.each files left
    less files (inr holds) = subst (λ r. StandsFor image number (found_by (held_by (extent_of files.extent) r))) (sym holds.log)
        (all.each (record { extent = files.extent; log = reads mid OfLog })
        (record { extent = holds.extent; log = all.honest.log }))

  pub log_same : (1 < length (reads mid OfLog) → reads new OfLog ≡ reads mid OfLog)
      → (length (reads mid OfLog) ≤ 1 → length (reads new OfLog) ≤ 1) → ReadsSame mid new
  log_same kept short = record {
    extent = ap extent_of same;
    log = log_stays (reads mid OfLog) (reads new OfLog) kept short;
    bytes = kept;
    short = short;
  }

  extents : (files : Files) → IsOldOrRead mid files → FileImages mid.first mid.steps OfExtent files.extent
  extents files (inl left) = left.extent
  extents files (inr holds) = holds.extent

  pub pages_rest : (pages : PageFile) (root : Option Extent) → ExtentRests mid pages root → ExtentRests new pages root
  pages_rest pages root rest = extent_stays mid new (IsOldOrRead mid) extents run same pages root rest

-- ---- faults

pub pages_flaw : (files : Files) (fault : PageFault) → IsFault fault (extent_of files.extent) → OpensNot (store_of files) (of_pages fault)
pages_flaw files (NotPages at broken) (page, is, read) =
    ap (λ r. held_by r (log_of files.log)) read ∙ ap (λ (n : ℕ). Err (flaw.Extent n broken)) (sym is)
pages_flaw files Disk is = tt
pages_flaw files NoMemory is = tt

pub log_flaw : (files : Files) (root : Option Extent) (fault : LogFault) → extent_of files.extent ≡ Ok root
    → LogFails (log_of files.log) fault → OpensNot (store_of files) (of_log fault)
log_flaw files root (logs.NotLog at broken) extent is = ap₂ held_by extent is
log_flaw files root logs.Disk extent is = tt
log_flaw files root logs.NoMemory extent is = tt

-- ---- what was read

-- what both files hold, by what was restored of them
pub rest_store : (past : Past) (parts : Parts) (restored : Restored) → RestsAs past parts restored
    → IsStoreOf restored (store_of (as_read past))
rest_store past parts restored rest = (
  rest.root,
  rest.logged,
  rest.restored_is,
  ap₂ held_by rest.extent.stands (rest_reads past rest.logged parts.log rest.log),
)

ok_held : (x y : Held) → ◌≡◌ {A = Result Held StoreFlaw} (Ok x) (Ok y) → x ≡ y
ok_held x y e = cc

-- what was found is what a store at rest stands for
pub found_stands : (past : Past) (parts : Parts) (rest : BothRest past parts) (found : FoundImage)
    → IsFound (store_of (as_read past)) found → FilesStandFor found.image found.number (as_read past)
found_stands past parts rest found is =
    let held : is.held ≡ held_of rest.root rest.logged = ok_held is.held (held_of rest.root rest.logged)
    (sym is.store_is ∙ store_at (as_read past) rest.root rest.logged rest.extent.stands (log_read past parts rest) rest.fits) in
    subst (StandsFor found.image found.number) (sym (found_read past parts rest))
    (subst (λ (h : Held). StandsFor found.image found.number (Some (found_in h))) held
    (subst (λ (i : Image). StandsFor i found.number (Some (found_in is.held))) (sym is.image_is)
    (subst (λ (n : ℕ). StandsFor (image_of is.held) n (Some (found_in is.held))) (sym is.number_is)
    (subst (λ (h : Held). StandsFor (image_of h) (number_of h) (Some (found_in h))) (sym held)
    (stands_itself rest.root rest.logged (is_store past parts rest))))))

pub number_found : (image : Option Image) (number : ℕ) (root : Option Extent) → AreFound image number root → number ≡ root_number root
number_found None number None is = is
number_found None number (Some extent) is = absurd is
number_found (Some image) number None is = absurd is
number_found (Some image) number (Some extent) is = is.1

held_fits : (root : Option Extent) (logged : List Logged) (held : Held) (one : Option Logged)
    → held_unless root logged one ≡ Ok held → one ≡ None
held_fits root logged held None is = refl
held_fits root logged held (Some one) is = absurd cc

-- what was restored is at rest, where it is a store
pub both_rest : (past : Past) (parts : Parts) (restored : Restored) (found : FoundImage) → RestsAs past parts restored
    → IsFound (store_of (as_read past)) found → BothRest past parts
both_rest past parts restored found rest is = record {
  root = rest.root;
  logged = rest.logged;
  extent = rest.extent;
  log = rest.log;
  fits = held_fits rest.root rest.logged is.held (misfit (root_number rest.root) rest.logged)
      (sym (ap₂ held_by rest.extent.stands (rest_reads past rest.logged parts.log rest.log)) ∙ is.store_is);
  counted = rest.counted;
}

-- ---- what was restored, by what was read

pub first_is : (image : Option Image) (number : ℕ) (root : Option Extent) → AreFound image number root
    → image_read image ≡ root_image root
first_is None number None is = refl
first_is None number (Some extent) is = absurd is
first_is (Some image) number None is = absurd is
first_is (Some image) number (Some extent) is = is.0

pub restored_over : (first : Image) (number : ℕ) (logged : List Logged) (restored : Restored) (root : Option Extent)
    → IsRestored first number logged restored → first ≡ root_image root → number ≡ root_number root
    → IsRestored (root_image root) (root_number root) logged restored
restored_over first number logged restored root is first_is number_is =
    subst (λ (i : Image). IsRestored i (root_number root) logged restored) first_is
    (subst (λ (n : ℕ). IsRestored first n logged restored) number_is is)

pub image_unchanged : (image : Option Image) (first : Image) → first ≡ image_read image → IfSome image IsUnchanged
    → IsUnchanged first
image_unchanged None first is all = subst IsUnchanged (sym is) kernel_is_unchanged
image_unchanged (Some image) first is all = subst IsUnchanged (sym is) all

placed_none : (found : Option Logged) → option_map (λ (one : Logged). one.at) found ≡ None → found ≡ None
placed_none None none = refl
placed_none (Some one) none = absurd cc

-- ---- the answer

-- the records fit where no misfit was found
none_found : (restored : Restored) (root : ℕ) (logged : List Logged) (first : Image) → IsRestored first root logged restored
    → restored.misfit ≡ None → misfit root logged ≡ None
none_found restored root logged first is none = placed_none (misfit root logged) (sym is.misfit_is ∙ none)

same_place : (x y : ℕ) → ◌≡◌ {A = Option ℕ} (Some x) (Some y) → x ≡ y
same_place x y e = cc

-- the first record that doesn't fit is the flaw
pub misfit_flaws : (restored : Restored) (at : ℕ) (store : Result Held StoreFlaw) → restored.misfit ≡ Some at
    → IsStoreOf restored store → store ≡ Err (flaw.Log at rule.Number)
misfit_flaws restored at store there is =
    is.3 ∙ by (misfit (root_number is.0) is.1) (sym is.2.misfit_is ∙ there)
  where
    by : (one : Option Logged) → option_map (λ (o : Logged). o.at) one ≡ Some at
        → held_unless is.0 is.1 one ≡ Err (flaw.Log at rule.Number)
    by None e = absurd cc
    by (Some one) e = ap (λ (n : ℕ). Err (flaw.Log n rule.Number)) (same_place one.at at e)

-- what is held where all records fit
held_there : (restored : Restored) (store : Result Held StoreFlaw) → restored.misfit ≡ None → IsStoreOf restored store
    → (held : Held) × (store ≡ Ok held) × (restored.found.image ≡ image_of held) × (restored.found.number ≡ number_of held)
held_there restored store none is = (
  held_of is.0 is.1,
  is.3 ∙ ap (held_unless is.0 is.1) (none_found restored (root_number is.0) is.1 (root_image is.0) is.2 none),
  is.2.image_is,
  is.2.number_is,
)

pub is_found : (restored : Restored) (store : Result Held StoreFlaw) → restored.misfit ≡ None → IsStoreOf restored store
    → IsSoundImage restored.found.image → IsFound store restored.found
is_found restored store none is sound =
    let there = held_there restored store none is in
    record { held = there.0; store_is = there.1; image_is = there.2; number_is = there.3; sound = sound }

-- the first rule that the image breaks is the flaw
pub sound_flaws : (restored : Restored) (store : Result Held StoreFlaw) (fault : SoundFault) → restored.misfit ≡ None
    → IsStoreOf restored store → BreaksSoundness (objects_in restored.found.image) fault → OpensNot store (of_sound fault)
sound_flaws restored store (sound.Broken oid broken) none is breaks =
    let there = held_there restored store none is in
    (there.0, there.1, subst (λ (i : Image). BreaksFirst (objects_in i) oid (rule_of broken)) there.2 breaks)
sound_flaws restored store sound.NoMemory none is breaks = tt

-- sessions can go on with what was restored, whatever the disk tells
pub goes_on_with : (restored : Restored) → IsFromRecords restored → restored.misfit ≡ None → IsSoundImage restored.found.image
    → MayGoOn restored.found
goes_on_with restored is none sound = record {
  sound = sound;
  changed = λ name object there. subst (λ (n : ℕ). object.changed ≤ n) (sym is.restored_is.number_is)
      (changed_by is.root is.logged is.first is.read
      (none_found restored is.root is.logged is.first is.restored_is none) is.unchanged name object
      (sym (ap (λ (i : Image). get i name) is.restored_is.image_is) ∙ there));
}

one_left : (records behind end n : ℕ) → records + suc behind ≤ 1 → end ≡ records → n ≡ end + 1 → n ≡ 1
one_left records behind end n small is length_is = omega arith

-- the bytes of a short log are no records
pub no_record : (bytes : List ℕ) (n : ℕ) → length bytes ≤ 1 → IsLogLength bytes n → n ≡ 1
no_record bytes n small (inl short) = short.1
no_record bytes n small (inr (logged, (end, (ends, is)))) =
    let whole : length bytes ≡ length (chain ends.chained) + length (ends.gate ∷ ends.behind) =
    ap length ends.file ∙ length-append (chain ends.chained) (ends.gate ∷ ends.behind) in
    one_left (length (chain ends.chained)) (length ends.behind) end n (subst (λ (m : ℕ). m ≤ 1) whole small) ends.end_is is

log_length_before : (old new : List ℕ) (n : ℕ) → (1 < length old → new ≡ old) → (length old ≤ 1 → length new ≤ 1)
    → IsLogLength new n → IsLogLength old n
log_length_before old new n kept short is = elim (cases_lt 1 (length old)) [
  | inl long ↦ subst (λ (bytes : List ℕ). IsLogLength bytes n) (kept long) is
  | inr small ↦ inl (small, no_record new n (short small) is)
]

-- what is stored is what the files held when they were opened
pub stored_before : (old new : Past) (parts : Option Parts) → ReadsSame old new → StoresBy (as_read new) parts
    → StoresBy (as_read old) parts
stored_before old new None same stored = tt
stored_before old new (Some parts) same stored = record {
  root = stored.root;
  extent = sym same.extent ∙ stored.extent;
  root_is = stored.root_is;
  log_length = log_length_before (reads old OfLog) (reads new OfLog) _ same.bytes same.short stored.log_length;
}
