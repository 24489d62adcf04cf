-- A store as a keeper.
use Rattle.std.proofs.Common.{◌≡◌, ◌⊎◌, ℕ, ◌+◌, ◌<◌, ◌≤◌, List, length, Option, Some, None, is_some, true, IsErrOf, OnOk, option_map, ◌↔◌, Result, Ok, Err, refl, sym, ap, subst, ◌∙◌, inl, inr}
use Rattle.std.proofs.lemmas.Bool.{false≢true, cases_lt}
use Rattle.gem_disk.specs.Disk.{Files, Past, reads, as_read, CrashImages}
use Rattle.gem_disk.specs.Runs.{LeavesOnly}
use Rattle.gem_disk.proofs.Moments.{started}
use Rattle.gem_record.specs.declared.mode.Mode.{Mode}
use Rattle.gem_record.specs.declared.effect.Effect.{Effect}
use Rattle.gem_record.specs.declared.limits.TheConstants.{LOG_LIMIT, PAGE_LIMIT}
use Rattle.gem_record.specs.Stored.{Stored, image_pages, pages_needed, pages_counted, after_checkpoint}
use Rattle.gem_keeper.specs.Keeper.{CheckFails}
use Rattle.gem_keeper.specs.declared.keeper.CheckFault.{CheckFault}
use Rattle.gem_keeper.specs.declared.keeper.CheckFault.TheVariants as check
use Rattle.gem_image.specs.Image.{Image}
use Rattle.tran_log.specs.declared.logged.Logged.{Logged}
use Rattle.tran_log.specs.declared.log.AppendFault.{AppendFault}
use Rattle.tran_log.specs.declared.log.AppendFault.TheVariants.{Full, Disk}
use Rattle.tran_log.specs.Resting.{MayAppend}
use Rattle.gem_keeper.specs.Found.{Found}
use Rattle.gem_keeper.specs.Crashes.{FitsNow, KeepsOnly, IsNextBody}
use Rattle.stone_store.specs.declared.parts.Root.{Root}
use Rattle.stone_store.specs.declared.parts.Parts.{Parts}
use Rattle.stone_store.specs.Counted.{pages_for, CountFails}
use Rattle.stone_store.specs.Store.{found_of}
use Rattle.stone_store.specs.Left.{FilesStandFor}
use Rattle.stone_store.specs.Resting.{stored_root, stored_in, stored_by, BothRest}
use Rattle.stone_store.specs.Whole.{StoreOf, RestsBy, store_moment, store_stands, store_left}
use Rattle.stone_store.proofs.Crashing.{keeps_only, fits_now}
use Rattle.stone_store.proofs.Rests.{left_here, may_append}

-- ---- what the log is asked

-- a record may be added, or there is no room for it
abbrev pub MayOrFull : Past → ℕ → List ℕ → Type 0
MayOrFull past end body = (LOG_LIMIT < end + 1 + length body)
    ⊎ ((logged : List Logged) × (mode : Mode) × (effect : Effect) × MayAppend past end body logged mode effect)

pub may_or_full : (past : Past) (parts : Parts) → BothRest past parts → (image : Image) (number : ℕ) (effect : Effect) (body : List ℕ)
    → IsNextBody number effect body → FilesStandFor image number (as_read past) → MayOrFull past parts.log body
may_or_full past parts rest image number effect body next stands = elim (cases_lt LOG_LIMIT (parts.log + 1 + length body)) [
  | inl long ↦ inl long
  | inr short ↦ inr (rest.logged, next.mode, effect, may_append past parts rest image number effect body next stands short)
]

-- ---- what the log answers

-- it is full exactly where there is no room
abbrev pub FullSays : {T : Type 0} → Result T AppendFault → ℕ → ℕ → Type 0
FullSays result end many = (size : ℕ) (bytes : ℕ) → IsErrOf result (Full size bytes)
    ↔ ((LOG_LIMIT < end + 1 + many) × (size ≡ end + 1) × (bytes ≡ many))

ok_no : {T : Type 0} {G : Type 0} (x : T) (fault : AppendFault) → ◌≡◌ {A = Result T AppendFault} (Ok x) (Err fault) → G
ok_no x fault e = absurd cc

disk_no : {T : Type 0} {G : Type 0} (size bytes : ℕ) → ◌≡◌ {A = Result T AppendFault} (Err Disk) (Err (Full size bytes)) → G
disk_no size bytes e = absurd cc

pub ok_room : {T : Type 0} (x : T) (end many : ℕ) → FullSays (Ok x) end many → end + 1 + many ≤ LOG_LIMIT
ok_room x end many full = elim (cases_lt LOG_LIMIT (end + 1 + many)) [
  | inl over ↦ ok_no x (Full (end + 1) many) ((full (end + 1) many).1 (over, refl, refl))
  | inr room ↦ room
]

pub disk_room : {T : Type 0} (fault : AppendFault) (end many : ℕ) → fault ≡ Disk → FullSays {T = T} (Err fault) end many
    → end + 1 + many ≤ LOG_LIMIT
disk_room {T} fault end many is full = elim (cases_lt LOG_LIMIT (end + 1 + many)) [
  | inl over ↦ disk_no {T = T} (end + 1) many (ap (λ (f : AppendFault). Err f) (sym is) ∙ (full (end + 1) many).1 (over, refl, refl))
  | inr room ↦ room
]

pub full_over : {T : Type 0} (fault : AppendFault) (size bytes end many : ℕ) → fault ≡ Full size bytes
    → FullSays {T = T} (Err fault) end many → (LOG_LIMIT < end + 1 + many) × (size ≡ end + 1) × (bytes ≡ many)
full_over fault size bytes end many is full = (full size bytes).0 (ap (λ (f : AppendFault). Err f) is)

-- ---- a run of the store

module _ {D : Type 0} (past : D → Past) where
  -- a store that did nothing
  pub keeps_still : (P : Option Found → Type 0) (old new : StoreOf D) → new.disk ≡ old.disk
      → ((files : Files) → CrashImages (past old.disk) files → P (found_of files))
      → KeepsOnly (store_moment past) (store_left past) old new P
  keeps_still P old new same all = keeps_only past P old new
      (subst (λ (d : D). LeavesOnly (past old.disk) (past d) (λ files. P (found_of files))) (sym same)
      (started (past old.disk) (λ files. P (found_of files)) all))

  -- a store at rest that stands for something, and so does each crash
  pub rests_now : (store : StoreOf D) (parts : Parts) → BothRest (past store.disk) parts → (P : Option Found → Type 0)
      → P (found_of (as_read (past store.disk))) → FitsNow (store_moment past) (store_stands past) (store_left past) store P
  rests_now store parts rest P reads = fits_now past P store reads (left_here (past store.disk) parts rest P reads)

  -- the same of a store that is ready
  pub ready_now : (store : StoreOf D) → RestsBy (past store.disk) store.parts → is_some store.parts ≡ true → (P : Option Found → Type 0)
      → P (found_of (as_read (past store.disk))) → FitsNow (store_moment past) (store_stands past) (store_left past) store P
  ready_now store rests ready P reads = by store.parts rests ready where
    by : (parts : Option Parts) → RestsBy (past store.disk) parts → is_some parts ≡ true
        → FitsNow (store_moment past) (store_stands past) (store_left past) store P
    by None rest some = absurd (false≢true some)
    by (Some parts) rest some = rests_now store parts rest P reads

  pub ok_fits : {T E : Type 0} (result : Result T E) (store : StoreOf D) (P : Option Found → Type 0)
      → RestsBy (past store.disk) store.parts → OnOk result (is_some store.parts ≡ true)
      → OnOk result (P (found_of (as_read (past store.disk))))
      → OnOk result (FitsNow (store_moment past) (store_stands past) (store_left past) store P)
  ok_fits (Ok x) store P rests ready reads = ready_now store rests ready P reads
  ok_fits (Err x) store P rests ready reads = tt

-- ---- what is counted

unfolded_needed : (image : Image) (parts : Parts) → pages_needed true (stored_in parts) image ≡ pages_for image parts.root
unfolding pages_needed
unfolded_needed image parts = refl

-- the pages of a checkpoint, by the parts that were taken
pub needed_is : (image : Image) (all : Option Parts) (parts : Parts) → Some parts ≡ all
    → pages_needed true (stored_by all) image ≡ pages_for image parts.root
needed_is image all parts is =
    subst (λ (o : Option Parts). pages_needed true (stored_by o) image ≡ pages_for image parts.root) is (unfolded_needed image parts)

pub count_fails : (image : Image) (root : Option Root) (pages : ℕ) (same risen : Type 0) (why : CheckFault) → CountFails image root why
    → pages ≡ pages_for image root → same → CheckFails pages same risen why
count_fails image root pages same risen (check.Full count) (is, over) needed still =
    (subst (λ (n : ℕ). PAGE_LIMIT < n) (sym needed) over, is ∙ sym needed, still)
count_fails image root pages same risen check.Disk never needed still = absurd never
count_fails image root pages same risen check.NoMemory any needed still = still

counted_is : (image : Image) → pages_counted true image ≡ image_pages image
unfolding pages_counted
counted_is image = refl

stored_record : ℕ → ℕ → ℕ → Stored
stored_record length number pages = record { log_length = length; root = Some (record { number = number; pages = pages }) }

pub checkpoint_stored : (parts : Parts) (root : Root) (image : Image) (number : ℕ) → parts.log ≡ 0 → parts.root ≡ Some root
    → root.number ≡ number → root.pages ≡ image_pages image → stored_in parts ≡ after_checkpoint true image number
unfolding stored_record
checkpoint_stored parts root image number log is number_is pages =
    ap (λ (o : Option Root). stored_with parts.log o) is
    ∙ ap (λ (n : ℕ). stored_record (n + 1) root.number root.pages) log
    ∙ ap (λ (n : ℕ). stored_record 1 n root.pages) number_is
    ∙ ap (λ (n : ℕ). stored_record 1 number n) (pages ∙ sym (counted_is image))
  where
    stored_with : ℕ → Option Root → Stored
    stored_with n o = record { log_length = n + 1; root = option_map stored_root o }
