-- What a crash leaves of a log during a write that is brought to the disk.
use Rattle.std.proofs.Common.{◌≡◌, ◌⊎◌, ℕ, ◌≤◌, List, length, Result, Ok, Err, OnOk, refl, sym, ap, subst, ◌∙◌, inl, inr}
use Rattle.gem_disk.specs.declared.disk.Which.TheVariants.{Extent, Log}
use Rattle.gem_disk.specs.Disk.{Files, Wrote, Synced, Past, reads, stepped, placed, Torn, FileImages, Syncs}
use Rattle.gem_disk.specs.Runs.{LeavesOnly}
use Rattle.gem_disk.proofs.Moments.{started, goes_on}
use Rattle.gem_disk.proofs.Leaves.{torn_none, torn_by_placing}
use Rattle.tran_log.specs.Resting.{SameExtent, IsDurable, IsTornAt, IsWritten}

module _ (old : Past) (at n : ℕ) (durable : IsDurable old) where
  abbrev IsTorn : Files → Type 0
  IsTorn images = IsTornAt old at n images

  torn_from : (image d : List ℕ) → FileImages old.first old.steps Log d → Torn at n d image → Torn at n (reads old Log) image
  torn_from image d before torn = subst (λ (l : List ℕ). Torn at n l image) (durable d before) torn

  pub nothing_written : LeavesOnly old old IsTorn
  nothing_written = started old IsTorn (λ images now. record {
    log = subst (λ (l : List ℕ). Torn at n (reads old Log) l) (sym (durable images.log now.log)) (torn_none at n (reads old Log));
    extent = now.extent;
  })

  pub some_written : (now : List ℕ) → LeavesOnly old (stepped old Log (Wrote at n) now) IsTorn
  some_written now = goes_on old old Log (Wrote at n) now IsTorn nothing_written (λ images left. record {
    log = torn_from images.log left.log.0 left.log.1 left.log.2;
    extent = left.extent;
  })

module _ (old : Past) (at : ℕ) (bytes : List ℕ) (inside : at ≤ length (reads old Log)) where
  abbrev mid : Past
  mid = stepped old Log (Wrote at (length bytes)) (placed at bytes (reads old Log))

  abbrev pub after_sync : Past
  after_sync = stepped mid Log Synced (reads mid Log)

  pub all_written : IsDurable old → LeavesOnly old after_sync (IsTornAt old at (length bytes))
  all_written durable = goes_on old mid Log Synced (reads mid Log) (IsTornAt old at (length bytes))
      (some_written old at (length bytes) durable (placed at bytes (reads old Log))) (λ images left. record {
        log = subst (λ (l : List ℕ). Torn at (length bytes) (reads old Log) l) (sym left.log) (torn_by_placing at bytes (reads old Log) inside);
        extent = left.extent;
      })

  pub is_written : IsWritten at bytes old after_sync
  is_written = record { log = refl; durable = λ image is. is; extent = λ image is. is }

-- what a call of each kind leaves, failed or not
pub write_failed : (old new : Past) (at n : ℕ) → IsDurable old
    → (new ≡ old) ⊎ ((now : List ℕ) × Torn at n (reads old Log) now × (new ≡ stepped old Log (Wrote at n) now))
    → LeavesOnly old new (IsTornAt old at n)
write_failed old new at n durable (inl same) =
    subst (λ (p : Past). LeavesOnly old p (IsTornAt old at n)) (sym same) (nothing_written old at n durable)
write_failed old new at n durable (inr (now, torn, is)) =
    subst (λ (p : Past). LeavesOnly old p (IsTornAt old at n)) (sym is) (some_written old at n durable now)

-- what the log reads as, failed or not
pub write_torn : (old new : Past) (at n : ℕ)
    → (new ≡ old) ⊎ ((now : List ℕ) × Torn at n (reads old Log) now × (new ≡ stepped old Log (Wrote at n) now))
    → Torn at n (reads old Log) (reads new Log)
write_torn old new at n (inl same) =
    subst (λ (p : Past). Torn at n (reads old Log) (reads p Log)) (sym same) (torn_none at n (reads old Log))
write_torn old new at n (inr (now, torn, is)) =
    subst (λ (p : Past). Torn at n (reads old Log) (reads p Log)) (sym is) torn

module _ (old middle new : Past) (at : ℕ) (bytes : List ℕ) (inside : at ≤ length (reads old Log))
    (written : middle ≡ stepped old Log (Wrote at (length bytes)) (placed at bytes (reads old Log))) where
  abbrev all_torn : Past → Type 0
  all_torn p = LeavesOnly old p (IsTornAt old at (length bytes))

  pub sync_leaves : {T E : Type 0} → IsDurable old → (result : Result T E) → Syncs Log middle result new → all_torn new
  sync_leaves durable (Ok x) is = subst all_torn
      (sym (is ∙ ap (λ (p : Past). stepped p Log Synced (reads p Log)) written)) (all_written old at bytes inside durable)
  sync_leaves durable (Err x) is = subst all_torn (sym (is ∙ written))
      (some_written old at (length bytes) durable (placed at bytes (reads old Log)))

  pub sync_writes : {T E : Type 0} → (result : Result T E) → Syncs Log middle result new → OnOk result (IsWritten at bytes old new)
  sync_writes (Ok x) is = subst (λ (p : Past). IsWritten at bytes old p)
      (sym (is ∙ ap (λ (p : Past). stepped p Log Synced (reads p Log)) written)) (is_written old at bytes inside)
  sync_writes (Err x) is = tt

  abbrev reads_torn : Past → Type 0
  reads_torn p = Torn at (length bytes) (reads old Log) (reads p Log)

  pub sync_torn : {T E : Type 0} → (result : Result T E) → Syncs Log middle result new → reads_torn new
  sync_torn (Ok x) is = subst reads_torn (sym (is ∙ ap (λ (p : Past). stepped p Log Synced (reads p Log)) written))
      (torn_by_placing at bytes (reads old Log) inside)
  sync_torn (Err x) is = subst reads_torn (sym (is ∙ written)) (torn_by_placing at bytes (reads old Log) inside)

  pub sync_extent : {T E : Type 0} → (result : Result T E) → Syncs Log middle result new → SameExtent old new
  sync_extent (Ok x) is = ap (λ (p : Past). reads p Extent) (is ∙ ap (λ (p : Past). stepped p Log Synced (reads p Log)) written)
  sync_extent (Err x) is = ap (λ (p : Past). reads p Extent) (is ∙ written)

pub write_extent : (old new : Past) (at n : ℕ)
    → (new ≡ old) ⊎ ((now : List ℕ) × Torn at n (reads old Log) now × (new ≡ stepped old Log (Wrote at n) now))
    → SameExtent old new
write_extent old new at n (inl same) = ap (λ (p : Past). reads p Extent) same
write_extent old new at n (inr (now, torn, is)) = ap (λ (p : Past). reads p Extent) is
