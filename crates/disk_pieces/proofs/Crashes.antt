-- How what crashes leave of an extent goes on, one disk call after another.
use Rattle.std.proofs.Common.{ℕ, ◌≤◌, List, length, Result, Ok, Err, refl, sym, ◌∙◌, subst, inl, inr}
use Rattle.gem_disk.specs.declared.disk.Which.TheVariants.{Extent}
use Rattle.gem_disk.specs.Disk.{Files, Change, Wrote, Synced, Past, reads, stepped, placed, Torn, FileImages, Writes, Syncs}
use Rattle.gem_disk.proofs.Moments.{started, goes_on, and_then, leaves_less}
use Rattle.gem_disk.proofs.Leaves.{torn_by_placing}
use Rattle.disk_pieces.specs.Crashes.{IsDurable, ExtentHas, OnlyLeaves}

-- what is handed on where a run leaves less
pub has_less : (P Q : List ℕ → Type 0) (past : Past) → ((image : List ℕ) → P image → Q image) → (images : Files) → ExtentHas P past images → ExtentHas Q past images
has_less P Q past less images has = record { extent = less images.extent has.extent; log = has.log }

-- a run that leaves less
pub only_less : (P Q : List ℕ → Type 0) (old now : Past) → ((image : List ℕ) → P image → Q image) → OnlyLeaves P old now → OnlyLeaves Q old now
only_less P Q old now less only = record {
  run = leaves_less old now (ExtentHas P old) (ExtentHas Q old) (has_less P Q old less) only.run;
  images = λ image left. less image (only.images image left);
  log = only.log;
  read = less (reads now Extent) only.read;
  log_read = only.log_read;
}

-- a run, and another after it
pub only_after : (P Q : List ℕ → Type 0) (old mid now : Past) → OnlyLeaves P old mid → OnlyLeaves Q mid now → ((image : List ℕ) → P image → Q image) → OnlyLeaves Q old now
only_after P Q old mid now first then less = record {
  run = and_then old mid now (ExtentHas Q old) (leaves_less old mid (ExtentHas P old) (ExtentHas Q old) (has_less P Q old less) first.run)
      (leaves_less mid now (ExtentHas Q mid) (ExtentHas Q old) (λ images has. record { extent = has.extent; log = first.log images.log has.log }) then.run);
  images = then.images;
  log = λ image left. first.log image (then.log image left);
  read = then.read;
  log_read = then.log_read ∙ first.log_read;
}

module _ (P : List ℕ → Type 0) where
  -- before the first call
  pub only_started : (past : Past) → ((image : List ℕ) → FileImages past.first past.steps Extent image → P image) → P (reads past Extent) → OnlyLeaves P past past
  only_started past here now = record {
    run = started past (ExtentHas P past) (λ images left. record { extent = here images.extent left.extent; log = left.log });
    images = here;
    log = λ image left. left;
    read = now;
    log_read = refl;
  }

  -- before it, where all of the extent is on the disk
  pub only_durable : (past : Past) → IsDurable past → P (reads past Extent) → OnlyLeaves P past past
  only_durable past durable now = only_started past (λ image left. subst P (sym (durable image left)) now) now

  module _ (old mid : Past) (only : OnlyLeaves P old mid) where
    -- one step more on the extent
    only_stepped : (change : Change) (bytes : List ℕ) → ((image : List ℕ) → FileImages (stepped mid Extent change bytes).first (stepped mid Extent change bytes).steps Extent image → P image) → P bytes
        → OnlyLeaves P old (stepped mid Extent change bytes)
    only_stepped change bytes here now = record {
      run = goes_on old mid Extent change bytes (ExtentHas P old) only.run (λ images left. record { extent = here images.extent left.extent; log = only.log images.log left.log });
      images = here;
      log = only.log;
      read = now;
      log_read = only.log_read;
    }

    -- a write, done or failed, of which torn bytes keep P
    pub only_written : {T E : Type 0} → (at : ℕ) (bytes : List ℕ) → ((d c : List ℕ) → P d → Torn at (length bytes) d c → P c) → at ≤ length (reads mid Extent)
        → (new : Past) (result : Result T E) → Writes Extent at bytes mid result new → OnlyLeaves P old new
    only_written at bytes torn inside new (Ok x) is = subst (OnlyLeaves P old) (sym is)
        (only_stepped (Wrote at (length bytes)) (placed at bytes (reads mid Extent)) (λ image left. torn left.0 image (only.images left.0 left.1) left.2)
        (torn (reads mid Extent) (placed at bytes (reads mid Extent)) only.read (torn_by_placing at bytes (reads mid Extent) inside)))
    only_written at bytes torn inside new (Err x) (inl same) = subst (OnlyLeaves P old) (sym same) only
    only_written at bytes torn inside new (Err x) (inr (now, did, is)) = subst (OnlyLeaves P old) (sym is)
        (only_stepped (Wrote at (length bytes)) now (λ image left. torn left.0 image (only.images left.0 left.1) left.2) (torn (reads mid Extent) now only.read did))

    -- a sync, done or failed
    pub only_synced : {T E : Type 0} → (new : Past) (result : Result T E) → Syncs Extent mid result new → OnlyLeaves P old new
    only_synced new (Ok x) is = subst (OnlyLeaves P old) (sym is) (only_stepped Synced (reads mid Extent) (λ image left. subst P (sym left) only.read) only.read)
    only_synced new (Err x) same = subst (OnlyLeaves P old) (sym same) only
