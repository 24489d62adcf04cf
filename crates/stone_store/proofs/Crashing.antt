-- What crashes leave of a store, during a run of calls on its disk.
use Rattle.std.proofs.Common.{Option, sym, subst, inl, inr}
use Rattle.gem_disk.specs.Disk.{Files, Past, moment, reads, as_read, CrashImages}
use Rattle.gem_disk.specs.Runs.{LeavesOnly}
use Rattle.gem_disk.proofs.Moments.{now_counts, only_now}
use Rattle.gem_keeper.specs.Found.{Found}
use Rattle.gem_keeper.specs.Crashes.{FitsNow, KeepsOnly}
use Rattle.stone_store.specs.Store.{found_of}
use Rattle.stone_store.specs.Whole.{StoreOf, store_moment, store_stands, store_left}

module _ {D : Type 0} (past : D → Past) (P : Option Found → Type 0) where
  -- a run of the disk is one of the store
  pub keeps_only : (old new : StoreOf D) → LeavesOnly (past old.disk) (past new.disk) (λ files. P (found_of files))
      → KeepsOnly (store_moment past) (store_left past) old new P
  keeps_only old new run = record {
    later = run.later;
    each = λ left is. subst P (sym is.2) (run.each is.0 is.1);
    now = λ left is. subst P (sym is.2) (run.each is.0
        (now_counts (moment (past old.disk)) (past new.disk) is.0 (only_now (past new.disk) is.0 is.1)));
    before = λ since left low is. elim (run.before since is.0 low is.1) [
      | inl was ↦ inl (is.0, was, is.2)
      | inr fits ↦ inr (subst P (sym is.2) fits)
    ];
  }

  pub fits_now : (store : StoreOf D) → P (found_of (as_read (past store.disk)))
      → ((files : Files) → CrashImages (past store.disk) files → P (found_of files))
      → FitsNow (store_moment past) (store_stands past) (store_left past) store P
  fits_now store reads all = record {
    reads = reads;
    crash = λ left is. subst P (sym is.2) (all is.0 (only_now (past store.disk) is.0 is.1));
  }
