-- What a crash leaves while a log is opened.
use Rattle.std.proofs.Common.{◌≡◌, ℕ, ◌<◌, ◌≤◌, Bool, IsTrue, List, [], ◌∷◌, length, drop, None, Ok, Err, Result, sym, ap, subst, ◌∙◌, inl, inr, refl, arith}
use Rattle.gem_disk.specs.declared.disk.Which.TheVariants.{Log}
use Rattle.gem_disk.specs.Disk.{Files, Synced, Past, reads, as_read, stepped, CrashImages, Torn}
use Rattle.gem_disk.specs.Runs.{LeavesOnly}
use Rattle.gem_disk.proofs.Moments.{started, goes_on, and_then, leaves_less}
use Rattle.gem_disk.proofs.Leaves.{reads_on}
use Rattle.tran_log.specs.declared.fault.LogFault.{LogFault}
use Rattle.tran_log.specs.declared.fault.LogFault.TheVariants.{Disk}
use Rattle.tran_log.specs.declared.logged.Logged.{Logged}
use Rattle.tran_log.specs.Log.{walk, log_of}
use Rattle.tran_log.specs.Reads.{LogFails, EndsAt, IsReplayed}
use Rattle.tran_log.specs.Resting.{StaysHonest, IsDurable, IsAtRest, Holds, IsOldOrRead, AllHold, HasReplayed, IsTornAt, IsWritten}
use Rattle.tran_log.proofs.Again.{log_is, log_long, small_log}

abbrev failed : {X : Type 0} → LogFault → Result X LogFault
failed fault = Err fault

pub fault_is : {X : Type 0} (fault : LogFault) → failed {X = X} fault ≡ failed Disk → fault ≡ Disk
fault_is fault e = cc

-- the log after a sync
abbrev pub synced : Past → Past
synced past = stepped past Log Synced (reads past Log)

pub sync_durable : (past : Past) → IsDurable (synced past)
sync_durable past image is = is

pub rests : (past : Past) (logged : List Logged) (end : ℕ) → EndsAt (reads past Log) logged end → IsAtRest (synced past) logged end
rests past logged end ends = record { ends = ends; durable = sync_durable past }

pub rests_empty : (past new : Past) (logged : List Logged) (end : ℕ) → logged ≡ [] → end ≡ 0
    → IsWritten 0 (0 ∷ []) past new → IsAtRest new logged end
rests_empty past new logged end none zero written = record {
  ends = record {
    chained = [];
    gate = 0;
    behind = drop 1 (reads past Log);
    file = written.log;
    closed = λ e. absurd (omega (arith, e));
    records = tt;
    logged_is = none;
    end_is = zero;
  };
  durable = written.durable;
}

module _ (past : Past) where
  pub before_sync : LeavesOnly past past (IsOldOrRead past)
  before_sync = started past (IsOldOrRead past) (λ images now. inl now)

  pub after_sync : LeavesOnly past (synced past) (IsOldOrRead past)
  after_sync = goes_on past past Log Synced (reads past Log) (IsOldOrRead past) before_sync
      (λ images now. inr (record { log = ap log_of now.log; extent = now.extent }))

  module _ (small : length (reads past Log) ≤ 1) where
    torn_reads : (images : Files) → IsTornAt (synced past) 0 1 images → IsOldOrRead past images
    torn_reads images torn =
        let short : length images.log ≤ 1 = omega (arith, torn.log.no_longer, small) in
        inr (record {
          log = small_log images.log short ∙ sym (small_log (reads past Log) small);
          extent = torn.extent;
        })

    pub while_closed : (new : Past) → LeavesOnly (synced past) new (IsTornAt (synced past) 0 1)
        → LeavesOnly past new (IsOldOrRead past)
    while_closed new run = and_then past (synced past) new (IsOldOrRead past) after_sync
        (leaves_less (synced past) new (IsTornAt (synced past) 0 1) (IsOldOrRead past) torn_reads run)

-- where all crashes leave the records that are read
module _ (past : Past) (logged : List Logged) (read : log_of (reads past Log) ≡ Ok logged) (all : AllHold past logged) where
  old_or_read : (images : Files) → IsOldOrRead past images → Holds past logged images
  old_or_read images (inl now) = record { log = all images now; extent = now.extent }
  old_or_read images (inr so) = record { log = so.log ∙ read; extent = so.extent }

  pub all_held : (new : Past) → LeavesOnly past new (IsOldOrRead past) → LeavesOnly past new (Holds past logged)
  all_held new run = leaves_less past new (IsOldOrRead past) (Holds past logged) old_or_read run

-- ---- what was taken of it

log_ends : (bytes : List ℕ) (logged : List Logged) (end : ℕ) → EndsAt bytes logged end → log_of bytes ≡ Ok logged
log_ends bytes logged end ends = ap log_of ends.file
    ∙ log_is ends.chained ends.gate ends.behind ends.records ends.closed
    ∙ ap (λ (l : List Logged). Ok l) (sym ends.logged_is)

module _ {T : Type 0} (takes : T → Logged → T → Type 0) (first : T) (tells : Bool) (old : Past) where
  -- a log of more than one byte
  pub long_replayed : (now : T) (file : List ℕ) (new : Past) (end : ℕ) → (IsTrue tells → file ≡ reads old Log)
      → (IsTrue tells → new ≡ synced old) → IsReplayed takes first now tells file end
      → HasReplayed takes first now tells (reads old Log) new end
  long_replayed now file new end file_is new_is is =
      let ends : IsTrue tells → EndsAt (reads old Log) is.logged end =
      λ tell. subst (λ (l : List ℕ). EndsAt l is.logged end) (file_is tell) (is.ends tell) in
      record {
        logged = is.logged;
        read = is.read;
        taken = is.taken;
        holds = λ tell. log_ends (reads old Log) is.logged end (ends tell);
        at_rest = λ tell. subst (λ (p : Past). IsAtRest p is.logged end) (sym (new_is tell)) (rests old is.logged end (ends tell));
      }

  -- one of one byte at most
  pub short_replayed : (mid new : Past) → (IsTrue tells → length (reads old Log) ≤ 1)
      → (IsTrue tells → IsWritten 0 (0 ∷ []) mid new) → HasReplayed takes first first tells (reads old Log) new 0
  short_replayed mid new small written = record {
    logged = [];
    read = record { records = []; follow = tt; logged_is = refl };
    taken = refl;
    holds = λ tell. small_log (reads old Log) (small tell);
    at_rest = λ tell. rests_empty mid new [] 0 refl refl (written tell);
  }

pub long_broken : (old : Past) (file : List ℕ) (fault : LogFault) → file ≡ reads old Log → 1 < length file
    → LogFails (walk 0 0 None file) fault → LogFails (log_of (reads old Log)) fault
long_broken old file fault same long fails = subst (λ (l : List ℕ). LogFails (log_of l) fault) same
    (subst (λ r. LogFails r fault) (sym (log_long file long)) fails)

-- what the log reads as in the end
module _ (past new : Past) where
  pub same_length : new ≡ synced past → length (reads past Log) ≤ 1 → length (reads new Log) ≤ 1
  same_length same small = omega (arith, small, ap (λ (p : Past). length (reads p Log)) same)

  pub torn_short : (mid : Past) → mid ≡ synced past → length (reads past Log) ≤ 1
      → Torn 0 1 (reads mid Log) (reads new Log) → length (reads new Log) ≤ 1
  torn_short mid same small torn = omega (arith, small, ap (λ (p : Past). length (reads p Log)) same, torn.no_longer)

none_behind : (l : List ℕ) → length l ≤ 1 → drop 1 l ≡ []
none_behind [] small = refl
none_behind (x ∷ []) small = refl
none_behind (x ∷ y ∷ l) small = absurd (omega (arith, small))

pub one_gate : (past mid new : Past) → mid ≡ synced past → length (reads past Log) ≤ 1
    → IsWritten 0 (0 ∷ []) mid new → reads new Log ≡ 0 ∷ []
one_gate past mid new same small written = written.log
    ∙ ap (λ (p : Past). 0 ∷ drop 1 (reads p Log)) same
    ∙ ap (λ (l : List ℕ). 0 ∷ l) (none_behind (reads past Log) small)

-- ---- a disk as it reads

pub honest_same : (old new : Past) → new ≡ old → StaysHonest old new
honest_same old new same honest = subst (λ (p : Past). CrashImages p (as_read p)) (sym same) honest

pub honest_after : (old new : Past) → new ≡ synced old → StaysHonest old new
honest_after old new same honest =
    honest_same (synced old) new same (reads_on old Log Synced (reads old Log) honest refl)
