-- What crashes leave while pieces are brought to the disk, and then one byte.
use Rattle.std.proofs.Common.{◌≡◌, ℕ, ◌≤◌, List, [], ◌∷◌, length, ◌⊎◌, Result, Ok, Err, OnOk, refl, sym, ◌∙◌, ap, subst, inl, inr, arith}
use Rattle.gem_disk.specs.declared.disk.Which.TheVariants.{Extent}
use Rattle.gem_disk.specs.Disk.{Wrote, Synced, Past, reads, stepped, placed, Torn, Writes, Syncs}
use Rattle.gem_disk.proofs.Leaves.{torn_none, torn_by_placing}
use Rattle.disk_pieces.specs.Pieces.{Piece, Kept, Keeps, Stand, IsBrought, IsEither, IsSwitched}
use Rattle.disk_pieces.specs.Crashes.{IsDurable, IsLonger, OnlyLeaves, MayWrite, ByteWritten, SwitchesLast}
use Rattle.disk_pieces.proofs.Crashes.{only_less, only_after, only_durable, only_written}
use Rattle.disk_pieces.proofs.Pieces.{keeps_all}

-- torn twice in one range
torn_again : (at n : ℕ) (old d c : List ℕ) → Torn at n old d → Torn at n d c → Torn at n old c
torn_again at n old d c first second = record {
  before = second.before ∙ first.before;
  after = second.after ∙ first.after;
  no_shorter = omega (arith, first.no_shorter, second.no_shorter);
  no_longer = omega (arith, first.no_longer, second.no_longer);
}

-- before the first piece is written
pub nothing_written : (old : Past) (kept : Kept) (pieces : List Piece) → MayWrite old kept pieces → OnlyLeaves (Keeps kept (reads old Extent)) old old
nothing_written old kept pieces may = only_durable (Keeps kept (reads old Extent)) old may.durable (keeps_all kept (reads old Extent))

-- ---- a sync

module _ {T E : Type 0} (mid new : Past) where
  pub sync_reads : (result : Result T E) → Syncs Extent mid result new → reads new Extent ≡ reads mid Extent
  sync_reads (Ok x) is = ap (λ (p : Past). reads p Extent) is
  sync_reads (Err x) same = ap (λ (p : Past). reads p Extent) same

  pub sync_durable : (result : Result T E) → Syncs Extent mid result new → OnOk result (IsDurable new)
  sync_durable (Ok x) is = subst IsDurable (sym is) (λ image left. left)
  sync_durable (Err x) same = tt

  pub sync_longer : (old : Past) (result : Result T E) → IsLonger old mid → Syncs Extent mid result new → IsLonger old new
  sync_longer old result longer synced = subst (λ (l : List ℕ). length (reads old Extent) ≤ length l) (sym (sync_reads result synced)) longer

  pub sync_brings : (old : Past) (kept : Kept) (pieces : List Piece) (result : Result T E) → OnlyLeaves (Keeps kept (reads old Extent)) old mid → Stand (reads mid Extent) pieces → Syncs Extent mid result new
      → OnOk result (IsBrought kept pieces (reads old Extent) (reads new Extent))
  sync_brings old kept pieces (Ok x) only stand is = subst (IsBrought kept pieces (reads old Extent)) (sym (sync_reads (Ok x) is)) (record { keeps = only.read; stand = stand })
  sync_brings old kept pieces (Err x) only stand same = tt

  pub sync_switches : (old : Past) (at byte : ℕ) (result : Result T E) → mid ≡ stepped old Extent (Wrote at 1) (placed at (byte ∷ []) (reads old Extent)) → Syncs Extent mid result new
      → OnOk result (reads new Extent ≡ placed at (byte ∷ []) (reads old Extent))
  sync_switches old at byte (Ok x) wrote is = sync_reads (Ok x) is ∙ ap (λ (p : Past). reads p Extent) wrote
  sync_switches old at byte (Err x) wrote same = tt

-- ---- one byte

module _ (old : Past) (at byte : ℕ) (durable : IsDurable old) where
  abbrev IsTorn : List ℕ → Type 0
  IsTorn image = Torn at 1 (reads old Extent) image

  pub byte_written : {T E : Type 0} (new : Past) (result : Result T E) → at ≤ length (reads old Extent) → Writes Extent at (byte ∷ []) old result new → OnlyLeaves (Torn at 1 (reads old Extent)) old new
  byte_written new result inside writes = only_written IsTorn old old (only_durable IsTorn old durable (torn_none at 1 (reads old Extent))) at (byte ∷ [])
      (λ d c first second. torn_again at 1 (reads old Extent) d c first second) inside new result writes

-- what was done, where the byte may be anywhere up to the file's end
module _ (old : Past) (at byte : ℕ) (inside : at ≤ length (reads old Extent)) where
  torn_byte : Torn at 1 (reads old Extent) (placed at (byte ∷ []) (reads old Extent))
  torn_byte = torn_by_placing at (byte ∷ []) (reads old Extent) inside

  -- the write was the last call
  pub byte_last : {T E : Type 0} (new : Past) (result : Result T E) → Writes Extent at (byte ∷ []) old result new → (new ≡ old) ⊎ ByteWritten at old new
  byte_last new (Ok x) is = inr record { written = placed at (byte ∷ []) (reads old Extent); torn = torn_byte; steps = inl is }
  byte_last new (Err x) (inl same) = inl same
  byte_last new (Err x) (inr (now, torn, is)) = inr record { written = now; torn = torn; steps = inl is }

  -- a sync came after it
  pub byte_brought : {T E : Type 0} (mid new : Past) (result : Result T E) → mid ≡ stepped old Extent (Wrote at 1) (placed at (byte ∷ []) (reads old Extent)) → Syncs Extent mid result new
      → (new ≡ old) ⊎ ByteWritten at old new
  byte_brought mid new (Ok x) wrote is = inr record {
    written = placed at (byte ∷ []) (reads old Extent);
    torn = torn_byte;
    steps = inr (is ∙ ap (λ (p : Past). stepped p Extent Synced (reads p Extent)) wrote);
  }
  byte_brought mid new (Err x) wrote same = inr record { written = placed at (byte ∷ []) (reads old Extent); torn = torn_byte; steps = inl (same ∙ wrote) }

-- ---- the byte comes last

-- where it didn't come
pub switches_none : (P : List ℕ → Type 0) (at : ℕ) (old new : Past) → OnlyLeaves P old new → SwitchesLast P at old new
switches_none P at old new only = record { between = new; only = only; last = inl refl }

pub switches_less : (P Q : List ℕ → Type 0) (at : ℕ) (old new : Past) → ((image : List ℕ) → P image → Q image) → SwitchesLast P at old new → SwitchesLast Q at old new
switches_less P Q at old new less is = record { between = is.between; only = only_less P Q old is.between less is.only; last = is.last }

-- after another run
pub switches_after : (P : List ℕ → Type 0) (at : ℕ) (old mid new : Past) → OnlyLeaves P old mid → SwitchesLast P at mid new → SwitchesLast P at old new
switches_after P at old mid new first is = record {
  between = is.between;
  only = only_after P P old mid is.between first is.only (λ image has. has);
  last = is.last;
}

-- ---- both

module _ (old mid new : Past) (kept : Kept) (pieces : List Piece) (at : ℕ) where
  abbrev IsLeft : List ℕ → Type 0
  IsLeft image = IsEither kept pieces at (reads old Extent) image

  pub only_brought : OnlyLeaves (Keeps kept (reads old Extent)) old mid → OnlyLeaves (IsEither kept pieces at (reads old Extent)) old mid
  only_brought only = only_less (Keeps kept (reads old Extent)) IsLeft old mid (λ image keeps. inl keeps) only

  pub then_switched : OnlyLeaves (Keeps kept (reads old Extent)) old mid → IsBrought kept pieces (reads old Extent) (reads mid Extent) → OnlyLeaves (Torn at 1 (reads mid Extent)) mid new
      → OnlyLeaves (IsEither kept pieces at (reads old Extent)) old new
  then_switched first brought then = only_after (Keeps kept (reads old Extent)) IsLeft old mid new first
      (only_less (λ image. Torn at 1 (reads mid Extent) image) IsLeft mid new (λ image torn. inr (reads mid Extent, brought, torn)) then) (λ image keeps. inl keeps)

  pub is_switched : {T E : Type 0} (byte : ℕ) (result : Result T E) → IsBrought kept pieces (reads old Extent) (reads mid Extent) → OnOk result (reads new Extent ≡ placed at (byte ∷ []) (reads mid Extent))
      → OnOk result (IsSwitched kept pieces at byte (reads old Extent) (reads new Extent))
  is_switched byte (Ok x) brought is = record { written = reads mid Extent; brought = brought; now_is = is }
  is_switched byte (Err x) brought none = tt

  pub then_switches : OnlyLeaves (Keeps kept (reads old Extent)) old mid → IsDurable mid → (new ≡ mid) ⊎ ByteWritten at mid new → SwitchesLast (Keeps kept (reads old Extent)) at old new
  then_switches only durable (inl same) = record { between = mid; only = only; last = inl same }
  then_switches only durable (inr wrote) = record { between = mid; only = only; last = inr (durable, wrote) }
