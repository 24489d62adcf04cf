-- The images that one may pick of what a crash may leave.
use Rattle.std.specs.Prelude.{◌≡◌, ℕ, ◌≤◌, true, false, List, [], ◌∷◌, length, take, replicate}
use Rattle.gem_disk.specs.declared.disk.Which.{Which}
use Rattle.gem_disk.specs.declared.disk.Which.TheVariants.{Extent, Log}
use Rattle.gem_disk.specs.declared.images.Pick.{Pick}
use Rattle.gem_disk.specs.declared.images.Pick.TheVariants.{Old, New, Torn as TornTo}
use Rattle.gem_disk.specs.Disk.{Files, file_of, is_same, Change, Wrote, CutTo, Synced, Step, Past, reads_after, reads, placed}

-- a change with a byte all over what it writes
abbrev pub torn_to : ℕ → Change → List ℕ → List ℕ
torn_to byte (Wrote at n) old = placed at (replicate n byte) old
torn_to byte (CutTo n) old = take n old
torn_to byte Synced old = old

-- A file as at its last sync, or as at first, with each later change of it done anew in another
-- way.
abbrev pub since_sync : (Change → List ℕ → List ℕ) → Files → List Step → Which → List ℕ
since_sync anew first [] file = file_of first file
since_sync anew first (step ∷ older) file = elim (is_same step.file file) [
  | true ↦ elim step.change [
    | Wrote at n ↦ anew (Wrote at n) (since_sync anew first older file)
    | CutTo n ↦ anew (CutTo n) (since_sync anew first older file)
    | Synced ↦ step.reads
  ]
  | false ↦ since_sync anew first older file
]

-- Old: without the changes since the last sync. New: as it reads. Torn: with a byte all over what
-- was written since.
abbrev pub picked_file : Pick → Past → Which → List ℕ
picked_file Old past file = since_sync (λ _ old. old) past.first past.steps file
picked_file New past file = reads past file
picked_file (TornTo byte) past file = since_sync (torn_to byte) past.first past.steps file

abbrev pub picked : Pick → Past → Files
picked pick past = record { extent = picked_file pick past Extent; log = picked_file pick past Log }

-- new is what the change makes of old
abbrev pub Makes : Change → List ℕ → List ℕ → Type 0
Makes (Wrote at n) old new =
    (at ≤ length old) × ((bytes : List ℕ) × (length bytes ≡ n) × (new ≡ placed at bytes old))
Makes (CutTo n) old new = (n ≤ length old) × (new ≡ take n old)
Makes Synced old new = new ≡ old

-- each step did to its file what its change says, no more and no less
abbrev pub AreExact : Files → List Step → Type 0
AreExact first [] = Unit {0}
AreExact first (step ∷ older) =
    Makes step.change (reads_after first older step.file) step.reads × AreExact first older

abbrev pub IsExact : Past → Type 0
IsExact past = AreExact past.first past.steps
