-- A disk of two files: what they read as, what the calls did to them, and what a crash may leave.
use Rattle.std.specs.Prelude.{◌≡◌, ◌⊎◌, ℕ, ◌+◌, ◌≤◌, min, max, Bool, true, false, List, [], ◌∷◌, ◌++◌, length, take, drop, Result, MatchResult}
use Rattle.gem_disk.specs.declared.disk.Which.{Which}
use Rattle.gem_disk.specs.declared.disk.Which.TheVariants.{Extent, Log}

-- the bytes of both files: what they read as, or what a crash leaves of them
pub record Files : Type 0 where
  pub extent : List ℕ
  pub log : List ℕ

-- the bytes of one of them
abbrev pub file_of : Files → Which → List ℕ
file_of files Extent = files.extent
file_of files Log = files.log

abbrev pub is_same : Which → Which → Bool
is_same Extent Extent = true
is_same Extent Log = false
is_same Log Extent = false
is_same Log Log = true

-- What a call did to its file: it wrote that many bytes from an offset on, cut the file to a
-- length, or brought all that was pending to the disk.
pub data Change : Type 0 where
  Wrote : ℕ → ℕ → Change
  CutTo : ℕ → Change
  Synced : Change

-- One change of one file, and what that file reads as after it.
pub record Step : Type 0 where
  pub file : Which
  pub change : Change
  pub reads : List ℕ

-- What became of a disk: the files at first, all of which was on the disk, and the steps since, the
-- newest first.
pub record Past : Type 0 where
  pub first : Files
  pub steps : List Step

-- what a file reads as
abbrev pub reads_after : Files → List Step → Which → List ℕ
reads_after first [] file = file_of first file
reads_after first (step ∷ older) file = elim (is_same step.file file) [
  | true ↦ step.reads
  | false ↦ reads_after first older file
]

abbrev pub reads : Past → Which → List ℕ
reads past file = reads_after past.first past.steps file

-- what both files read as
abbrev pub as_read : Past → Files
as_read past = record { extent = reads past Extent; log = reads past Log }

-- the clock of a disk: how many steps it has made
abbrev pub moment : Past → ℕ
moment past = length past.steps

-- one step more
abbrev pub stepped : Past → Which → Change → List ℕ → Past
stepped past file change bytes = record {
  first = past.first;
  steps = record { file = file; change = change; reads = bytes } ∷ past.steps;
}

-- old with these bytes written over what is there from an offset on, and past its end
abbrev pub placed : ℕ → List ℕ → List ℕ → List ℕ
placed at bytes old = take at old ++ bytes ++ drop (at + length bytes) old

-- What a write of n bytes may leave of old, where it isn't known to be on the disk: any bytes in
-- its range, the old ones elsewhere, and any length from the old one up to the end of the write.
pub record Torn (at n : ℕ) (old new : List ℕ) : Type 0 where
  pub before : take at new ≡ take at old
  pub after : drop (at + n) new ≡ drop (at + n) old
  pub no_shorter : length old ≤ length new
  pub no_longer : length new ≤ max (length old) (at + n)

-- What a cut to n bytes may leave of old: its front, of some length between the two. Old may be
-- shorter than n, where what was written past its end didn't arrive.
pub record Cut (n : ℕ) (old new : List ℕ) : Type 0 where
  pub no_shorter : min n (length old) ≤ length new
  pub front : take (length new) old ≡ new

-- What a crash after a change may leave of a file, by what it reads as and by what a crash before
-- the change may have left.
abbrev pub Leaves : Change → List ℕ → (List ℕ → Type 0) → List ℕ → Type 0
Leaves (Wrote at n) now before image = (old : List ℕ) × before old × Torn at n old image
Leaves (CutTo n) now before image = (old : List ℕ) × before old × Cut n old image
Leaves Synced now before image = image ≡ now

-- what a crash may leave of one file
abbrev pub FileImages : Files → List Step → Which → List ℕ → Type 0
FileImages first [] file image = image ≡ file_of first file
FileImages first (step ∷ older) file image = elim (is_same step.file file) [
  | true ↦ Leaves step.change step.reads (FileImages first older file) image
  | false ↦ FileImages first older file image
]

-- What a crash at this moment may leave: each image of the one file with each of the other.
pub record CrashImages (past : Past) (images : Files) : Type 0 where
  pub extent : FileImages past.first past.steps Extent images.extent
  pub log : FileImages past.first past.steps Log images.log

-- what a crash at some moment from this one on may have left
abbrev pub ImagesAfter : ℕ → Files → List Step → Files → Type 0
ImagesAfter since first [] images = CrashImages (record { first = first; steps = [] }) images
ImagesAfter since first (step ∷ older) images =
    CrashImages (record { first = first; steps = step ∷ older }) images
    ⊎ ((since ≤ length older) × ImagesAfter since first older images)

abbrev pub CrashImagesSince : ℕ → Past → Files → Type 0
CrashImagesSince since past images = ImagesAfter since past.first past.steps images

-- A write of these bytes: the file reads so from then on. One that fails has done nothing, or the
-- file reads as anything that a torn write leaves.
abbrev pub Writes : {T E : Type 0} → Which → ℕ → List ℕ → Past → Result T E → Past → Type 0
Writes file at bytes old result new = MatchResult result
    (λ _. new ≡ stepped old file (Wrote at (length bytes)) (placed at bytes (reads old file)))
    (λ _. (new ≡ old) ⊎ ((now : List ℕ) × Torn at (length bytes) (reads old file) now
    × (new ≡ stepped old file (Wrote at (length bytes)) now)))

-- A cut to n bytes. One that fails has done nothing, or has cut the file to a length between.
abbrev pub Cuts : {T E : Type 0} → Which → ℕ → Past → Result T E → Past → Type 0
Cuts file n old result new = MatchResult result
    (λ _. new ≡ stepped old file (CutTo n) (take n (reads old file)))
    (λ _. (new ≡ old) ⊎ ((now : List ℕ) × Cut n (reads old file) now
    × (new ≡ stepped old file (CutTo n) now)))

-- A sync. One that fails changes nothing: what was pending stays so.
abbrev pub Syncs : {T E : Type 0} → Which → Past → Result T E → Past → Type 0
Syncs file old result new = MatchResult result
    (λ _. new ≡ stepped old file Synced (reads old file))
    (λ _. new ≡ old)

-- what stands for the past of a disk that tells nothing
abbrev pub untold : Past
untold = record { first = record { extent = []; log = [] }; steps = [] }
