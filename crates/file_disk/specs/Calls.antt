-- What a disk of two files asks of a file system, call by call.
use Rattle.std.specs.Prelude.{◌≡◌, ℕ, ◌==◌, if◌then◌else◌, Bool, true, false, Option, Some, None, List, [], ◌∷◌, ◌++◌, ◌⊎◌, length, codes}
use Rattle.std.specs.Path.{path_parent}
use Rattle.gem_disk.specs.declared.disk.Which.{Which}
use Rattle.gem_disk.specs.declared.disk.Which.TheVariants.{Extent, Log}

-- One call, by what it was asked, and by its answer: whether it was done, and of a length the
-- number. A file is named by its path. A reading has what stands in the buffer after it.
pub data Call : Type 0 where
  Opening : List ℕ → Bool → Call
  FolderSync : List ℕ → Bool → Call
  LengthOf : List ℕ → Option ℕ → Call
  Reading : List ℕ → ℕ → List ℕ → Bool → Call
  Writing : List ℕ → ℕ → List ℕ → Bool → Call
  Cutting : List ℕ → ℕ → Bool → Call
  Sync : List ℕ → Bool → Call

-- a path's folder, by its parent
abbrev pub folder_or_here : Option (List ℕ) → List ℕ
folder_or_here None = codes "."
folder_or_here (Some folder) = if length folder == 0 then codes "." else folder

-- the folder in which a file stands: that of a path without one is "."
abbrev pub folder_of : List ℕ → List ℕ
folder_of path = folder_or_here (path_parent path)

-- A file of the disk: where it stands, and whether it was opened.
pub record DiskFile : Type 0 where
  pub path : List ℕ
  pub is_open : Bool

-- the calls that open a file, and none where it is open
abbrev pub opening : Bool → List ℕ → List Call
opening true path = []
opening false path = Opening path true ∷ FolderSync (folder_of path) true ∷ []

-- A file isn't opened: either it can't be, or its folder can't be synced.
pub record StaysClosed (file : DiskFile) (before after : List Call) : Type 0 where
  pub was_closed : file.is_open ≡ false
  pub calls : (after ≡ before ++ Opening file.path false ∷ [])
      ⊎ (after ≡ before ++ Opening file.path true ∷ FolderSync (folder_of file.path) false ∷ [])

-- One call on a file, which is opened first where it isn't open. Where it can't be opened, the call
-- isn't made, and what was asked for isn't done.
abbrev pub Asks : Call → Bool → DiskFile → DiskFile → List Call → List Call → Type 0
Asks call done old new before after =
    ((new ≡ record old { is_open = true })
    × (after ≡ before ++ opening old.is_open old.path ++ call ∷ []))
    ⊎ ((done ≡ false) × (new ≡ old) × StaysClosed old before after)

-- The disk: its two files, the calls that it made, the oldest first, and its count of faults.
pub record DiskOfFiles : Type 0 where
  pub extent : DiskFile
  pub log : DiskFile
  pub calls : List Call
  pub faults : ℕ

abbrev pub file_of : Which → DiskOfFiles → DiskFile
file_of Extent disk = disk.extent
file_of Log disk = disk.log

abbrev pub other_than : Which → DiskOfFiles → DiskFile
other_than Extent disk = disk.log
other_than Log disk = disk.extent

-- A call on one of the files, by what it is at a path, and whether it was done: that call is made
-- of that file, and the other file stays as it was.
pub record Makes (file : Which) (call : List ℕ → Call) (done : Bool) (old new : DiskOfFiles)
    : Type 0 where
  pub asks : Asks (call (file_of file old).path) done (file_of file old) (file_of file new)
      old.calls new.calls
  pub other : other_than file new ≡ other_than file old
