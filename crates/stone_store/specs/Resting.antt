-- How a store stands on its disk between calls.
use Rattle.std.specs.Prelude.{◌≡◌, ◌⊎◌, ◌+◌, ◌≤◌, ℕ, List, [], length, Option, Some, None, option_map, Ok}
use Rattle.gem_disk.specs.Disk.{Files, Past}
use Rattle.gem_image.specs.Image.{Image}
use Rattle.gem_record.specs.Stored.{Root as StoredRoot, Stored, image_pages}
use Rattle.extent_pages.specs.Extent.{Extent, extent_of}
use Rattle.page_file.specs.PageFile.{IsAtRest as ExtentRests}
use Rattle.page_file.specs.Checkpoint.{IsCheckpoint}
use Rattle.page_file.specs.Changing.{counted_root}
use Rattle.tran_log.specs.declared.logged.Logged.{Logged}
use Rattle.tran_log.specs.Reads.{EndsAt}
use Rattle.tran_log.specs.Resting.{IsAtRest as LogRests}
use Rattle.stone_store.specs.declared.parts.Root.{Root}
use Rattle.stone_store.specs.declared.parts.Parts.{Parts}
use Rattle.stone_store.specs.Store.{root_number, misfit}

-- ---- What a store has stored.

abbrev pub stored_root : Root → StoredRoot
stored_root root = record { number = root.number; pages = root.pages }

-- the log is as long as its records and the gate behind them
abbrev pub stored_in : Parts → Stored
stored_in parts = record {
  log_length = parts.log + 1;
  root = option_map stored_root parts.root;
}

-- one that isn't ready has stored nothing that counts
abbrev pub stored_by : Option Parts → Stored
stored_by None = record { log_length = 0; root = None }
stored_by (Some parts) = stored_in parts

-- ---- At rest.

-- Both files are all on the disk, and belong together: the log fits behind the root. The parts say
-- where they lie.
pub record BothRest (past : Past) (parts : Parts) : Type 0 where
  pub root : Option Extent
  pub logged : List Logged
  pub extent : ExtentRests past parts.pages root
  pub log : LogRests past logged parts.log
  pub fits : misfit (root_number root) logged ≡ None
  pub counted : option_map stored_root parts.root ≡ counted_root root

-- A checkpoint of the image was made, up to the commit of this number, and the log emptied behind it.
pub record IsEmptied (past : Past) (parts : Parts) (image : Image) (number : ℕ) : Type 0 where
  pub next : Extent
  pub extent : ExtentRests past parts.pages (Some next)
  pub log : LogRests past [] parts.log
  pub holds : IsCheckpoint image number next
  pub counted : counted_root (Some next)
      ≡ Some (record { number = number; pages = image_pages image })

-- Of the bytes of a log so many are its records and the gate behind them. In one byte at most there
-- is no record.
abbrev pub IsLogLength : List ℕ → ℕ → Type 0
IsLogLength bytes n = ((length bytes ≤ 1) × (n ≡ 1))
    ⊎ ((logged : List Logged) × ((end : ℕ) × (EndsAt bytes logged end × (n ≡ end + 1))))

-- What is stored is what two files have: the root of the extent with the pages that it uses, where
-- there is one, and a log as long as its records and the gate behind them.
pub record IsStoredIn (files : Files) (stored : Stored) : Type 0 where
  pub root : Option Extent
  pub extent : extent_of files.extent ≡ Ok root
  pub root_is : stored.root ≡ counted_root root
  pub log_length : IsLogLength files.log stored.log_length
