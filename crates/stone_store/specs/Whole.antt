-- A store as contracts see it, and what holds of every one.
use Rattle.std.specs.Prelude.{ℕ, Option, Some, None}
use Rattle.gem_disk.specs.Disk.{Files, Past, moment, as_read}
use Rattle.gem_keeper.specs.Found.{Found}
use Rattle.stone_store.specs.declared.parts.Parts.{Parts}
use Rattle.stone_store.specs.Store.{found_of}
use Rattle.stone_store.specs.Left.{IsLeftSince}
use Rattle.stone_store.specs.Resting.{stored_in, BothRest, IsStoredIn}

-- A store: its disk, and where what it stores lies, while it is ready.
pub record StoreOf (D : Type 0) : Type 0 where
  pub disk : D
  pub parts : Option Parts

-- where parts are known, both files are at rest
abbrev pub RestsBy : Past → Option Parts → Type 0
RestsBy past None = Unit {0}
RestsBy past (Some parts) = BothRest past parts

-- and what is stored is what the files have
abbrev pub StoresBy : Files → Option Parts → Type 0
StoresBy files None = Unit {0}
StoresBy files (Some parts) = IsStoredIn files (stored_in parts)

module _ {D : Type 0} (past : D → Past) where
  abbrev pub store_moment : StoreOf D → ℕ
  store_moment store = moment (past store.disk)

  -- what is found where the store is opened as its disk reads
  abbrev pub store_stands : StoreOf D → Option Found
  store_stands store = found_of (as_read (past store.disk))

  abbrev pub store_left : StoreOf D → ℕ → Option Found → Type 0
  store_left store since left = IsLeftSince (past store.disk) since left
