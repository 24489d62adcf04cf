-- What becomes of a store that is opened, and of the run of a script over it.
use Rattle.std.specs.Prelude.{◌≡◌, ℕ, Bool, true, IsTrue}
use Rattle.gem_disk.specs.Disk.{Files, Past, as_read, moment, CrashImages, CrashImagesSince}
use Rattle.gem_disk.specs.Runs.{LeavesOnly}
use Rattle.gem_image.specs.Image.{Image}
use Rattle.stone_store.specs.Store.{store_of, found_of}
use Rattle.stone_store.specs.Left.{FilesStandFor, StandsInAll}
use Rattle.stone_store.specs.Opening.{IsFound, ReadsSame}
use Rattle.stone_store.specs.Resting.{IsStoredIn}
use Rattle.gem_meaning.specs.Opened.{Opened}
use Rattle.gem_meaning.specs.Events.{Told, IsRunning}
use Rattle.gem_meaning.specs.After.{stored_after}
use Rattle.gem_meaning.specs.Serial.{CanServe}
use Rattle.stone_core.specs.Crashes.{StandsAfter, MayBeLeft, MayHaveBeenLeft}
use Rattle.gem_server.specs.Devices.{Seen, HasFailed}

-- A disk as it reads is one of its crash images, and each of these stands for all that the disk
-- stands for as it reads. A disk with nothing pending is so.
pub record IsHonest (past : Past) : Type 0 where
  pub honest : CrashImages past (as_read past)
  pub each : (image : Image) (number : ℕ) → FilesStandFor image number (as_read past)
      → (files : Files) → CrashImages past files → FilesStandFor image number files

-- Both files are read as before the call. Where a crash could only leave what stands for one image,
-- each crash in the call has left that.
pub record Stays (tells : Bool) (disk : Seen Past) : Type 0 where
  pub same : IsTrue tells → ReadsSame disk.before disk.after
  pub crash_since : (image : Image) (number : ℕ) → IsTrue tells → StandsInAll disk.before image number
      → LeavesOnly disk.before disk.after (FilesStandFor image number)

-- A Stone was opened with what these files hold, and may be.
pub record IsOpenedOn (tells : Bool) (files : Files) (o : Opened) : Type 0 where
  pub counts : o.counts_pages ≡ true
  pub can_serve : CanServe o
  pub found : IsTrue tells → IsFound (store_of files) (record { image = o.image; number = o.number })
  pub stored : IsTrue tells → IsStoredIn files o.stored

-- The disk after these events of a Stone that was opened with it. It failed in the call where they
-- tell so, and after the opening, which meets no fault where it succeeds. Where they don't, it stands
-- for the image and the number that stand after them, and has stored what they say. A crash at the end
-- leaves what stands after them, or that with the commit in flight; and each crash since the call
-- began has left what stood at some point of them, or that with the commit in flight.
pub record IsKeptOn (tells : Bool) (disk : Seen Past) (t : Told) : Type 0 where
  pub cause : (IsRunning t.events → ⊥) → HasFailed disk
  pub reads : IsTrue tells → IsRunning t.events
      → StandsAfter t.opened t.events (found_of (as_read disk.after))
  pub stored : IsTrue tells → IsRunning t.events
      → IsStoredIn (as_read disk.after) (stored_after t.opened t.events)
  pub crash : IsTrue tells → (files : Files) → CrashImages disk.after files
      → MayBeLeft t.opened t.events (found_of files)
  pub crash_since : IsTrue tells → IsHonest disk.before → (files : Files)
      → CrashImagesSince (moment disk.before) disk.after files
      → MayHaveBeenLeft t.opened t.events (found_of files)
