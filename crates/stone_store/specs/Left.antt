-- What a crash leaves of a store.
use Rattle.std.specs.Prelude.{◌≡◌, ℕ, Option}
use Rattle.gem_disk.specs.Disk.{Files, Past, CrashImages, CrashImagesSince, as_read}
use Rattle.gem_image.specs.Image.{Image}
use Rattle.gem_keeper.specs.Found.{Found, StandsFor}
use Rattle.stone_store.specs.Store.{found_of}

-- it is found in what a crash at some moment from this one on may have left
abbrev pub IsLeftSince : Past → ℕ → Option Found → Type 0
IsLeftSince past since left =
    (images : Files) × CrashImagesSince since past images × (left ≡ found_of images)

-- two files stand for an image with so many commits
abbrev pub FilesStandFor : Image → ℕ → Files → Type 0
FilesStandFor image number files = StandsFor image number (found_of files)

-- A disk as it reads is one of its crash images, and each of these stands for the image.
pub record StandsInAll (past : Past) (image : Image) (number : ℕ) : Type 0 where
  pub honest : CrashImages past (as_read past)
  pub each : (images : Files) → CrashImages past images → FilesStandFor image number images
