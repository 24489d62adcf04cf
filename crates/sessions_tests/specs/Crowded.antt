-- An extent whose root uses nearly all pages.
use Rattle.std.specs.Prelude.{◌≡◌, ◌<◌, ℕ, Some, IfSome}
use Rattle.std.specs.FinMap.{get}
use Rattle.gem_object.specs.declared.object.Object.{Object}
use Rattle.gem_record.specs.gem_image.Image.{Image}
use Rattle.gem_record.specs.Stored.{Root, Stored}

-- a root of 262,141 pages, before any commit
abbrev pub large_root : Root
large_root = record { number = 0; pages = 262141 }

-- a log of this length, and that root
abbrev pub crowded : (length : ℕ) → Stored
crowded length = record { log_length = length; root = Some large_root }

-- the object stands in the first leaf, and no commit has changed it
abbrev pub IsPlain : ℕ → Object → Type 0
IsPlain name object = (name < 64) × (object.changed ≡ 0)

-- so does each object of the image
abbrev pub ArePlain : Image → Type 0
ArePlain image = (name : ℕ) → IfSome (get image name) (IsPlain name)
