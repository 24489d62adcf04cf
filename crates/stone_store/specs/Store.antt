-- What the two files of a store hold, and what they stand for.
use Rattle.std.specs.Prelude.{ℕ, ◌+◌, ◌*◌, ◌==◌, nat_lt, Bool, if◌then◌else◌, List, [], ◌∷◌, Option, Some, None, Result, Ok, Err}
use Rattle.std.specs.List.{filter, fold}
use Rattle.std.specs.FinMap.{get}
use Rattle.gem_disk.specs.Disk.{Files}
use Rattle.gem_image.specs.Image.{Image, with_objects}
use Rattle.kernel_image.specs.Objects.{kernel_image}
use Rattle.extent_pages.specs.Pages.{page_size, Fault as PagesFault}
use Rattle.extent_pages.specs.Extent.{Extent, image_in, extent_of}
use Rattle.tran_log.specs.declared.fault.LogRule.TheVariants as rule
use Rattle.tran_log.specs.declared.logged.Logged.{Logged}
use Rattle.tran_log.specs.Log.{Fault as RecordsFault, log_of}
use Rattle.gem_keeper.specs.Found.{Found}
use Rattle.stone_store.specs.declared.fault.StoreFlaw.{StoreFlaw}
use Rattle.stone_store.specs.declared.fault.StoreFlaw.TheVariants as flaw

-- ---- The root.

-- the image of the root, and up to which commit it goes: the kernel's image and 0 where no checkpoint
-- was made
abbrev pub root_image : Option Extent → Image
root_image None = kernel_image
root_image (Some extent) = image_in extent

abbrev pub root_number : Option Extent → ℕ
root_number None = 0
root_number (Some extent) = extent.number

-- ---- The log behind it.

-- it is the record of a commit after the one of this number
abbrev pub is_after : ℕ → Logged → Bool
is_after number one = nat_lt number one.effect.number

-- the records of the commits after the one of this number; those up to it are skipped
abbrev pub records_after : ℕ → List Logged → List Logged
records_after number logged = filter (is_after number) logged

-- the last of some records, behind this one, where there is one
abbrev pub last_of : Option Logged → List Logged → Option Logged
last_of last [] = last
last_of last (one ∷ logged) = last_of (Some one) logged

-- Which record shows that a log doesn't belong behind a root that goes up to this number, by its
-- records after that and by its last one: the first record after the root, where it isn't that of
-- the next commit; or, where there is none, the last record, where it is of an earlier commit.
abbrev pub misfit_among : ℕ → List Logged → Option Logged → Option Logged
misfit_among number (first ∷ later) last =
    if first.effect.number == number + 1 then None else Some first
misfit_among number [] None = None
misfit_among number [] (Some last) = if nat_lt last.effect.number number then Some last else None

abbrev pub misfit : ℕ → List Logged → Option Logged
misfit number logged = misfit_among number (records_after number logged) (last_of None logged)

-- ---- Both.

-- what the files of a store hold: the root, if there is one, and the records behind it
pub record Held : Type 0 where
  pub root : Option Extent
  pub records : List Logged

abbrev pub held_unless : Option Extent → List Logged → Option Logged → Result Held StoreFlaw
held_unless root logged None =
    Ok (record { root = root; records = records_after (root_number root) logged })
held_unless root logged (Some one) = Err (flaw.Log one.at rule.Number)

abbrev pub held_over : Option Extent → Result (List Logged) RecordsFault → Result Held StoreFlaw
held_over root (Err fault) = Err (flaw.Log fault.0 fault.1)
held_over root (Ok logged) = held_unless root logged (misfit (root_number root) logged)

-- By what is read of the extent and of the log. A flaw of the extent comes before one of the log,
-- and one within the log before one that shows only behind the root.
abbrev pub held_by : Result (Option Extent) PagesFault → Result (List Logged) RecordsFault
    → Result Held StoreFlaw
held_by (Err fault) log = Err (flaw.Extent (page_size * fault.0) fault.1)
held_by (Ok root) log = held_over root log

-- what two files hold, or the first flaw for which they are no store
abbrev pub store_of : Files → Result Held StoreFlaw
store_of files = held_by (extent_of files.extent) (log_of files.log)

-- ---- What they stand for.

-- the image with the objects of these records, one after the other
abbrev pub with_records : Image → List Logged → Image
with_records image records = fold (λ made one. with_objects made one.effect.objects) image records

-- the number of the last of these records, or this one where there is none
abbrev pub last_number : ℕ → List Logged → ℕ
last_number number [] = number
last_number number (one ∷ records) = last_number one.effect.number records

abbrev pub image_of : Held → Image
image_of held = with_records (root_image held.root) held.records

abbrev pub number_of : Held → ℕ
number_of held = last_number (root_number held.root) held.records

-- What is found. The objects of the root count as changed by no commit, those of a record as changed
-- by its commit.
abbrev pub found_in : Held → Found
found_in held = record {
  objects = λ name. get (image_of held) name;
  number = number_of held;
  root = root_number held.root;
}

abbrev pub found_by : Result Held StoreFlaw → Option Found
found_by (Err flaw) = None
found_by (Ok held) = Some (found_in held)

-- what is found in two files, where they are a store
abbrev pub found_of : Files → Option Found
found_of files = found_by (store_of files)
