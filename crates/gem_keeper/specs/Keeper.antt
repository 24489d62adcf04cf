-- What a keeper's faults say.
use Rattle.std.specs.Prelude.{◌≡◌, ◌<◌, ◌≤◌, ◌+◌, ℕ}
use Rattle.tran_log.specs.declared.log.AppendFault.{AppendFault}
use Rattle.tran_log.specs.declared.log.AppendFault.TheVariants as append
use Rattle.gem_record.specs.Stored.{Stored}
use Rattle.gem_record.specs.declared.limits.TheConstants.{LOG_LIMIT, PAGE_LIMIT}
use Rattle.gem_keeper.specs.declared.keeper.CheckFault.{CheckFault}
use Rattle.gem_keeper.specs.declared.keeper.CheckFault.TheVariants.{Full, Disk, NoMemory}

-- Why a record of this size wasn't added: the log is full, and all stayed the `same`; or it isn't,
-- and the count of the disk's faults has `risen`.
abbrev pub AppendFails : Stored → (size : ℕ) → (same risen : Type 0) → AppendFault → Type 0
AppendFails stored size same risen (append.Full length bytes) =
    (LOG_LIMIT < stored.log_length + size) × (length ≡ stored.log_length) × (bytes ≡ size) × same
AppendFails stored size same risen append.Disk =
    (stored.log_length + size ≤ LOG_LIMIT) × risen

-- Why a checkpoint that counts so many pages wasn't made, in the same way; or memory ran out.
abbrev pub CheckFails : (pages : ℕ) → (same risen : Type 0) → CheckFault → Type 0
CheckFails pages same risen (Full count) = (PAGE_LIMIT < pages) × (count ≡ pages) × same
CheckFails pages same risen Disk = (pages ≤ PAGE_LIMIT) × risen
CheckFails pages same risen NoMemory = same
