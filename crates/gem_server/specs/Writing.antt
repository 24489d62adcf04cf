-- How writing ends.
use Rattle.std.specs.Prelude.{◌≡◌, ◌≤◌, Option}
use Rattle.gem_object.specs.texts.Bytes.{Bytes}
use Rattle.gem_server.specs.declared.status.Status.{Status}
use Rattle.gem_server.specs.declared.status.Status.TheVariants.{Done, WriteFault, NoMemory}
use Rattle.gem_server.specs.Devices.{Seen, HasFailed, IsUnused, IsWritten, IsPartWritten}

-- All of the bytes were written, and the sink didn't fail; or it failed behind a part of them.
abbrev pub HasWritten : Seen (Option Bytes) → Bytes → Status → Type 0
HasWritten sink bytes Done = IsWritten sink bytes × (sink.faults_after ≡ sink.faults)
HasWritten sink bytes WriteFault = HasFailed sink × IsPartWritten sink bytes
    × (sink.faults ≤ sink.faults_after)
HasWritten sink bytes _ = ⊥

-- the same, or there was no memory, and nothing was written
abbrev pub HasWrittenOrNot : Seen (Option Bytes) → Bytes → Status → Type 0
HasWrittenOrNot sink bytes NoMemory = IsUnused sink
HasWrittenOrNot sink bytes status = HasWritten sink bytes status
