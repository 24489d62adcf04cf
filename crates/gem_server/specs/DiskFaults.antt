-- What the book of a run says of the disk.
use Rattle.std.specs.Prelude.{◌≡◌, Bool, List, Option}
use Rattle.gem_object.specs.texts.Bytes.{Bytes}
use Rattle.gem_disk.specs.Disk.{Past}
use Rattle.gem_meaning.specs.Events.{Event}
use Rattle.gem_replies.specs.declared.reply.RunBook.{RunBook}
use Rattle.script_run.specs.session_laws.Faults.{HasFault}
use Rattle.gem_server.specs.declared.status.Status.{Status}
use Rattle.gem_server.specs.declared.status.Status.TheVariants.{DiskFault}
use Rattle.gem_server.specs.Devices.{Seen, HasFailed}
use Rattle.gem_server.specs.Alone.{ServesAlone}
use Rattle.gem_server.specs.Serving.{HasRun, ServesStore}

-- Over a store a reply is `disk fault` only where the disk failed in the call, and the status then
-- says so.
abbrev pub FaultsHaveCause : Type 0
FaultsHaveCause = (tells : Bool) (source sink : Seen (Option Bytes)) (disk : Seen Past) (status : Status)
    (events : List Event) (book : RunBook)
    → ServesStore tells source sink disk status events book → HasFault book
    → (status ≡ DiskFault) × HasFailed disk

-- Where the sessions ran and the status says that the disk failed, a reply says so, too.
abbrev pub FaultsAreTold : Type 0
FaultsAreTold = (tells : Bool) (source sink : Seen (Option Bytes)) (disk : Seen Past)
    (events : List Event) (book : RunBook)
    → HasRun tells source sink disk DiskFault events book → HasFault book

-- Without a store no reply does.
abbrev pub NoFaultAlone : Type 0
NoFaultAlone = (source sink : Seen (Option Bytes)) (status : Status) (events : List Event)
    (book : RunBook) → ServesAlone source sink status events book → HasFault book → ⊥
