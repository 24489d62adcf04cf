-- How the program ends: what each end of the server's call is as an exit status.
use Rattle.std.specs.Prelude.{ℕ, Option, Some, None}
use Rattle.gem_server.specs.declared.status.Status.{Status}
use Rattle.gem_server.specs.declared.status.Status.TheVariants as status
use Rattle.gemstone.specs.declared.failure.Failure.{Failure}
use Rattle.gemstone.specs.declared.failure.Failure.TheVariants.{Usage, Script, NotStore, SerialsUsed, NotEmpty, ReadFault, DiskFault, WriteFault, NoMemory}

-- why the program fails where the server's call ended so, or None where it succeeds
abbrev pub failure_of : Status → Option Failure
failure_of status.Done = None
failure_of status.Usage = Some Usage
failure_of (status.Script line rule) = Some (Script line rule)
failure_of (status.NotStore flaw) = Some (NotStore flaw)
failure_of (status.SerialsUsed base sessions) = Some (SerialsUsed base sessions)
failure_of (status.NotEmpty extent log) = Some (NotEmpty extent log)
failure_of status.ReadFault = Some ReadFault
failure_of status.DiskFault = Some DiskFault
failure_of status.WriteFault = Some WriteFault
failure_of status.NoMemory = Some NoMemory

-- the exit status: 0 is success
abbrev pub number_of : Failure → ℕ
number_of Usage = 2
number_of (Script line rule) = 3
number_of (NotStore flaw) = 4
number_of (SerialsUsed base sessions) = 5
number_of (NotEmpty extent log) = 6
number_of ReadFault = 7
number_of DiskFault = 8
number_of WriteFault = 9
number_of NoMemory = 10
