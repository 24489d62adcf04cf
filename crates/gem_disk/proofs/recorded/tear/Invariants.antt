use Rattle.std.proofs.Common.{◌≡◌, drop}
use Rattle.gem_disk.specs.Picked.{torn_to}
use Rattle.gem_disk.specs.Recorded.{done_anew}
use Rattle.gem_disk.proofs.recorded.tear.Given as goal

-- the calls that are left make of the bytes what all make of them at first
abbrev pub invariant-loop-call : goal.invariant-loop-call
invariant-loop-call l =
    done_anew (torn_to l.byte) l.file l.calls l.initial.bytes.items ≡ done_anew (torn_to l.byte) l.file (drop l.call-index l.calls) l.bytes.items
