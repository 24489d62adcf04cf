use Rattle.std.proofs.Common.{◌≡◌, false, bytes_eq, take}
use Rattle.std.specs.List.{list_any}
use Rattle.prim_shared.proofs.groups.is_among.Given as goal

-- none before this one is the group
abbrev pub invariant-loop-other : goal.invariant-loop-other
invariant-loop-other l = list_any (bytes_eq l.group) (take l.other-index l.groups) ≡ false
