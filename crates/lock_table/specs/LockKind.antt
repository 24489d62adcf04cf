-- The kinds of lock.
use Rattle.std.specs.Prelude.{Bool, true, false, Option, Some, None}
use Rattle.lock_table.specs.declared.lock.LockKind.{LockKind}
use Rattle.lock_table.specs.declared.lock.LockKind.TheVariants.{Read, Write}

-- whether the kind is Write
abbrev pub is_write : LockKind → Bool
is_write Read = false
is_write Write = true

-- the greater of two kinds
abbrev pub greater_kind : LockKind → LockKind → LockKind
greater_kind Read other = other
greater_kind Write other = Write

-- the kind in which a session holds what it is granted in a kind, by the kind in which it held it
-- before, if it did
abbrev pub kind_granted : Option LockKind → LockKind → LockKind
kind_granted None kind = kind
kind_granted (Some held) kind = greater_kind held kind
