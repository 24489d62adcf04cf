-- The rights in their order.
use Rattle.std.specs.Prelude.{ℕ, ◌≤◌, Bool, true, false}
use Rattle.seg_rights.specs.declared.right.Right.{Right}
use Rattle.seg_rights.specs.declared.right.Right.TheVariants.{None, Read, Write}

-- the place of a right in the order: no right, then reading, then reading and writing
abbrev pub rank_of : Right → ℕ
rank_of None = 0
rank_of Read = 1
rank_of Write = 2

-- the first right allows no more than the second
abbrev pub IsAtMost : Right → Right → Type 0
IsAtMost right other = rank_of right ≤ rank_of other

-- whether a right allows reading
abbrev pub allows_read : Right → Bool
allows_read None = false
allows_read Read = true
allows_read Write = true

-- whether a right allows writing
abbrev pub allows_write : Right → Bool
allows_write None = false
allows_write Read = false
allows_write Write = true

-- the greater of two rights
abbrev pub greater_of : Right → Right → Right
greater_of None other = other
greater_of Read Write = Write
greater_of Read _ = Read
greater_of Write _ = Write
