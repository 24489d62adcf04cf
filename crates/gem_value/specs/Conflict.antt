-- The kinds of conflict by their numbers.
use Rattle.std.specs.Prelude.{ℕ}
use Rattle.gem_value.specs.declared.conflict.ConflictKind.{ConflictKind}
use Rattle.gem_value.specs.declared.conflict.ConflictKind.TheVariants.{WriteWrite, ReadWrite, WriteReadLock, WriteWriteLock, CounterRange, BagRemove, DictionaryKey, QueueRemove}

-- the number that a report prints after `C`
abbrev pub kind_number : ConflictKind → ℕ
kind_number WriteWrite = 1
kind_number ReadWrite = 2
kind_number WriteReadLock = 3
kind_number WriteWriteLock = 4
kind_number CounterRange = 5
kind_number BagRemove = 6
kind_number DictionaryKey = 7
kind_number QueueRemove = 8
