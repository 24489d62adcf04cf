-- What an update leaves of a counter, and what a merge of updates does.
use Rattle.std.specs.Prelude.{if◌then◌else◌, ℤ, pos, ◌+ℤ◌, List, fold, Option, Some, None}
use Rattle.texts.specs.SmallInteger.{is_small_integer}

-- the number, where it is a SmallInteger
abbrev pub small_integer : ℤ → Option ℤ
small_integer n = if is_small_integer n then Some n else None

-- the sum of the updates
abbrev pub total : List ℤ → ℤ
total updates = fold ◌+ℤ◌ (pos 0) updates

-- the value after the update, or None where the update is refused
abbrev pub updated : ℤ → ℤ → Option ℤ
updated by value = small_integer (value +ℤ by)

-- What a commit makes of updates that were made at the view: the place's value plus their sum, or
-- None where the merge is refused.
abbrev pub merged : ℤ → ℤ → List ℤ → Option ℤ
merged view place updates = small_integer (place +ℤ total updates)
