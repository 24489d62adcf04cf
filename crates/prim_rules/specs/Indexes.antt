-- Indexes of the language, which count from 1.
use Rattle.std.specs.Prelude.{ℕ, ◌-◌, ℤ, pos, ◌+ℤ◌, int_le, unsigned_abs, Bool, ◌&&◌, cond, length, slice_range, List, Option, None, Some}

-- whether an index is that of an item among so many
abbrev pub is_index : (size : ℕ) → ℤ → Bool
is_index size index = int_le (pos 1) index && int_le index (pos size)

-- its place, counted from 0
abbrev pub place_in : (size : ℕ) → ℤ → Option ℕ
place_in size index = cond (is_index size index) (Some (unsigned_abs index - 1)) None

-- whether two indexes are the bounds of a part: 1 <= from, to <= size and from <= to + 1
abbrev pub are_bounds : (size : ℕ) → (from to : ℤ) → Bool
are_bounds size from to =
    int_le (pos 1) from && (int_le to (pos size) && int_le from (to +ℤ pos 1))

-- the part from one index to the other
abbrev pub part_of : {X : Type 0} → (items : List X) → (from to : ℤ) → Option (List X)
part_of items from to = cond (are_bounds (length items) from to)
    (Some (slice_range items (unsigned_abs from - 1) (unsigned_abs to))) None
