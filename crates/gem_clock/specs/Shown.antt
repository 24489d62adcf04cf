-- What contracts see of a clock, of its pen and of a stamp.
use Rattle.std.specs.Prelude.{◌≡◌, ℕ, ◌+◌, List, [], length, Some, slice_get}
use Rattle.atomic_table.specs.Seated.{TableId}

-- which clock it is, and how many authors it has
pub record ClockId : Type 0 where
  pub table : TableId
  pub authors : ℕ

-- no clock: it has no word and no author. It stands where a clock is picked at each call
abbrev pub no_clock : ClockId
no_clock = record {
  table = record {
    words = 0;
    slots = 0;
    views_name = 0;
    atom = 0;
    block = 0;
    offset = 0;
    slot_names = [];
  };
  authors = 0;
}

-- the pen of a clock: the authors that it holds, and the list, which is all pairs that were added
pub record PenView (E : Type 0) : Type 0 where
  pub clock : ClockId
  pub held : List ℕ
  pub list : List (ℕ × E)

-- a stamp of a clock: its author, and the list as it was when the stamp was made
pub record StampView (E : Type 0) : Type 0 where
  pub clock : ClockId
  pub author : ℕ
  pub list : List (ℕ × E)

-- the pen of a new clock that has given away all its authors
abbrev pub first_pen : {E : Type 0} → ClockId → PenView E
first_pen clock = record { clock = clock; held = []; list = [] }

-- a stamp of the author that has seen nothing
abbrev pub first_stamp : {E : Type 0} → ClockId → ℕ → StampView E
first_stamp clock author = record { clock = clock; author = author; list = [] }

-- a stamp for each author from 1 to this number, in this order, which has seen nothing
pub record AreFirst {E : Type 0} (clock : ClockId) (authors : ℕ) (stamps : List (StampView E))
    : Type 0 where
  pub count : length stamps ≡ authors
  pub each : (index : ℕ) (stamp : StampView E) → slice_get stamps index ≡ Some stamp
      → stamp ≡ first_stamp clock (index + 1)
