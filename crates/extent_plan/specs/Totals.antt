-- What a directory and a root say of leaves.
use Rattle.std.specs.Prelude.{ℕ, max, List, length, map, sum_by}
use Rattle.std.specs.List.{fold}
use Rattle.extent_pages.specs.Extent.{first_page}
use Rattle.extent_plan.specs.declared.place.LeafPlace.{LeafPlace}

-- the entry of a leaf in a directory
abbrev pub entry_of : LeafPlace → ℕ × ℕ
entry_of place = (place.number, first_page place.pages.items)

abbrev pub entries_at : List LeafPlace → List (ℕ × ℕ)
entries_at places = map entry_of places

-- how many objects leaves have, how many pages, and the largest serial of their objects' names
abbrev pub objects_at : List LeafPlace → ℕ
objects_at places = sum_by (λ (place : LeafPlace). place.count) places

abbrev pub pages_at : List LeafPlace → ℕ
pages_at places = sum_by (λ (place : LeafPlace). length place.pages.items) places

abbrev pub larger : ℕ → LeafPlace → ℕ
larger serial place = max serial place.serial

abbrev pub serial_at : List LeafPlace → ℕ
serial_at places = fold larger 0 places
