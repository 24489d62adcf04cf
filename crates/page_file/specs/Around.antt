-- What a checkpoint writes around its root.
use Rattle.std.specs.Prelude.{ℕ, ◌*◌, ◌-◌, List, [], ◌∷◌, replicate}
use Rattle.disk_pieces.specs.Pieces.{Piece}
use Rattle.extent_pages.specs.Pages.{page_size}
use Rattle.extent_plan.specs.Plan.{Around as IsAround}

-- so many zeros
unfoldable pub zeros : ℕ → List ℕ
zeros count = replicate count 0

-- the bytes between the gate and the first root: a selector that names that root, and zeros
abbrev pub selector_piece : Piece
selector_piece = record { at = 1; bytes = 1 ∷ zeros (page_size - 2) }

-- an empty page in the place of the second root
abbrev pub empty_piece : Piece
empty_piece = record { at = page_size * 2; bytes = zeros page_size }

-- around the root of a first checkpoint, before which the file may have no page
abbrev pub first_around : IsAround
first_around = record { before = selector_piece ∷ []; after = empty_piece ∷ [] }

-- around that of a later one: nothing
abbrev pub later_around : IsAround
later_around = record { before = []; after = [] }
