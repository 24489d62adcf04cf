-- The pieces that put a chain into a file.
use Rattle.std.specs.Prelude.{ℕ, ◌*◌, ◌+◌, ◌-◌, ◌/◌, ◌<◌, ◌≤◌, List, [], ◌∷◌, length, take, drop}
use Rattle.disk_pieces.specs.Pieces.{Piece}
use Rattle.extent_pages.specs.Pages.{page_size, payload_size}
use Rattle.extent_pages.specs.Spelled.{spelled_page}

-- a page of a chain, with this page behind it, as a piece
abbrev pub page_piece : ℕ → ℕ → List ℕ → Piece
page_piece page next payload = record {
  at = page_size * page;
  bytes = spelled_page next payload;
}

-- the pieces of a chain of these pages with this payload, page by page
abbrev pub chain_pieces : List ℕ → List ℕ → List Piece
chain_pieces [] payload = []
chain_pieces (page ∷ []) payload = page_piece page 0 payload ∷ []
chain_pieces (page ∷ next ∷ pages) payload = page_piece page next (take payload_size payload)
    ∷ chain_pieces (next ∷ pages) (drop payload_size payload)

-- A payload fills these pages: each one but the last is full, and the last has a byte at least.
abbrev pub Fills : List ℕ → List ℕ → Type 0
Fills [] payload = ⊥
Fills (page ∷ []) payload = (0 < length payload) × (length payload ≤ payload_size)
Fills (page ∷ next ∷ pages) payload =
    (payload_size < length payload) × Fills (next ∷ pages) (drop payload_size payload)

-- how many pages a payload of so many bytes fills
abbrev pub pages_filled : ℕ → ℕ
pages_filled count = (count + (payload_size - 1)) / payload_size
