-- Pieces that are written into a file, and what of the file has to stay.
use Rattle.std.specs.Prelude.{◌≡◌, ◌⊎◌, ℕ, ◌+◌, ◌*◌, ◌≤◌, max, Bool, true, List, [], ◌∷◌, length, take, drop}
use Rattle.gem_disk.specs.Disk.{placed, Torn}

-- bytes, and the offset from which on they are to stand in a file
pub record Piece : Type 0 where
  pub at : ℕ
  pub bytes : List ℕ

-- where a piece ends
abbrev pub end_of : Piece → ℕ
end_of piece = piece.at + length piece.bytes

-- Each piece begins inside the file or at its end, which may be that of a piece before it.
abbrev pub Reach : ℕ → List Piece → Type 0
Reach size [] = Unit {0}
Reach size (piece ∷ pieces) = (piece.at ≤ size) × Reach (max size (end_of piece)) pieces

-- Each piece begins at the end of the one before it, or behind it.
abbrev pub Ascend : ℕ → List Piece → Type 0
Ascend from [] = Unit {0}
Ascend from (piece ∷ pieces) = (from ≤ piece.at) × Ascend (end_of piece) pieces

-- What of a file has to stay: a front of so many bytes, and some of the blocks of one size into
-- which the file is cut, by their numbers.
pub record Kept : Type 0 where
  pub front : ℕ
  pub size : ℕ
  pub blocks : ℕ → Bool

-- n bytes from an offset on touch nothing of that.
pub record Misses (kept : Kept) (at n : ℕ) : Type 0 where
  pub front : kept.front ≤ at
  pub blocks : (block : ℕ) → kept.blocks block ≡ true
      → (kept.size * block + kept.size ≤ at) ⊎ (at + n ≤ kept.size * block)

-- no piece touches any of it
abbrev pub AllMiss : Kept → List Piece → Type 0
AllMiss kept [] = Unit {0}
AllMiss kept (piece ∷ pieces) = Misses kept piece.at (length piece.bytes) × AllMiss kept pieces

-- the block of this size and number
abbrev pub block_of : ℕ → ℕ → List ℕ → List ℕ
block_of size block file = take size (drop (size * block) file)

-- The image has what has to stay of the file: its front, and of these blocks each one that lies
-- whole within the file. It isn't shorter.
pub record Keeps (kept : Kept) (file image : List ℕ) : Type 0 where
  pub front : take kept.front image ≡ take kept.front file
  pub no_shorter : length file ≤ length image
  pub same : (block : ℕ) → kept.blocks block ≡ true
      → kept.size * block + kept.size ≤ length file
      → block_of kept.size block image ≡ block_of kept.size block file

-- a piece stands in a file
pub record Stands (file : List ℕ) (piece : Piece) : Type 0 where
  pub inside : end_of piece ≤ length file
  pub reads : take (length piece.bytes) (drop piece.at file) ≡ piece.bytes

-- all of them do
abbrev pub Stand : List ℕ → List Piece → Type 0
Stand file [] = Unit {0}
Stand file (piece ∷ pieces) = Stands file piece × Stand file pieces

-- The pieces stand in the file, and what has to stay of an older one does.
pub record IsBrought (kept : Kept) (pieces : List Piece) (file written : List ℕ) : Type 0 where
  pub keeps : Keeps kept file written
  pub stand : Stand written pieces

-- What a crash may leave while the pieces, and then one byte, are written: a file that has what has
-- to stay, or one in which all pieces stand, with anything at the offset of the byte.
abbrev pub IsEither : Kept → List Piece → ℕ → List ℕ → List ℕ → Type 0
IsEither kept pieces at file image = Keeps kept file image
    ⊎ ((written : List ℕ) × IsBrought kept pieces file written × Torn at 1 written image)

-- The pieces stand in the file, and then this byte was written at that offset.
pub record IsSwitched (kept : Kept) (pieces : List Piece) (at byte : ℕ) (file now : List ℕ)
    : Type 0 where
  pub written : List ℕ
  pub brought : IsBrought kept pieces file written
  pub now_is : now ≡ placed at (byte ∷ []) written
