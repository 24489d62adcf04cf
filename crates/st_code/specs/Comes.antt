-- Ways: to which places one comes, and with what.
use Rattle.std.specs.Prelude.{◌≡◌, ◌⊎◌, ℕ, true, List, [], ◌∷◌, slice_get, Some}
use Rattle.st_code.specs.declared.blocks.BlockCode.{BlockCode}
use Rattle.st_code.specs.declared.line.Line.{Line}
use Rattle.st_code.specs.declared.ways.Way.{Way}
use Rattle.st_code.specs.Held.{Held}
use Rattle.st_code.specs.Lines.{Lines, is_of}
use Rattle.st_code.specs.Ways.{ways_on, first_ways}

-- it is one of these steps
abbrev pub IsOneOf : List Way → Way → Type 0
IsOneOf [] way = ⊥
IsOneOf (first ∷ later) way = (first ≡ way) ⊎ IsOneOf later way

-- Some way from the beginning comes to a place and brings this there. A step that leaves its block
-- is none.
pub data Comes (lines : Lines) (blocks : List BlockCode) : ℕ → Held → Type 0 where
  begins : (way : Way) → IsOneOf (first_ways blocks) way → Comes lines blocks way.to way.held
  goes : (at : ℕ) (held : Held) (line : Line) (way : Way) → Comes lines blocks at held
      → slice_get lines at ≡ Some (Some line) → IsOneOf (ways_on blocks line held) way
      → is_of way.block (slice_get lines way.to) ≡ true → Comes lines blocks way.to way.held
