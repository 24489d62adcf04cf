-- The bytes of code as instructions, one after the other in each block.
use Rattle.std.specs.Prelude.{◌≡◌, ℕ, zero, suc, ◌+◌, ◌-◌, ◌==◌, nat_lt, Bool, true, false, ◌&&◌, if◌then◌else◌, List, [], ◌∷◌, ◌++◌, length, take, drop, slice_index, slice_range, Option, None, Some, Result, Ok, Err, Vec}
use Rattle.std.specs.Global.{Global}
use Rattle.std.specs.Int.{w32, from_le_bytes}
use Rattle.op_table.specs.Ops.{widths, row_at}
use Rattle.op_table.specs.declared.ops.Op.{Op}
use Rattle.op_table.specs.declared.ops.Row.{Row}
use Rattle.st_code.specs.declared.blocks.BlockCode.{BlockCode}
use Rattle.st_code.specs.declared.fault.CodeFault.{CodeFault}
use Rattle.st_code.specs.declared.fault.CodeFault.TheVariants.{Byte, NoMemory}
use Rattle.st_code.specs.declared.line.Line.{Line}

-- where a block ends of which these are the later ones: where the next one starts, or with the code
abbrev pub end_of : (size : ℕ) → List BlockCode → ℕ
end_of size [] = size
end_of size (next ∷ later) = next.start

-- each block ends above its start
abbrev pub ascend : (size : ℕ) → List BlockCode → Bool
ascend size [] = true
ascend size (block ∷ later) = nat_lt block.start (end_of size later) && ascend size later

abbrev pub starts_at : ℕ → List BlockCode → Bool
starts_at place [] = false
starts_at place (first ∷ later) = first.start == place

-- there is a block, and the starts begin at 0 and ascend below the size
abbrev pub are_blocks : (size : ℕ) → List BlockCode → Bool
are_blocks size blocks = starts_at 0 blocks && ascend size blocks

-- a number of one byte, or of four, the lowest first
abbrev pub number_in : List ℕ → ℕ
number_in (only ∷ []) = only
number_in (a ∷ b ∷ c ∷ d ∷ []) = from_le_bytes w32 (a ∷ b ∷ c ∷ d ∷ [])
number_in other = 0

-- how many bytes the operand of this number takes, 0 where there is none
abbrev pub width : Op → ℕ → ℕ
width op number = slice_index (widths op) number

-- the instruction of a row with the bytes behind its own
abbrev pub line_of : (block at : ℕ) → Row → List ℕ → Line
line_of block at row rest = record {
  row = row;
  first = number_in (take (width row.op 0) rest);
  second = number_in (take (width row.op 1) (drop (width row.op 0) rest));
  next = at + 1 + width row.op 0 + width row.op 1;
  block = block;
}

-- the same where its operands are there
abbrev pub whole_line : (block at : ℕ) → Row → List ℕ → Option Line
whole_line block at row rest =
    if nat_lt (length rest) (width row.op 0 + width row.op 1) then None
    else Some (line_of block at row rest)

abbrev pub line_by : (block at : ℕ) → Option Row → List ℕ → Option Line
line_by block at None rest = None
line_by block at (Some row) rest = whole_line block at row rest

-- the instruction at the front of these bytes, if its byte has a row and its operands are there
unfoldable pub line_at : (block at : ℕ) → List ℕ → Option Line
line_at block at [] = None
line_at block at (byte ∷ rest) = line_by block at (row_at byte) rest

-- what stands at each place: an instruction where one begins, and else nothing
abbrev pub Lines : Type 0
Lines = List (Option Line)

abbrev pub with_first : Option Line → Result Lines ℕ → Result Lines ℕ
with_first first (Ok lines) = Ok (first ∷ lines)
with_first first (Err place) = Err place

abbrev pub after_line : (at : ℕ) → Option Line → (ℕ → Result Lines ℕ) → Result Lines ℕ
after_line at None rest = Err at
after_line at (Some line) rest = with_first (Some line) (rest (line.next - (at + 1)))

-- What stands at the places of a block's bytes from here on, where so many of them are operands
-- yet; or the place at which an instruction has to begin and none does.
abbrev pub lines_from : (block at skip : ℕ) → List ℕ → Result Lines ℕ
lines_from block at skip [] = Ok []
lines_from block at (suc skip) (byte ∷ rest) =
    with_first None (lines_from block (at + 1) skip rest)
lines_from block at zero (byte ∷ rest) =
    after_line at (line_at block at (byte ∷ rest)) (λ skip. lines_from block (at + 1) skip rest)

abbrev pub joined : (first second : Result Lines ℕ) → Result Lines ℕ
joined (Err place) second = Err place
joined (Ok first) (Err place) = Err place
joined (Ok first) (Ok second) = Ok (first ++ second)

-- the same of these blocks, the first of which has this number
abbrev pub lines_of : (bytes : List ℕ) → (number : ℕ) → List BlockCode → Result Lines ℕ
lines_of bytes number [] = Ok []
lines_of bytes number (block ∷ later) =
    joined
    (lines_from number block.start 0 (slice_range bytes block.start (end_of (length bytes) later)))
    (lines_of bytes (suc number) later)

-- what came of reading: these instructions, the place at which none begins, or no memory
abbrev pub IsByteFault : Result Lines ℕ → CodeFault → Type 0
IsByteFault read (Byte at) = read ≡ Err at
IsByteFault read NoMemory = Unit {0}
IsByteFault read other = ⊥

abbrev pub AreRead : Result Lines ℕ → Result (Vec (Option Line) Global) CodeFault → Type 0
AreRead read (Ok lines) = read ≡ Ok lines.items
AreRead read (Err fault) = IsByteFault read fault

-- an instruction of this block
abbrev pub is_of : (block : ℕ) → Option (Option Line) → Bool
is_of block (Some (Some line)) = line.block == block
is_of block other = false
