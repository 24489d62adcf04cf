-- The table of op codes.
use Rattle.std.specs.Prelude.{◌==◌, ℕ, List, [], ◌∷◌, Option, map, find, replicate}
use Rattle.op_table.specs.declared.ops.Op.{Op}
use Rattle.op_table.specs.declared.ops.Op.TheVariants.{PushSelf, PushNil, PushTrue, PushFalse, PushLit, MakeLit, PushLocal, StoreLocal, PushName, StoreName, Pop, Dup, Send, SuperSend, PushBlock, ReturnMethod, ReturnHome, ReturnBlock, Jump, JumpTrue, JumpFalse, Unit as TakeUnit, Enter, Leave, LoopStart, LoopNext, LoopStep}
use Rattle.op_table.specs.declared.ops.Row.{Row}

-- an op with its byte, the number of operands that follow the byte, the number of values that it
-- takes from the stack and the number that it puts there
abbrev pub row : ℕ → Op → ℕ → ℕ → ℕ → Row
row byte op operands pops pushes =
    record { byte = byte; op = op; operands = operands; pops = pops; pushes = pushes }

-- the row of each op; the comment names its operands
abbrev pub row_for : Op → Row
row_for PushSelf = row 0x00 PushSelf 0 0 1
row_for PushNil = row 0x01 PushNil 0 0 1
row_for PushTrue = row 0x02 PushTrue 0 0 1
row_for PushFalse = row 0x03 PushFalse 0 0 1
row_for PushLit = row 0x04 PushLit 1 0 1  -- literal
row_for MakeLit = row 0x05 MakeLit 1 0 1  -- literal
row_for PushLocal = row 0x06 PushLocal 2 0 1  -- depth, index
row_for StoreLocal = row 0x07 StoreLocal 2 1 1  -- depth, index
row_for PushName = row 0x08 PushName 1 0 1  -- literal
row_for StoreName = row 0x09 StoreName 1 1 1  -- literal
row_for Pop = row 0x0a Pop 0 1 0
row_for Dup = row 0x0b Dup 0 1 2
row_for Send = row 0x0c Send 2 1 1  -- literal, count; takes as many more values
row_for SuperSend = row 0x0d SuperSend 2 1 1  -- literal, count; takes as many more values
row_for PushBlock = row 0x0e PushBlock 1 0 1  -- block
row_for ReturnMethod = row 0x0f ReturnMethod 0 1 0
row_for ReturnHome = row 0x10 ReturnHome 0 1 0
row_for ReturnBlock = row 0x11 ReturnBlock 0 1 0
row_for Jump = row 0x12 Jump 1 0 0  -- target
row_for JumpTrue = row 0x13 JumpTrue 1 1 0  -- target
row_for JumpFalse = row 0x14 JumpFalse 1 1 0  -- target
row_for TakeUnit = row 0x15 TakeUnit 0 0 0
row_for Enter = row 0x16 Enter 1 0 0  -- count
row_for Leave = row 0x17 Leave 0 0 0
row_for LoopStart = row 0x18 LoopStart 0 2 2
row_for LoopNext = row 0x19 LoopNext 1 2 3  -- target; puts 3, or none where it jumps
row_for LoopStep = row 0x1a LoopStep 1 2 2  -- target; puts 2, or none where the loop ends

-- how many bytes each operand of an op takes, in their order: a depth takes one, and any other
-- operand four
abbrev pub widths : Op → List ℕ
widths PushLocal = 1 ∷ 4 ∷ []  -- depth, index
widths StoreLocal = 1 ∷ 4 ∷ []  -- depth, index
widths op = replicate (row_for op).operands 4

-- the ops, in the order of their bytes
abbrev pub all_ops : List Op
all_ops =
    PushSelf ∷ PushNil ∷ PushTrue ∷ PushFalse ∷ PushLit ∷ MakeLit
    ∷ PushLocal ∷ StoreLocal ∷ PushName ∷ StoreName ∷ Pop ∷ Dup ∷ Send ∷ SuperSend
    ∷ PushBlock ∷ ReturnMethod ∷ ReturnHome ∷ ReturnBlock ∷ Jump ∷ JumpTrue ∷ JumpFalse
    ∷ TakeUnit ∷ Enter ∷ Leave ∷ LoopStart ∷ LoopNext ∷ LoopStep ∷ []

-- the table
unfoldable pub op_rows : List Row
op_rows = map row_for all_ops

-- the row that has the byte, where there is one
unfoldable pub row_at : ℕ → Option Row
row_at byte = find (λ row. row.byte == byte) op_rows
